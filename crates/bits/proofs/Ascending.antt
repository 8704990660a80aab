-- Laws of ascending lists: a list of numbers that ascends is settled by its members. They rest on the laws of membership (Range) and of
-- rising lists (Rising).
--   ascending-from, below-upto                     == ranges ascend and are bounded
--   ascending-tail, ascending-keep, below-keep     == so do tails and choices of what does
--   after-mem, below-mem, mem_below                == the bounds, at members
--   ascending-ext                                  == ascending lists with the same members are equal
--   ascending-map                                  == a map that keeps the order of the members
--   keep-upto-of                                   == an ascending list as a choice from a range
use mathlib.Core.Bool.{Bool, true, ◌&&◌, false≢true}
use mathlib.Core.List.{List, [], ◌∷◌, map}
use mathlib.Core.Logic.{inl, inr}
use mathlib.Core.Path.{◌≡◌, sym, ap, ◌∙◌, subst}
use Prim.Native.Nat.{ℕ, zero, suc, ◌<◌}
use native.Mathlib.Omega.{arith}
use lib.Dec.{ltb}
use borrow.Author.Tests.{ltb-true, lt-ltb}
use Rattle.bits.specs.Range.{from, upto, keep, any, mem, After, Ascending, Below}
use Rattle.bits.proofs.Truth.{and_intro, and-true-l, and_true_r, decide, bool-ext}
use Rattle.bits.proofs.Rising.{rising-ext}
use Rattle.bits.proofs.Range.{keep-true, keep-false, mem-head, mem-tail, mem-cons, mem-keep, mem-upto}

after-from : (a k : ℕ) → After a (from (suc a) k)
unfolding from
after-from a zero = tt
after-from a (suc k) = (omega arith, after-from (suc a) k)

pub ascending-from : (a k : ℕ) → Ascending (from a k)
unfolding from
ascending-from a zero = tt
ascending-from a (suc k) = after-from a k

pub mem_below : (k : ℕ) (l : List ℕ) → ((x : ℕ) → mem x l ≡ true → x < k) → Below k l
mem_below k [] h = tt
mem_below k (x ∷ l) h = (h x (mem-head x l), mem_below k l (λ y m. h y (mem-tail x l y m)))

pub below-mem : (k : ℕ) (l : List ℕ) (x : ℕ) → Below k l → mem x l ≡ true → x < k
unfolding any
below-mem k [] x h m = absurd (false≢true m)
below-mem k (y ∷ l) x h m = elim (mem-cons y l x m) [ inl e ↦ omega arith | inr r ↦ below-mem k l x h.1 r ]

pub below-upto : (k : ℕ) → Below k (upto k)
below-upto k = mem_below k (upto k) (λ x m. ltb-true x k (sym (mem-upto k x) ∙ m))

pub below-keep : (k : ℕ) (p : ℕ → Bool) (l : List ℕ) → Below k l → Below k (keep p l)
below-keep k p l h = mem_below k (keep p l) (λ x m. below-mem k l x h (and-true-l (mem x l) (p x) (sym (mem-keep p l x) ∙ m)))

pub after-mem : (a : ℕ) (l : List ℕ) (x : ℕ) → After a l → mem x l ≡ true → a < x
unfolding any
after-mem a [] x h m = absurd (false≢true m)
after-mem a (y ∷ l) x h m = elim (mem-cons y l x m) [ inl e ↦ omega arith | inr r ↦ let g = after-mem y l x h.1 r in omega arith ]

after_less : {a b : ℕ} (l : List ℕ) → a < b → After b l → After a l
after_less [] h s = tt
after_less (x ∷ l) h s = (omega arith, s.1)

after-ascending : (a : ℕ) (l : List ℕ) → After a l → Ascending l
after-ascending a [] s = tt
after-ascending a (x ∷ l) s = s.1

pub ascending-tail : (x : ℕ) (l : List ℕ) → Ascending (x ∷ l) → Ascending l
ascending-tail x l s = after-ascending x l s

module _ (p : ℕ → Bool) where
  after-keep : (a : ℕ) (l : List ℕ) → After a l → After a (keep p l)
  unfolding keep
  after-keep a [] s = tt
  after-keep a (x ∷ l) s = elim (decide (p x)) [
    | inl e ↦ subst (After a) (sym (keep-true p x l e)) (s.0, after-keep x l s.1)
    | inr e ↦ subst (After a) (sym (keep-false p x l e)) (after_less (keep p l) s.0 (after-keep x l s.1))
  ]

  pub ascending-keep : (l : List ℕ) → Ascending l → Ascending (keep p l)
  unfolding keep
  ascending-keep [] s = tt
  ascending-keep (x ∷ l) s = elim (decide (p x)) [
    | inl e ↦ subst Ascending (sym (keep-true p x l e)) (after-keep x l s)
    | inr e ↦ subst Ascending (sym (keep-false p x l e)) (after-ascending x (keep p l) (after-keep x l s))
  ]

pub ascending-ext : (l k : List ℕ) → Ascending l → Ascending k → ((x : ℕ) → mem x l ≡ mem x k) → l ≡ k
ascending-ext = rising-ext (record { irrefl = λ a h. omega arith; trans = λ a b c h g. omega arith; tail = ascending-tail; ahead = after-mem })

module _ (f : ℕ → ℕ) where
  after_map : (a : ℕ) (l : List ℕ) → ((x y : ℕ) → mem x (a ∷ l) ≡ true → mem y (a ∷ l) ≡ true → x < y → f x < f y) → After a l → After (f a) (map f l)
  after_map a [] h s = tt
  after_map a (b ∷ l) h s = (
    h a b (mem-head a (b ∷ l)) (mem-tail a (b ∷ l) b (mem-head b l)) s.0,
    after_map b l (λ x y m n. h x y (mem-tail a (b ∷ l) x m) (mem-tail a (b ∷ l) y n)) s.1,
  )

  pub ascending-map : (l : List ℕ) → ((x y : ℕ) → mem x l ≡ true → mem y l ≡ true → x < y → f x < f y) → Ascending l → Ascending (map f l)
  ascending-map [] h s = tt
  ascending-map (x ∷ l) h s = after_map x l h s

pub keep-upto-of : (k : ℕ) (l : List ℕ) → Ascending l → Below k l → keep (λ x. mem x l) (upto k) ≡ l
keep-upto-of k l s h =
    ascending-ext (keep (λ x. mem x l) (upto k)) l (ascending-keep (λ x. mem x l) (upto k) (ascending-from 0 k)) s
    (λ x. mem-keep (λ y. mem y l) (upto k) x ∙ ap (λ (b : Bool). b && mem x l) (mem-upto k x)
    ∙ bool-ext _ _ (and_true_r (ltb x k) (mem x l)) (λ m. and_intro _ _ (lt-ltb x k (below-mem k l x h m)) m))
