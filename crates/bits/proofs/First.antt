-- The first number below a bound that passes a test, as the head of what is kept of a range. It rests on the laws of membership (Range) and of
-- ascending lists (Ascending).
--   keep-empty, empty-keep == nothing is kept exactly where no number below the bound passes
--   First p k x            == x is the first number below k that passes p
--   first-same             == there is one at most
--   first-keep, keep-first == what is kept begins with x exactly where x is the first
use mathlib.Core.Bool.{Bool, true, false, not, false≢true, true≢false}
use mathlib.Core.List.{List, [], ◌∷◌}
use mathlib.Core.Logic.{inl, inr}
use mathlib.Core.Path.{◌≡◌, refl, sym, ap, ◌∙◌, subst}
use mathlib.Mathlib.Data.Bool.Basic.{eq-false_of_not-eq-true}
use Prim.Native.Nat.{ℕ, ◌<◌}
use native.Mathlib.Decide.{dec_lt}
use native.Mathlib.Omega.{arith}
use borrow.Author.Tests.{ltb-true, lt-ltb}
use Rattle.bits.specs.Range.{upto, keep, any, mem, Ascending}
use Rattle.bits.proofs.Truth.{and_intro, and-true-l, and_true_r}
use Rattle.bits.proofs.Range.{keep-none, mem-head, mem-cons, mem-keep, mem-upto, mem-all}
use Rattle.bits.proofs.Ascending.{after-mem, ascending-from, ascending-keep}

pub record First (p : ℕ → Bool) (k x : ℕ) : Type 0 where
  pub below : x < k
  pub passes : p x ≡ true
  pub before : (y : ℕ) → y < x → p y ≡ false

module _ (p : ℕ → Bool) (k : ℕ) where
  kept : (x : ℕ) → x < k → p x ≡ true → mem x (keep p (upto k)) ≡ true
  kept x h t = mem-keep p (upto k) x ∙ and_intro (mem x (upto k)) (p x) (mem-upto k x ∙ lt-ltb x k h) t

  pub keep-empty : keep p (upto k) ≡ [] → (x : ℕ) → x < k → p x ≡ false
  unfolding any
  keep-empty e x h = eq-false_of_not-eq-true (λ t. false≢true (sym (ap (mem x) e) ∙ kept x h t))

  pub empty-keep : ((x : ℕ) → x < k → p x ≡ false) → keep p (upto k) ≡ []
  empty-keep h = keep-none p (upto k) (mem-all (λ x. not (p x)) (upto k) (λ x m. ap not (h x (ltb-true x k (sym (mem-upto k x) ∙ m)))))

  pub first-keep : (x : ℕ) (l : List ℕ) → keep p (upto k) ≡ x ∷ l → First p k x
  first-keep x l e =
      let m = sym (mem-keep p (upto k) x) ∙ ap (mem x) e ∙ mem-head x l in
      let h = ltb-true x k (sym (mem-upto k x) ∙ and-true-l (mem x (upto k)) (p x) m) in
      record { below = h; passes = and_true_r (mem x (upto k)) (p x) m; before = before h }
    where
      before : x < k → (y : ℕ) → y < x → p y ≡ false
      before h y g = eq-false_of_not-eq-true (λ t. elim (mem-cons x l y (sym (ap (mem y) e) ∙ kept y (omega arith) t)) [
        | inl q ↦ omega arith
        | inr r ↦ let a = after-mem x l y (subst Ascending e (ascending-keep p (upto k) (ascending-from 0 k))) r in omega arith
      ])

  pub first-same : (x y : ℕ) → First p k x → First p k y → x ≡ y
  first-same x y f g = elim (dec_lt x y) [
    | yes h ↦ absurd (true≢false (sym f.passes ∙ g.before x h))
    | no h ↦ elim (dec_lt y x) [ yes i ↦ absurd (true≢false (sym g.passes ∙ f.before y i)) | no i ↦ omega arith ]
  ]

  pub keep-first : (x : ℕ) → First p k x → (l : List ℕ) × (keep p (upto k) ≡ x ∷ l)
  keep-first x f = go (keep p (upto k)) refl
    where
      go : (l : List ℕ) → keep p (upto k) ≡ l → (r : List ℕ) × (keep p (upto k) ≡ x ∷ r)
      go [] e = absurd (true≢false (sym f.passes ∙ keep-empty e x f.below))
      go (y ∷ l) e = (l, e ∙ ap {B = List ℕ} (λ z. z ∷ l) (first-same y x (first-keep y l e) f))
