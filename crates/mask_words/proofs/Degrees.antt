-- The monomial order, degree by degree: the ordered list of an ascending list of masks is the concatenation, over the degrees, of the masks that have
-- so many ones, each ascending. It rests on the order's uniqueness (laws, Ordered) and the laws of membership (bits, Range).
--   degrees l d              == the masks of l with fewer than d ones: those with none, then those with one, and so on, each in l's order
--   mem-degrees              == its members
--   sorted-degrees           == it is sorted, if l ascends
--   ordered-degrees          == with d above every degree it is the ordered list
--   degrees-le               == more degrees are no shorter
--   degrees-one, degrees-suc == of monomials there is none of degree 0, and the others are those of l
--   ordered-monomials        == of masks of n flags, degree n is the last
--   length-monomials         == all but the constant
use mathlib.Core.Bool.{Bool, true, false, not, ◌&&◌, ◌||◌, and-false}
use mathlib.Core.List.{List, [], ◌∷◌, ◌++◌}
use mathlib.Core.Logic.{inl, inr}
use mathlib.Core.Path.{◌≡◌, refl, sym, ap, ap₂, ◌∙◌}
use Prim.Native.Nat.{ℕ, zero, suc, ◌+◌, ◌^◌, ◌≤◌, ◌<◌, zero-le}
use native.Mathlib.Decide.{le_ind}
use native.Mathlib.Nat.{le_refl}
use native.Mathlib.Omega.{arith}
use lib.Count.{ones, ones-le}
use lib.Dec.{ltb, eqb}
use lib.ListN.{length, length-append}
use borrow.Author.Tests.{ltb-true, ltb-false, lt-ltb, le-ltb, eqb-true, eq-eqb, ne_eqb}
use Rattle.bits.specs.Bit.{digit}
use Rattle.bits.specs.Range.{keep, any, mem, After, Ascending, Below}
use Rattle.bits.proofs.Truth.{and-true-l, and_true_r, and_intro, or_split, bool-ext, and-implied}
use Rattle.bits.proofs.Mask.{ones_pos}
use Rattle.bits.proofs.Range.{keep-keep, keep-ext, keep-none, mem-all, mem-head, mem-tail, mem-append, mem-keep}
use Rattle.bits.proofs.Ascending.{ascending-keep, below-keep, below-mem}
use Rattle.rules.specs.Monomial.{constant, monomials, on, precedes, ordered}
use Rattle.laws.proofs.form.Covered.{form-split, monomial-mem}
use Rattle.laws.proofs.form.Ordered.{precedes-less, precedes-equal, Follows, Sorted, ordered-unique}

-- ---- sorted lists, joined

follows-append : (a : ℕ) (s t : List ℕ) → Follows a s → Sorted t → ((x y : ℕ) → mem x (a ∷ s) ≡ true → mem y t ≡ true → precedes x y ≡ true)
    → Follows a (s ++ t)
follows-append a [] [] h k f = tt
follows-append a [] (y ∷ t) h k f = (f a y (mem-head a []) (mem-head y t), k)
follows-append a (b ∷ s) t h k f = (h.0, follows-append b s t h.1 k (λ x y m n. f x y (mem-tail a (b ∷ s) x m) n))

sorted-append : (s t : List ℕ) → Sorted s → Sorted t → ((x y : ℕ) → mem x s ≡ true → mem y t ≡ true → precedes x y ≡ true) → Sorted (s ++ t)
sorted-append [] t h k f = k
sorted-append (a ∷ s) t h k f = follows-append a s t h k f

-- ascending masks of one degree
follows-level : (d a : ℕ) (l : List ℕ) → After a l → ((x : ℕ) → mem x (a ∷ l) ≡ true → ones x ≡ d) → Follows a l
follows-level d a [] s h = tt
follows-level d a (b ∷ l) s h =
    let e = h a (mem-head a (b ∷ l)) in
    let g = h b (mem-tail a (b ∷ l) b (mem-head b l)) in
    (precedes-equal a b (omega arith) s.0, follows-level d b l s.1 (λ x m. h x (mem-tail a (b ∷ l) x m)))

sorted-level : (d : ℕ) (l : List ℕ) → Ascending l → ((x : ℕ) → mem x l ≡ true → ones x ≡ d) → Sorted l
sorted-level d [] s h = tt
sorted-level d (a ∷ l) s h = follows-level d a l s h

-- ---- degree by degree

less-suc : (a d : ℕ) → (ltb a d || eqb a d) ≡ ltb a (suc d)
less-suc a d = bool-ext _ _ up (λ h. down (ltb-true a (suc d) h) (ltb a d) refl)
  where
    up : (ltb a d || eqb a d) ≡ true → ltb a (suc d) ≡ true
    up h = elim (or_split (ltb a d) (eqb a d) h) [
      | inl e ↦ let k = ltb-true a d e in lt-ltb a (suc d) (omega arith)
      | inr e ↦ let k = eqb-true a d e in lt-ltb a (suc d) (omega arith)
    ]

    down : a < suc d → (b : Bool) → ltb a d ≡ b → (b || eqb a d) ≡ true
    down h true e = refl
    down h false e = let k = ltb-false a d e in eq-eqb a d (omega arith)

factor : (a b c : Bool) → (a && b || a && c) ≡ (a && (b || c))
factor true b c = refl
factor false b c = refl

module _ (l : List ℕ) where
  unfoldable pub degrees : ℕ → List ℕ
  degrees zero = []
  degrees (suc d) = degrees d ++ keep (λ m. eqb (ones m) d) l

  pub mem-degrees : (d x : ℕ) → mem x (degrees d) ≡ (mem x l && ltb (ones x) d)
  unfolding degrees any
  mem-degrees zero x = sym (ap (λ (b : Bool). mem x l && b) (le-ltb (ones x) 0 zero-le) ∙ and-false (mem x l))
  mem-degrees (suc d) x =
      mem-append x (degrees d) (keep (λ m. eqb (ones m) d) l) ∙ ap₂ ◌||◌ (mem-degrees d x) (mem-keep (λ m. eqb (ones m) d) l x)
      ∙ factor (mem x l) (ltb (ones x) d) (eqb (ones x) d) ∙ ap (λ (b : Bool). mem x l && b) (less-suc (ones x) d)

  pub degrees-le : (d e : ℕ) → d ≤ e → length (degrees d) ≤ length (degrees e)
  unfolding degrees
  degrees-le d e h =
      le_ind (λ (n : ℕ). length (degrees d) ≤ length (degrees n)) (le_refl (length (degrees d)))
      (λ n m k. omega (arith, length-append (degrees n) (keep (λ m. eqb (ones m) n) l))) e h

  module _ (s : Ascending l) where
    pub sorted-degrees : (d : ℕ) → Sorted (degrees d)
    unfolding degrees
    sorted-degrees zero = tt
    sorted-degrees (suc d) =
        let p : ℕ → Bool = λ m. eqb (ones m) d in
        let level : (x : ℕ) → mem x (keep p l) ≡ true → ones x ≡ d =
        λ x m. eqb-true (ones x) d (and_true_r (mem x l) (p x) (sym (mem-keep p l x) ∙ m)) in
        let below : (x : ℕ) → mem x (degrees d) ≡ true → ones x < d =
        λ x m. ltb-true (ones x) d (and_true_r (mem x l) (ltb (ones x) d) (sym (mem-degrees d x) ∙ m)) in
        sorted-append (degrees d) (keep p l) (sorted-degrees d) (sorted-level d (keep p l) (ascending-keep p l s) level)
        (λ x y m n. precedes-less x y (omega (arith, below x m, level y n)))

    pub ordered-degrees : (d : ℕ) → ((x : ℕ) → mem x l ≡ true → ones x < d) → degrees d ≡ ordered l
    ordered-degrees d h =
        ordered-unique l (degrees d) s (sorted-degrees d)
        (λ x. mem-degrees d x ∙ bool-ext _ _ (and-true-l (mem x l) (ltb (ones x) d)) (λ m. and_intro _ _ m (lt-ltb (ones x) d (h x m))))

    pub length-monomials : length (monomials l) + digit (constant l) ≡ length l
    length-monomials = sym (ap length (form-split l s) ∙ go (constant l) (monomials l))
      where
        go : (b : Bool) (k : List ℕ) → length (on b k) ≡ length k + digit b
        go true k = omega arith
        go false k = omega arith

-- ---- monomials

module _ (l : List ℕ) where
  pub degrees-one : degrees (monomials l) 1 ≡ []
  unfolding degrees
  degrees-one =
      keep-none (λ m. eqb (ones m) 0) (monomials l)
      (mem-all _ (monomials l) (λ m h. ap not (ne_eqb (ones m) 0 (λ e. omega (arith, ones_pos m (monomial-mem l m h).0)))))

  pub degrees-suc : (d : ℕ) → 0 < d → degrees (monomials l) (suc d) ≡ degrees (monomials l) d ++ keep (λ m. eqb (ones m) d) l
  unfolding degrees ones
  degrees-suc d h =
      ap (λ (k : List ℕ). degrees (monomials l) d ++ k)
      (keep-keep (λ m. eqb (ones m) d) (λ m. ltb 0 m) l
      ∙ keep-ext (λ m. ltb 0 m && eqb (ones m) d) (λ m. eqb (ones m) d) l (λ m _. and-implied (ltb 0 m) (eqb (ones m) d) (some m)))
    where
      some : (m : ℕ) → eqb (ones m) d ≡ true → ltb 0 m ≡ true
      some zero e = absurd (omega (arith, eqb-true (ones 0) d e))
      some (suc m) e = lt-ltb 0 (suc m) (omega arith)

  pub ordered-monomials : (n : ℕ) → Ascending l → Below (2 ^ n) l → degrees (monomials l) (suc n) ≡ ordered (monomials l)
  ordered-monomials n s h =
      ordered-degrees (monomials l) (ascending-keep (λ m. ltb 0 m) l s) (suc n)
      (λ x m. omega (arith, ones-le n x (below-mem (2 ^ n) (monomials l) x (below-keep (2 ^ n) (λ m. ltb 0 m) l h) m)))
