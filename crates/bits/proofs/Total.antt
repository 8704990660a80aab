-- Laws of totals, the sums of numbers: their order, bounds by members, and one more for each element. They rest on the laws of sums and of choices
-- (Sum, Range).
--   total_mono, total-keep-le       == order, and a choice of the elements
--   total-mul                       == a multiple
--   total-suc, total-const          == one more for each element; the same for each
--   total-mem, total-two            == one member's part, and that of two different members
use mathlib.Core.Bool.{Bool, true, not, false≢true}
use mathlib.Core.List.{List, [], ◌∷◌}
use mathlib.Core.Logic.{inl, inr}
use mathlib.Core.Path.{◌≡◌, refl, sym, ap, ◌∙◌}
use Prim.Native.Nat.{ℕ, suc, ◌+◌, ◌*◌, ◌≤◌}
use native.Mathlib.Nat.{add-le-add, zero-mul, mul-zero, suc-mul, mul-add, le_refl}
use native.Mathlib.Omega.{arith}
use lib.Dec.{eqb}
use lib.ListN.{length}
use borrow.Author.Tests.{eq-eqb, ne_eqb}
use Rattle.bits.specs.Range.{keep, any, mem}
use Rattle.bits.specs.Sum.{sum, total}
use Rattle.bits.proofs.Truth.{and_intro}
use Rattle.bits.proofs.Range.{mem-cons, mem-keep}
use Rattle.bits.proofs.Sum.{plus-laws, sum-split}

module _ {A : Type 0} where
  pub total_mono : (f g : A → ℕ) (l : List A) → ((x : A) → f x ≤ g x) → total f l ≤ total g l
  unfolding sum
  total_mono f g [] h = le_refl 0
  total_mono f g (x ∷ l) h = add-le-add (h x) (total_mono f g l h)

  pub total-mul : (c : ℕ) (f : A → ℕ) (l : List A) → total (λ x. c * f x) l ≡ c * total f l
  unfolding sum
  total-mul c f [] = sym (mul-zero c)
  total-mul c f (x ∷ l) = ap (λ (n : ℕ). c * f x + n) (total-mul c f l) ∙ sym (mul-add c (f x) (total f l))

  pub total-keep-le : (f : A → ℕ) (p : A → Bool) (l : List A) → total f (keep p l) ≤ total f l
  total-keep-le f p l = let h = sum-split plus-laws f p l in omega arith

module _ {A : Type 0} (f : A → ℕ) where
  pub total-suc : (l : List A) → total (λ x. suc (f x)) l ≡ total f l + length l
  unfolding sum
  total-suc [] = refl
  total-suc (x ∷ l) = omega (arith, total-suc l)

pub total-const : {A : Type 0} (c : ℕ) (l : List A) → total (λ x. c) l ≡ length l * c
unfolding sum
total-const c [] = sym (zero-mul c)
total-const c (x ∷ l) = omega (arith, total-const c l, suc-mul (length l) c)

module _ (f : ℕ → ℕ) where
  pub total-mem : (l : List ℕ) (x : ℕ) → mem x l ≡ true → f x ≤ total f l
  unfolding sum any
  total-mem [] x m = absurd (false≢true m)
  total-mem (y ∷ l) x m = elim (mem-cons y l x m) [ inl e ↦ omega (arith, ap f e) | inr r ↦ omega (arith, total-mem l x r) ]

  pub total-two : (l : List ℕ) (x y : ℕ) → mem x l ≡ true → mem y l ≡ true → (x ≡ y → ⊥) → f x + f y ≤ total f l
  total-two l x y m n d =
      let h = total-mem (keep (eqb x) l) x (mem-keep (eqb x) l x ∙ and_intro _ _ m (eq-eqb x x refl)) in
      let k = total-mem (keep (λ z. not (eqb x z)) l) y (mem-keep (λ z. not (eqb x z)) l y ∙ and_intro _ _ n (ap not (ne_eqb x y d))) in
      omega (arith, sum-split plus-laws f (eqb x) l)
