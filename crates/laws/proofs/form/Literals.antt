-- Total literals of the parts of a form: they fall at every call of the cleanup, for whatever choice its rules allow.
-- It rests on the parts of a form (Covered) and the laws of totals (bits, Sum and Total).
--   literals-split, literals-monomials                  == of a choice and the rest; of the monomials alone
--   literals-covered, literals-cube                     == what a cube covers, and the form along a cube
--   literals-stripped, literals-uncovered, literals-without == the stripped form and both remainders have fewer
use mathlib.Core.Bool.{Bool, true, not}
use mathlib.Core.List.{List}
use mathlib.Core.Path.{◌≡◌, sym, ap, ap₂, ◌∙◌}
use Prim.Native.Nat.{ℕ, ◌+◌, ◌-◌, ◌*◌, ◌≤◌, ◌<◌}
use native.Mathlib.Nat.{mul-le-mul}
use native.Mathlib.Omega.{arith}
use lib.Count.{ones}
use lib.Dec.{ltb}
use lib.ListN.{length}
use borrow.Author.Tests.{ltb-false, not-true}
use Rattle.bits.specs.Bit.{within}
use Rattle.bits.specs.Range.{keep, mem}
use Rattle.bits.proofs.Truth.{and_intro, and_true_r}
use Rattle.bits.proofs.Mask.{ones-sub, zero-ones, ones_pos}
use Rattle.bits.proofs.Range.{mem-keep}
use Rattle.bits.proofs.Sum.{plus-laws, sum-map, sum-ext-mem, sum-op, sum-unit, sum-split}
use Rattle.bits.proofs.Total.{total-const, total-mem}
use Rattle.rules.specs.Cleanup.{family, covered, stripped}
use Rattle.rules.specs.Form.{literals}
use Rattle.rules.specs.Monomial.{monomials}
use Rattle.laws.proofs.form.Covered.{covered-keep, covered-within}
use Rattle.laws.proofs.form.Family.{family-own}

pub literals-split : (p : ℕ → Bool) (l : List ℕ) → literals l ≡ literals (keep p l) + literals (keep (λ m. not (p m)) l)
literals-split p l = sum-split plus-laws ones p l

pub literals-monomials : (l : List ℕ) → literals (monomials l) ≡ literals l
literals-monomials l = omega (arith, literals-split (λ m. ltb 0 m) l, none)
  where
    zeros : List ℕ
    zeros = keep (λ m. not (ltb 0 m)) l

    at_zero : (m : ℕ) → mem m zeros ≡ true → m ≤ 0
    at_zero m e = ltb-false 0 m (not-true (ltb 0 m) (and_true_r (mem m l) (not (ltb 0 m)) (sym (mem-keep (λ x. not (ltb 0 x)) l m) ∙ e)))

    none : literals zeros ≡ 0
    none = sum-ext-mem ◌+◌ 0 ones (λ m. 0) zeros (λ m e. zero-ones m (at_zero m e)) ∙ sum-unit plus-laws zeros

module _ (c : ℕ) (l : List ℕ) where
  pub literals-covered : literals (covered c l) ≡ literals (stripped c l) + length (covered c l) * ones c
  unfolding stripped
  literals-covered =
      sum-ext-mem ◌+◌ 0 ones (λ m. ones (m - c) + ones c) (covered c l) (λ m e. sym (ones-sub c m (covered-within c l m e)))
      ∙ sum-op plus-laws (λ m. ones (m - c)) (λ m. ones c) (covered c l)
      ∙ ap₂ ◌+◌ (sym (sum-map ◌+◌ 0 ones (λ m. m - c) (covered c l))) (total-const (ones c) (covered c l))

  module _ (p : 0 < c) where
    pub literals-cube : literals l ≡ literals (covered c l) + literals (keep (λ m. not (within c m)) l)
    literals-cube =
        literals-split (λ m. within c m) l ∙ ap (λ (k : List ℕ). literals k + literals (keep (λ m. not (within c m)) l)) (sym (covered-keep c p l))

    module _ (h : 0 < length (covered c l)) where
      some : 1 ≤ length (covered c l) * ones c
      some = mul-le-mul h (ones_pos c p)

      pub literals-stripped : literals (stripped c l) < literals l
      literals-stripped = omega (arith, some, literals-covered, literals-cube)

      pub literals-uncovered : literals (keep (λ m. not (within c m)) l) < literals l
      literals-uncovered = omega (arith, some, literals-covered, literals-cube)

pub literals-without : (m : ℕ) (l : List ℕ) → 0 < m → mem m l ≡ true → literals (keep (λ x. not (mem x (family m))) l) < literals l
literals-without m l p h =
    let here = mem-keep (λ x. mem x (family m)) l m ∙ and_intro _ _ h (family-own m p) in
    omega (arith, ones_pos m p, total-mem ones (keep (λ x. mem x (family m)) l) m here, literals-split (λ x. mem x (family m)) l)
