-- A tree whose mask of named flags is below 2^n names only flags below n; so the cleaned form of masks below 2^n does. It rests on the flags that a
-- cleaned form names (Mentioned) and on the laws of bits and unions (bits).
--   flags-mentioned  == every flag that a tree names is below n, if every bit of its mask of flags is
--   flags-cleanup    == so for the cleaned form
use mathlib.Core.Bool.{Bool, true, ◌||◌, or-true}
use mathlib.Core.List.{List}
use mathlib.Core.Path.{◌≡◌, refl, sym, ap, ◌∙◌}
use Prim.Native.Nat.{ℕ, ◌^◌, ◌<◌}
use borrow.Author.Tests.{eq-eqb}
use Rattle.bits.specs.Bit.{bit}
use Rattle.bits.specs.Range.{Ascending, Below}
use Rattle.bits.proofs.Bit.{bit-lt, bit-or, bit-pow}
use Rattle.bits.proofs.Union.{union-lt}
use Rattle.rules.specs.Cleanup.{cleanup}
use Rattle.rules.specs.Tree.{Tree, CO, VA, AN, OR, XO, NO, mentioned, FlagsBelow}
use Rattle.laws.proofs.cost.Mentioned.{mentioned-cleanup}

abbrev Only : ℕ → ℕ → Type 0
Only n w = (i : ℕ) → bit w i ≡ true → i < n

module _ (n : ℕ) where
  -- the flags of an operator's tree are those of both operands
  left : (x y : Tree) → Only n (mentioned (AN x y)) → Only n (mentioned x)
  unfolding mentioned
  left x y h i e = h i (bit-or (mentioned x) (mentioned y) i ∙ ap (λ (b : Bool). b || bit (mentioned y) i) e)

  right : (x y : Tree) → Only n (mentioned (AN x y)) → Only n (mentioned y)
  unfolding mentioned
  right x y h i e =
      h i (bit-or (mentioned x) (mentioned y) i ∙ ap (λ (b : Bool). bit (mentioned x) i || b) e ∙ or-true (bit (mentioned x) i))

  pub flags-mentioned : (t : Tree) → Only n (mentioned t) → FlagsBelow n t
  unfolding mentioned
  flags-mentioned (CO b) h = tt
  flags-mentioned (VA i) h = h i (bit-pow i i ∙ eq-eqb i i refl)
  flags-mentioned (AN x y) h = (flags-mentioned x (left x y h), flags-mentioned y (right x y h))
  flags-mentioned (OR x y) h = (flags-mentioned x (left x y h), flags-mentioned y (right x y h))
  flags-mentioned (XO x y) h = (flags-mentioned x (left x y h), flags-mentioned y (right x y h))
  flags-mentioned (NO x) h = flags-mentioned x h

  pub flags-cleanup : (l : List ℕ) → Ascending l → Below (2 ^ n) l → FlagsBelow n (cleanup l)
  flags-cleanup l a b =
      flags-mentioned (cleanup l) (λ i e. bit-lt n _ i (union-lt n l b) (ap (λ (w : ℕ). bit w i) (sym (mentioned-cleanup l a)) ∙ e))
