-- The answer of the search for a family on paper, where document 01's searches answer 0 for none.
--   positive n      == n where it is above 0, else none
--   family_of f      == the mask of the answer f, or none
use Rattle.std.proofs.Math.Option.{Option, none, some}
use Rattle.std.specs.Prelude.{ℕ, zero, suc, Some, None}
use Rattle.std.specs.Prelude as code
use Rattle.mask_words.specs.declared.mask.Monomial.{Monomial}

unfoldable pub positive : ℕ → Option ℕ
positive zero = none
positive (suc n) = some (suc n)

abbrev pub family_of : code.Option Monomial → Option ℕ
family_of (Some m) = some m.mask.bits
family_of None = none
