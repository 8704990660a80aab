-- The number that tells which of two expressions is the cheaper. It rests on the laws of the choice (cheaper, Compared).
--   cheaper-number     == the number of the cheaper of two, by what `compare` answers
use Rattle.std.specs.Prelude.{◌≡◌, List, ℕ, Option, Some, None}
use mathlib.Core.Path.{ap, ◌∙◌}
use Rattle.rules.specs.Calls.{parse, cheaper_of}
use Rattle.cheaper.proofs.Compared.{cheaper-map}
use Rattle.cheaper.specs.declared.Which.{Which}
use Rattle.cheaper.specs.declared.Which.TheVariants.{First, Second}
use Rattle.answer_block.specs.Numbers.{cheaper}

abbrev pub numbered : Option Which → ℕ
numbered None = 0
numbered (Some First) = 1
numbered (Some Second) = 2

pub cheaper-number : (n : ℕ) (s t : List ℕ) (w : Option Which) → w ≡ cheaper_of None (Some First) (Some Second) (parse n s) (parse n t)
    → numbered w ≡ cheaper n s t
unfolding cheaper
cheaper-number n s t w e = ap numbered e ∙ cheaper-map numbered None (Some First) (Some Second) (parse n s) (parse n t)
