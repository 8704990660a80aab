-- Masks by degree, for the contracts of listing by degree. A mask's degree is its count of ones.
--   of_degree d l     == the masks of l that have d ones, in their order
--   layer d          == the word of the masks below 64 that have d ones
use Rattle.std.specs.Prelude.{List, ℕ, eqb}
use Rattle.std.specs.Int.Count.{ones}
use Rattle.bits.specs.Range.{keep, upto}
use Rattle.bits.specs.Word.{word}

abbrev pub of_degree : ℕ → List ℕ → List ℕ
of_degree d l = keep (λ m. eqb (ones m) d) l

unfoldable pub layer : ℕ → ℕ
layer d = word (of_degree d (upto 64))
