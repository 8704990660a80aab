-- The masks that coefficient words hold, word by word and by degree, for the contracts of inner functions. A mask's degree is its count of ones.
--   held k ws        == the masks whose coefficient is 1 in the first k words ws, ascending
--   of_block d i w    == those that have d ones in word i, which is w, counted from the word's first
use Rattle.std.specs.Prelude.{List, ℕ, ◌+◌, ◌*◌, eqb}
use Rattle.std.specs.Int.Count.{ones}
use Rattle.bits.specs.Range.{keep, upto}
use Rattle.bits.specs.Word.{places}
use Rattle.rules.specs.Coefficient.{packed}

abbrev pub held : ℕ → List ℕ → List ℕ
held k ws = keep (packed ws) (upto (64 * k))

abbrev pub of_block : ℕ → ℕ → ℕ → List ℕ
of_block d i w = keep (λ j. eqb (ones (64 * i + j)) d) (places 64 w)
