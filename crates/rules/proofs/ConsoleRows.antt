-- Rows of the console's calls, computed with the definitions. The values are read from document 01's sentences, which the comments quote;
-- nothing here came from a program.
use mathlib.Core.Bool.{◌&&◌}
use mathlib.Core.List.{[], ◌∷◌}
use Prim.Native.Nat.{◌-◌, ◌^◌}
use lib.Dec.{T, eqb}
use Rattle.bits.specs.Range.{same}
use Rattle.rules.specs.Calls.{evaluate, examine}
use Rattle.rules.specs.Console.{entries, number, result}
use Rattle.rules.proofs.Answers.{bytes_of}
use Rattle.rules.proofs.Computing.{computing}

-- "eight bytes per entry, low byte first"
pub entry-rows :
    T (
    same (entries (1 ∷ 2 ∷ 0 ∷ 0 ∷ 0 ∷ 0 ∷ 0 ∷ 0 ∷ [])) (513 ∷ [])
    && same (entries (0 ∷ 0 ∷ 0 ∷ 0 ∷ 0 ∷ 0 ∷ 0 ∷ 1 ∷ [])) (2 ^ 56 ∷ [])
    && same (entries (255 ∷ 255 ∷ 255 ∷ 255 ∷ 255 ∷ 255 ∷ 255 ∷ 255 ∷ [])) ((2 ^ 64 - 1) ∷ [])
    && same (entries (5 ∷ 0 ∷ 0 ∷ 0 ∷ 0 ∷ 0 ∷ 0 ∷ 0 ∷ 6 ∷ 0 ∷ 0 ∷ 0 ∷ 0 ∷ 0 ∷ 0 ∷ 0 ∷ [])) (5 ∷ 6 ∷ [])
    )
unfolding computing
entry-rows = tt

-- "a cut last entry doesn't count"
pub cut-rows :
    T (
    same (entries []) []
    && same (entries (5 ∷ 0 ∷ 0 ∷ 0 ∷ 0 ∷ 0 ∷ 0 ∷ [])) []
    && same (entries (5 ∷ 0 ∷ 0 ∷ 0 ∷ 0 ∷ 0 ∷ 0 ∷ 0 ∷ 6 ∷ 0 ∷ 0 ∷ 0 ∷ 0 ∷ 0 ∷ 0 ∷ [])) (5 ∷ [])
    )
unfolding computing
cut-rows = tt

-- "one returns the number, 0 for none, the other the result or the place": the table 01, and its last byte cut off
pub number-rows :
    T (
    eqb (number (examine 1 (entries (0 ∷ 0 ∷ 0 ∷ 0 ∷ 0 ∷ 0 ∷ 0 ∷ 0 ∷ 1 ∷ 0 ∷ 0 ∷ 0 ∷ 0 ∷ 0 ∷ 0 ∷ 0 ∷ [])) (bytes_of "VA0"))) 0
    && eqb (result (examine 1 (entries (0 ∷ 0 ∷ 0 ∷ 0 ∷ 0 ∷ 0 ∷ 0 ∷ 0 ∷ 1 ∷ 0 ∷ 0 ∷ 0 ∷ 0 ∷ 0 ∷ 0 ∷ 0 ∷ [])) (bytes_of "VA0"))) 1
    && eqb (number (examine 1 (entries (0 ∷ 0 ∷ 0 ∷ 0 ∷ 0 ∷ 0 ∷ 0 ∷ 0 ∷ 1 ∷ 0 ∷ 0 ∷ 0 ∷ 0 ∷ 0 ∷ 0 ∷ [])) (bytes_of "VA0"))) 2
    && eqb (number (evaluate 1 (bytes_of "VA0") 1)) 0
    && eqb (result (evaluate 1 (bytes_of "VA0") 1)) 1
    && eqb (number (evaluate 1 (bytes_of "VA0 V") 1)) 6
    && eqb (result (evaluate 1 (bytes_of "VA0 V") 1)) 3
    )
unfolding computing bytes_of
number-rows = tt
