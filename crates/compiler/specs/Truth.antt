-- Compilation of a truth function. Document 01's compilation is the instance of a table's bits, once rows 1 and 2 are passed.
--   compile_form l room       == what the compiler answers for the form l, where the buffer has that many entries
--   compile_truth n f room    == so for the form of the truth function f of n flags
use Rattle.std.specs.Prelude.{Bool, List, ℕ}
use Rattle.rules.specs.Calls.{Compilation, with_room, compilation}
use Rattle.rules.specs.Cleanup.{cleanup}
use Rattle.rules.specs.Coefficient.{coefficient}
use Rattle.rules.specs.Monomial.{form}
use Rattle.rules.specs.Outcome.{Outcome, gives}
use Rattle.rules.specs.Tree.{write}

unfoldable pub compile_form : List ℕ → ℕ → Outcome Compilation
compile_form l room = with_room room (write (cleanup l)) (gives (compilation (cleanup l) l))

unfoldable pub compile_truth : ℕ → (ℕ → Bool) → ℕ → Outcome Compilation
compile_truth n f room = compile_form (form n (coefficient n f)) room
