-- The answers of the compiler in numbers. Those of the examiner and of raw costing are one number (recorded, Results).
--   compiled_of o     == of the compiler's outcome on paper: cost, raw cost, number of records and number of bytes, or the refusal
--   bytes_after b o   == what a lent buffer that held b holds after it
--   numbers_of e      == of what was written
--   compiled_by a     == of an answer
use Rattle.std.specs.Prelude.{List, [], ◌∷◌, ℕ, length, Result}
use Rattle.rules.specs.Calls as paper
use Rattle.rules.specs.Outcome as result
use Rattle.rules.specs.Outcome.{left}
use Rattle.rules.specs.declared.refusal.Refusal.{Refusal}
use Rattle.compiler.specs.Answers.{bytes_of}
use Rattle.compiler.specs.declared.Expression.{Expression}
use Rattle.comparison.specs.Outcome as outcomes
use Rattle.comparison.specs.Outcome.{answer_of}
use Rattle.comparison.specs.declared.outcome.Outcome.{Outcome}

abbrev pub compiled_of : result.Outcome paper.Compilation → Outcome
compiled_of = outcomes.numbers_of (λ c. c.cost ∷ c.raw ∷ c.records ∷ length c.bytes ∷ [])

abbrev pub bytes_after : List ℕ → result.Outcome paper.Compilation → List ℕ
bytes_after b o = left b (bytes_of o)

abbrev pub numbers_of : Expression → List ℕ
numbers_of e = e.cost ∷ e.raw ∷ e.records ∷ e.bytes ∷ []

abbrev pub compiled_by : Result Expression Refusal → Outcome
compiled_by = answer_of numbers_of
