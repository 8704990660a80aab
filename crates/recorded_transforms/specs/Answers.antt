-- The answers of the transform and of the way back in numbers.
--   outcome_of o    == of an outcome on paper: how many entries the result has, or the refusal
--   numbers_of a    == of an answer
use Rattle.std.specs.Prelude.{List, ℕ, length, Result}
use Rattle.rules.specs.Outcome as result
use Rattle.rules.specs.declared.refusal.Refusal.{Refusal}
use Rattle.comparison.specs.Outcome as outcomes
use Rattle.comparison.specs.Outcome.{alone, answer_of}
use Rattle.comparison.specs.declared.outcome.Outcome.{Outcome}

abbrev pub outcome_of : result.Outcome (List ℕ) → Outcome
outcome_of = outcomes.numbers_of (λ l. alone (length l))

abbrev pub numbers_of : Result ℕ Refusal → Outcome
numbers_of = answer_of alone
