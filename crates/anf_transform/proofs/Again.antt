-- The answer of the transform and of the way back told again from its meaning, which the injectivity of the meaning rests on: the count is told from
-- the front of the buffer. No proof of a function needs it today. It is the law of all answers (rules, Injective) for a buffer's front.
--   filled      == the answer of an outcome
--   filled-of   == it is the one whose meaning the outcome is
use Rattle.std.specs.Prelude.{List, ◌≡◌, ℕ, Result, length}
use Rattle.rules.specs.Outcome.{Outcome}
use Rattle.rules.specs.declared.refusal.Refusal.{Refusal}
use Rattle.rules.proofs.Injective.{answer_of, outcome-told}
use Rattle.laws.proofs.calls.Outcome.{length_front}
use Rattle.anf_transform.specs.Answers.{filled_of}

abbrev pub filled : Outcome (List ℕ) → Result ℕ Refusal
filled = answer_of length

pub filled-of : (out : List ℕ) (r : Result ℕ Refusal) → filled (filled_of out r) ≡ r
filled-of out = outcome-told _ length (λ k. length_front k out)
