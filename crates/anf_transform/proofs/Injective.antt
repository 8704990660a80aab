-- Equal meanings have equal answers, for a given lent buffer, so the equations of the transform and of the way back fix what they answer.
-- The count is told from the front of the buffer.
--   filled_of-injective   == the answers of transform and way back
use Rattle.std.specs.Prelude.{List, ◌≡◌, ℕ, Result, length}
use Rattle.rules.proofs.Injective.{outcome_of-injective}
use Rattle.rules.specs.declared.refusal.Refusal.{Refusal}
use Rattle.laws.proofs.calls.Outcome.{length_front}
use Rattle.anf_transform.specs.Answers.{filled_of}

pub filled_of-injective : (out : List ℕ) (r q : Result ℕ Refusal) → filled_of out r ≡ filled_of out q → r ≡ q
filled_of-injective out = outcome_of-injective _ length (λ k. length_front k out)
