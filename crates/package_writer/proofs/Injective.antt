-- Equal meanings have equal answers, for a given lent buffer, so the writer's equation fixes what it answers. The length is told from the front of
-- the buffer.
--   writing_of-injective  == the writer's answers
use Rattle.std.specs.Prelude.{◌≡◌, List, ℕ, Result, length}
use Rattle.rules.specs.Outcome.{front}
use Rattle.rules.specs.declared.refusal.Refusal.{Refusal}
use Rattle.rules.proofs.Injective.{outcome_of-injective}
use Rattle.laws.proofs.calls.Outcome.{length_front}
use Rattle.package_writer.specs.Answers.{writing_of}

pub writing_of-injective : (out : List ℕ) (w v : Result ℕ Refusal) → writing_of out w ≡ writing_of out v → w ≡ v
writing_of-injective out = outcome_of-injective (λ k. front k out) length (λ k. length_front k out)
