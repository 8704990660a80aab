-- Equal numbers have equal answers, so what the replay compares tells a result from a refusal. It rests on the definition of `numbers_of`.
--   numbers_of-injective   == the answers of the transform and of the way back
use Rattle.std.specs.Prelude.{◌≡◌, ℕ, Result, get_or, refl}
use Rattle.rules.specs.declared.refusal.Refusal.{Refusal}
use Rattle.comparison.specs.Outcome.{alone}
use Rattle.comparison.proofs.Told.{answer_of-injective}
use Rattle.recorded_transforms.specs.Answers.{numbers_of}

pub numbers_of-injective : (a b : Result ℕ Refusal) → numbers_of a ≡ numbers_of b → a ≡ b
numbers_of-injective = answer_of-injective alone (λ l. get_or l 0 0) (λ k. refl)
