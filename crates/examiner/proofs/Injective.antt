-- Equal meanings have equal answers, so the examiner's equation fixes what it answers. Each answer is told from its meaning.
--   examination_of-injective  == the examiner's answers
use mathlib.Core.Path.{◌≡◌, refl}
use Prim.Native.Nat.{ℕ}
use Rattle.std.specs.Prelude.{Result}
use Rattle.rules.proofs.Injective.{outcome_of-injective}
use Rattle.rules.specs.declared.refusal.Refusal.{Refusal}
use Rattle.examiner.specs.Answers.{examination_of}

pub examination_of-injective : (e f : Result ℕ Refusal) → examination_of e ≡ examination_of f → e ≡ f
examination_of-injective = outcome_of-injective (λ c. c) (λ c. c) (λ c. refl)
