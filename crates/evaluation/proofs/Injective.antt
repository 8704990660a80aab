-- Equal meanings have equal answers, so evaluation's equation fixes what it answers. Each answer is told from its meaning.
--   evaluation_of-injective   == evaluation's answers
use mathlib.Core.Path.{◌≡◌, refl}
use Prim.Native.Nat.{ℕ}
use Rattle.std.specs.Prelude.{Result}
use Rattle.rules.proofs.Injective.{outcome_of-injective}
use Rattle.rules.specs.declared.refusal.Refusal.{Refusal}
use Rattle.evaluation.specs.Answers.{evaluation_of}

pub evaluation_of-injective : (e f : Result ℕ Refusal) → evaluation_of e ≡ evaluation_of f → e ≡ f
evaluation_of-injective = outcome_of-injective (λ b. b) (λ b. b) (λ b. refl)
