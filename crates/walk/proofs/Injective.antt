-- Equal meanings have equal answers, so the walk's equation fixes what it answers. Each answer is told from its meaning.
--   walked_of-injective       == the walk's answers
use mathlib.Core.Path.{◌≡◌, refl}
use Rattle.std.specs.Prelude.{Result}
use Rattle.rules.proofs.Injective.{outcome_of-injective}
use Rattle.rules.specs.declared.refusal.Refusal.{Refusal}
use Rattle.walk.specs.Walked.{walked_of}
use Rattle.walk.specs.declared.Seen.{Seen}

pub walked_of-injective : {A : Type 0} (w v : Result (Seen A) Refusal) → walked_of w ≡ walked_of v → w ≡ v
walked_of-injective = outcome_of-injective (λ v. v) (λ v. v) (λ v. refl)
