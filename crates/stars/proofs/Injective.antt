-- Equal meanings have equal answers, so the equation for 64 stars fixes what is answered. Each answer is told from its meaning.
--   star_evaluation_of-injective   == the answers for 64 stars
use mathlib.Core.Path.{◌≡◌, refl}
use Prim.Native.Nat.{ℕ}
use Rattle.std.specs.Prelude.{Result}
use Rattle.rules.proofs.Injective.{outcome_of-injective}
use Rattle.rules.specs.declared.refusal.Refusal.{Refusal}
use Rattle.stars.specs.Answers.{star_evaluation_of}

pub star_evaluation_of-injective : (e f : Result ℕ Refusal) → star_evaluation_of e ≡ star_evaluation_of f → e ≡ f
star_evaluation_of-injective = outcome_of-injective (λ w. w) (λ w. w) (λ w. refl)
