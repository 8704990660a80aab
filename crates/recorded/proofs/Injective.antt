-- Equal numbers have equal outcomes, so what a replay compares tells a result from a refusal. It rests on the definitions of specs/Results.
--   number_of-injective   == the outcomes of the calls that give a number
use Rattle.std.specs.Prelude.{◌≡◌, ℕ, get_or, refl}
use Rattle.rules.specs.Outcome as result
use Rattle.comparison.proofs.Told.{numbers_of-injective}
use Rattle.comparison.specs.Outcome.{alone}
use Rattle.recorded.specs.Results.{number_of}

pub number_of-injective : (o q : result.Outcome ℕ) → number_of o ≡ number_of q → o ≡ q
number_of-injective = numbers_of-injective alone (λ l. get_or l 0 0) (λ x. refl)
