-- Equal numbers have equal outcomes, so what a replay compares tells a result from a refusal. It rests on the definitions of specs/Answers.
--   costed_of-injective   == the outcomes of costing
use Rattle.std.specs.Prelude.{◌≡◌, get_or, refl}
use Rattle.rules.specs.Calls.{Costs}
use Rattle.rules.specs.Outcome as result
use Rattle.comparison.proofs.Told.{numbers_of-injective}
use Rattle.recorded_calls.specs.Answers.{numbers_of, costed_of}

pub costed_of-injective : (o q : result.Outcome Costs) → costed_of o ≡ costed_of q → o ≡ q
costed_of-injective =
    numbers_of-injective numbers_of (λ l. record { cost = get_or l 0 0; size = get_or l 1 0; depth = get_or l 2 0 }) (λ c. refl)
