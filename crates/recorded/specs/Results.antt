-- A recorded outcome, and the outcome on paper of a call that gives one number as the files have it.
--   recorded_as k l     == what a file records by the number k and the numbers l: with 0 the results l, else refusal k, which has its place first
--   outcome_at k l at   == the outcome with number k and the three results that stand in l from place at on, two bytes each
--   number_of o         == the outcome o of a call that gives one number, as the files have it
use Rattle.std.specs.Prelude.{List, [], ◌∷◌, ℕ, ◌+◌, ◌==◌, cond}
use Rattle.rules.specs.Outcome as result
use Rattle.comparison.specs.Outcome.{alone, numbers_of}
use Rattle.comparison.specs.declared.outcome.Outcome.{Outcome}
use Rattle.comparison.specs.declared.outcome.Outcome.TheVariants.{Results, Refused}
use Rattle.recorded.specs.Numbers.{pair_at}

abbrev pub recorded_as : ℕ → List ℕ → Outcome
recorded_as k l = cond (k == 0) (Results l) (Refused k l)

abbrev pub outcome_at : ℕ → List ℕ → ℕ → Outcome
outcome_at k l at = recorded_as k (pair_at l at ∷ pair_at l (at + 2) ∷ pair_at l (at + 4) ∷ 0 ∷ [])

abbrev pub number_of : result.Outcome ℕ → Outcome
number_of = numbers_of alone
