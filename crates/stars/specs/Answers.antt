-- The answer for 64 stars on paper.
--   star_evaluation_of e   == the word of values, or a refusal
use Rattle.std.specs.Prelude.{ℕ, Result}
use Rattle.rules.specs.Outcome.{Outcome}
use Rattle.rules.specs.Refusal.{outcome_of}
use Rattle.rules.specs.declared.refusal.Refusal.{Refusal}

abbrev pub star_evaluation_of : Result ℕ Refusal → Outcome ℕ
star_evaluation_of = outcome_of (λ w. w)
