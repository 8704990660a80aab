-- The examiner's answer on paper.
--   examination_of r      == the cost, or a refusal
use Rattle.std.specs.Prelude.{ℕ, Result}
use Rattle.rules.specs.Outcome.{Outcome}
use Rattle.rules.specs.Refusal.{outcome_of}
use Rattle.rules.specs.declared.refusal.Refusal.{Refusal}

abbrev pub examination_of : Result ℕ Refusal → Outcome ℕ
examination_of = outcome_of (λ c. c)
