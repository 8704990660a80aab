-- Evaluation's answer on paper.
--   evaluation_of e       == the bit, or a refusal
use Rattle.std.specs.Prelude.{ℕ, Result}
use Rattle.rules.specs.Outcome.{Outcome}
use Rattle.rules.specs.Refusal.{outcome_of}
use Rattle.rules.specs.declared.refusal.Refusal.{Refusal}

abbrev pub evaluation_of : Result ℕ Refusal → Outcome ℕ
evaluation_of = outcome_of (λ b. b)
