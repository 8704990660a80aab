-- Costing's answer told again from its meaning, which the injectivity of the meaning rests on. No proof of a function needs it today. It is the law
-- of all answers (rules, Injective) for costs.
--   again              == the answer of an outcome
--   again-costing_of   == it is the one whose meaning the outcome is
use mathlib.Core.Path.{◌≡◌, refl}
use Rattle.std.specs.Prelude.{Result}
use Rattle.rules.specs.Calls as paper
use Rattle.rules.specs.Outcome.{Outcome}
use Rattle.rules.specs.declared.refusal.Refusal.{Refusal}
use Rattle.rules.proofs.Injective.{answer_of, outcome-told}
use Rattle.expr_cost.specs.Answers.{costs_of, costing_of}
use Rattle.expr_cost.specs.declared.Costs.{Costs}

abbrev costs_again : paper.Costs → Costs
costs_again k = record { cost = k.cost; size = k.size; depth = k.depth }

abbrev pub again : Outcome paper.Costs → Result Costs Refusal
again = answer_of costs_again

pub again-costing_of : (r : Result Costs Refusal) → again (costing_of r) ≡ r
again-costing_of = outcome-told costs_of costs_again (λ c. refl)
