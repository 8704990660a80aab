-- The answer of costing on paper.
--   costs_of c          == cost, size and depth
--   costing_of r        == costing's answer: the costs, or a refusal
use Rattle.std.specs.Prelude.{Result}
use Rattle.rules.specs.Calls as paper
use Rattle.rules.specs.Outcome.{Outcome}
use Rattle.rules.specs.Refusal.{outcome_of}
use Rattle.rules.specs.declared.refusal.Refusal.{Refusal}
use Rattle.expr_cost.specs.declared.Costs.{Costs}

abbrev pub costs_of : Costs → paper.Costs
costs_of c = record { cost = c.cost; size = c.size; depth = c.depth }

abbrev pub costing_of : Result Costs Refusal → Outcome paper.Costs
costing_of = outcome_of costs_of
