-- Equal meanings have equal answers: what costing's answer says on paper is all that the answer holds, so it can be made again from that. From the
-- definitions of Answers.
--   costs_of-injective      == of costs
--   costing_of-injective    == of costing's answers, a refusal's number and place included
use mathlib.Core.Path.{◌≡◌, refl, ap}
use Rattle.std.specs.Prelude.{Result}
use Rattle.rules.proofs.Injective.{outcome_of-injective}
use Rattle.rules.specs.Calls as paper
use Rattle.rules.specs.declared.refusal.Refusal.{Refusal}
use Rattle.expr_cost.specs.Answers.{costs_of, costing_of}
use Rattle.expr_cost.specs.declared.Costs.{Costs}

abbrev costs_again : paper.Costs → Costs
costs_again k = record { cost = k.cost; size = k.size; depth = k.depth }

pub costs_of-injective : (c d : Costs) → costs_of c ≡ costs_of d → c ≡ d
costs_of-injective c d e = ap costs_again e

pub costing_of-injective : (r q : Result Costs Refusal) → costing_of r ≡ costing_of q → r ≡ q
costing_of-injective = outcome_of-injective costs_of costs_again (λ c. refl)
