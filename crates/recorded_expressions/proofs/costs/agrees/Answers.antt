-- `recorded_expressions::costs::agrees` meets its contract: what is compared is the costing on paper and the recorded numbers.
use Rattle.comparison.proofs.Same.{same-said}
use Rattle.recorded_expressions.proofs.costs.agrees.Goals as goal

pub returns : goal.returns
returns c = same-said c.eq.ensures c.costing.ensures c.outcome_at.ensures
