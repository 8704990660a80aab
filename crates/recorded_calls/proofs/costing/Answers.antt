-- `recorded_calls::costing` meets its contract: the outcome of each answer is the call's on paper.
use Rattle.expr_cost.specs.Answers.{costs_of}
use Rattle.comparison.proofs.Told.{told-of}
use Rattle.recorded_calls.specs.Answers.{numbers_of}
use Rattle.recorded_calls.proofs.costing.Goals as goal

pub returns : goal.returns
returns c =
    told-of numbers_of costs_of _ c.compute_cost-answer.ensures _ c.from.ensures c.map.ensures.cases (λ k t p. p)
