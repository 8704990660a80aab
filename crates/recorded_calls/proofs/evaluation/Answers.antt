-- `recorded_calls::evaluation` meets its contract: the outcome of each answer is the call's on paper.
use Rattle.std.proofs.Common.{rules}
use Rattle.comparison.specs.Outcome.{alone}
use Rattle.comparison.proofs.Told.{told-of}
use Rattle.recorded_calls.proofs.evaluation.Goals as goal

pub returns : goal.returns
returns c = told-of alone (λ k. k) _ c.evaluate-answer.ensures _ c.from.ensures c.map.ensures.cases (λ k t p. search rules)
