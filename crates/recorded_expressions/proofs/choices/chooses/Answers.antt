-- `recorded_expressions::choices::chooses` meets its contract: what is compared is the cheaper of two on paper.
use Rattle.comparison.proofs.Same.{same-said}
use Rattle.recorded_expressions.proofs.choices.chooses.Goals as goal

pub returns : goal.returns
returns c = same-said c.eq.ensures c.choice.ensures c.one.ensures
