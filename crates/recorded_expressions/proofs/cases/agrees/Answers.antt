-- `recorded_expressions::cases::agrees` meets its contract: what is compared is the call on paper and the recorded outcome.
use Rattle.comparison.proofs.Same.{same-said}
use Rattle.recorded_expressions.proofs.cases.agrees.Goals as goal

pub returns : goal.returns
returns c = same-said c.eq.ensures c.answer.ensures c.expected.ensures
