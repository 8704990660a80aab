-- `expr::operator` meets its contract, by its test.
use Rattle.expr.proofs.operator.Goals as goal

pub returns-then-few : goal.returns-then-few
returns-then-few c = rw (c.at.ensures, c.if-few.true)

pub returns : goal.returns
returns c = rw c.if-few.false
