-- `comparison::outcome::comes_to` meets its contract: the derived comparison of outcomes is the one on paper. The answer names what it rests on and
-- not the form of the code, so that another test of the same two equalities is proved by it too.
use Rattle.std.proofs.Common.{arith, take_all}
use Rattle.comparison.proofs.Same.{outcome-same}
use Rattle.comparison.proofs.outcome.comes_to.Goals as goal

pub returns : goal.returns
returns g c = grind (arith, take_all, outcome-same)
