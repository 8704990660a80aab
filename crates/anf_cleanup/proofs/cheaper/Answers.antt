-- `anf_cleanup::cheaper` meets its contract: the tree of the second plan costs what the plan says, so the plans are compared as their trees (Plans).
use mathlib.Core.Path.{refl}
use native.Mathlib.Omega.{arith}
use Rattle.anf_cleanup.proofs.Plans.{improved-kept, improved-taken}
use Rattle.anf_cleanup.proofs.cheaper.Goals as goal

pub returns-then-best-plan : goal.returns-then-best-plan
returns-then-best-plan c l u k = improved-kept l _ c.args.best u c.args.plan.cost refl k.costs (omega arith)

pub returns : goal.returns
returns c l u k = improved-taken l c.args.best c.args.plan u k (omega arith)
