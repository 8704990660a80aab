-- `cheaper::is_better` meets its contract: pairs are compared by their first part, then by their second. From the laws of Compared.
use mathlib.Core.Path.{◌∙◌}
use Rattle.expr_cost.specs.Answers.{costs_of}
use Rattle.cheaper.proofs.Compared.{better-pairs}
use Rattle.cheaper.proofs.is_better.Goals as goal

pub returns : goal.returns
returns c = c.lt.ensures ∙ better-pairs (costs_of c.args.candidate) (costs_of c.args.baseline)
