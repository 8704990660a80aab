-- `anf_cleanup::chain_cost` meets its contract: an OR chain of two flags or more costs one more than its flags (laws, Cost).
use mathlib.Core.Path.{sym}
use native.Mathlib.Omega.{arith}
use Rattle.laws.proofs.cost.Cost.{cost-or_chain, cost-or_chain-few}
use Rattle.anf_cleanup.proofs.chain_cost.Goals as goal

pub returns-then-ones-lt2 : goal.returns-then-ones-lt2
returns-then-ones-lt2 c = (sym (cost-or_chain-few c.args.mask (omega arith)), omega arith)

pub returns : goal.returns
returns c = (omega (arith, cost-or_chain c.args.mask (omega arith)), omega arith)
