-- `anf_cleanup::product_cost` meets its contract: a product of k flags costs 2k - 1 (laws, Cost).
use mathlib.Core.Path.{ap}
use native.Mathlib.Omega.{arith}
use lib.Count.{ones}
use Rattle.bits.proofs.Mask.{ones_pos}
use Rattle.laws.proofs.cost.Cost.{cost-cube, term_cost-suc}
use Rattle.anf_cleanup.proofs.product_cost.Goals as goal

pub overflow_sub-result : goal.overflow_sub-result
overflow_sub-result c = let p = c.args.product in omega (arith, ones_pos p.mask.bits p.some, ap ones c.from.ensures)

pub returns : goal.returns
returns c = let p = c.args.product in omega (arith, cost-cube p.mask.bits, term_cost-suc p.mask.bits p.some, ap ones c.from.ensures)
