-- `anf_form::mask_order::term_cost` meets its contract: a mask other than 0 has a flag, and the cost of its term is twice its flags, less one.
use mathlib.Core.Path.{sym, ap}
use native.Mathlib.Omega.{arith}
use Rattle.rules.specs.Form.{term_cost}
use Rattle.laws.proofs.cost.Cost.{term_cost-suc}
use Rattle.anf_form.proofs.mask_order.term_cost.Goals as goal

pub returns-then-mask-eq0 : goal.returns-then-mask-eq0
unfolding term_cost
returns-then-mask-eq0 c = (sym (ap term_cost c.if-mask-eq0.true), omega arith)

pub overflow_sub-result : goal.overflow_sub-result
overflow_sub-result c = omega (arith, term_cost-suc c.args.mask (omega arith))

pub returns : goal.returns
returns c = omega (arith, term_cost-suc c.args.mask (omega arith))
