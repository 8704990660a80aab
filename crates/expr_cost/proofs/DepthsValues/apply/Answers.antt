-- `expr_cost::DepthsValues::apply` meets its contract: each arm is told the number of operands, and a law of Depth says that it makes the depth.
use mathlib.Core.Path.{sym, ap, ◌∙◌}
use Prim.Native.Nat.{◌+◌}
use native.Mathlib.Omega.{arith}
use Rattle.expr_cost.proofs.Depth.{deepest-two, depth-told, depth-limit}
use Rattle.expr_cost.proofs.DepthsValues.apply.Goals as goal

pub overflow_add-result : goal.overflow_add-result
overflow_add-result c = omega (arith, depth-limit _ (sym c.in-1.is ∙ c.arity.ensures) c.requires.2)

pub overflow_add-result-in_default : goal.overflow_add-result-in_default
overflow_add-result-in_default c =
    omega (arith, depth-limit _ c.arity.ensures c.requires.2, deepest-two c.arity.result c.args.first c.args.second (omega arith), c.max.ensures)

pub returns-in-0 : goal.returns-in-0
returns-in-0 c x y p = depth-told _ (sym c.in-0.is ∙ c.arity.ensures) p

pub returns-in-1 : goal.returns-in-1
returns-in-1 c x y p = depth-told _ (sym c.in-1.is ∙ c.arity.ensures) p

pub returns-in_default : goal.returns-in_default
returns-in_default c x y p =
    ap (λ m. m + 1) c.max.ensures ∙ sym (deepest-two _ _ _ (omega arith)) ∙ depth-told _ c.arity.ensures p
