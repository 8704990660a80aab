-- `cheaper::compare` meets its contract: what costing answers of the two says which of them is the cheaper. From the laws of Compared.
use mathlib.Core.Path.{◌∙◌}
use Rattle.std.specs.Prelude.{Some, None}
use Rattle.cheaper.specs.declared.Which.TheVariants.{First, Second}
use Rattle.cheaper.proofs.Compared.{told-first, told-second, told-better, told-else}
use Rattle.cheaper.proofs.compare.Goals as goal

pub returns-in_err-a : goal.returns-in_err-a
returns-in_err-a c =
    c.from_residual.ensures
    ∙ told-first None (Some First) (Some Second) _ _ _ _ c.compute_cost.result c.compute_cost.ensures c.in_err-a.ensures.value

pub returns-in_err-b : goal.returns-in_err-b
returns-in_err-b c =
    c.from_residual-in_err-b.ensures
    ∙ told-second None (Some First) (Some Second) _ _ _ _ _ c.compute_cost.ensures c.in_ok-a.ensures.value c.compute_cost-2.ensures
    c.in_err-b.ensures.value

pub returns-then-is_better : goal.returns-then-is_better
returns-then-is_better c =
    told-better None (Some First) (Some Second) _ _ _ _ _ c.compute_cost.ensures c.in_ok-a.ensures.value c.compute_cost-2.ensures
    c.in_ok-b.ensures.value
    c.is_better.ensures c.if-is_better.true

pub returns : goal.returns
returns c =
    told-else None (Some First) (Some Second) _ _ _ _ _ c.compute_cost.ensures c.in_ok-a.ensures.value c.compute_cost-2.ensures
    c.in_ok-b.ensures.value
    c.is_better.ensures c.if-is_better.false
