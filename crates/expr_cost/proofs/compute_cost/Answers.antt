-- `expr_cost::compute_cost` meets its contract: too many flags are refused first, and then the walk answers.
use mathlib.Core.Path.{ap, ◌∙◌}
use Rattle.reader.proofs.Passed.{passed, passed-first}
use Rattle.expr_cost.specs.Answers.{costing_of}
use Rattle.expr_cost.proofs.TreeCosts.{costing-many, costing-walked}
use Rattle.expr_cost.proofs.compute_cost.Goals as goal

pub returns-in_err-flags : goal.returns-in_err-flags
returns-in_err-flags c = ap costing_of (passed c.from_residual.ensures.1) ∙ costing-many _ _ c.in_err-flags.ensures

pub returns-in_err-seen : goal.returns-in_err-seen
returns-in_err-seen c =
    let a = c.args in
    let flags = c.in_ok-flags.flags in
    let (few, same) = passed-first _ _ _ _ c.in_ok-flags.ensures in
    rw (← same) (ap costing_of (passed c.from_residual-in_err-seen.ensures.1) ∙ costing-walked flags.count a.bytes.now flags.within
    c.in_err-seen.ensures)

pub returns : goal.returns
returns c =
    let a = c.args in
    let flags = c.in_ok-flags.flags in
    let (few, same) = passed-first _ _ _ _ c.in_ok-flags.ensures in
    rw (c.from.ensures, ← same) (costing-walked flags.count a.bytes.now flags.within c.in_ok-seen.ensures)
