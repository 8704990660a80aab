-- `examiner::judge` meets its contract: the table answers the first setting that differs, and the raw cost of its form. From the laws of Examined.
use mathlib.Core.Path.{sym, ap, ◌∙◌}
use Rattle.rules.specs.Form.{raw_cost}
use Rattle.table.specs.Truth.{truth}
use Rattle.examiner.proofs.Examined.{judged-differs, judged-costly, judged-accepts}
use Rattle.examiner.proofs.judge.Goals as goal

pub returns-in-Some : goal.returns-in-Some
returns-in-Some c =
    let a = c.args in
    rw c.at.ensures (sym (judged-differs a.table.flags.count (truth a.table) a.seen _ c.difference.ensures c.in-Some.is))

pub returns-then-raw_cost-seen : goal.returns-then-raw_cost-seen
returns-then-raw_cost-seen c =
    let a = c.args in
    let raw = c.raw_cost.ensures ∙ ap raw_cost c.form.ensures in
    rw c.at-then-raw_cost-seen.ensures
    (sym (judged-costly a.table.flags.count (truth a.table) a.seen c.difference.ensures c.in_default.is raw c.if-raw_cost-seen.true))

pub returns : goal.returns
returns c =
    let a = c.args in
    let raw = c.raw_cost.ensures ∙ ap raw_cost c.form.ensures in
    sym (judged-accepts a.table.flags.count (truth a.table) a.seen c.difference.ensures c.in_default.is raw c.if-raw_cost-seen.false)
