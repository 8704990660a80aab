-- `examiner::examine` meets its contract: rows 1 and 2 (packed_anf, Rows), and past them the examination of the table by value (Examined).
use mathlib.Core.List.{List}
use mathlib.Core.Path.{sym, ap, ◌∙◌}
use Prim.Native.Nat.{ℕ}
use Rattle.packed_anf.proofs.Rows.{exit, past_table, given-table}
use Rattle.rules.specs.Calls.{examine}
use Rattle.rules.specs.Limits.{rule_flags}
use Rattle.rules.specs.Outcome.{Outcome}
use Rattle.rules.specs.Table.{entry}
use Rattle.examiner.specs.Examined.{examine_truth}
use Rattle.examiner.proofs.Examined.{examine-truth, examine-table}
use Rattle.examiner.proofs.examine.Goals as goal

pub returns-in_err-table : goal.returns-in_err-table
returns-in_err-table c =
    let a = c.args in
    let rest : Outcome ℕ = examine_truth a.flags (entry a.table.now) a.bytes.now in
    exit _ _ _ c.from_residual.ensures.1 ∙ past_table rule_flags a.flags a.table.now _ _ rest c.in_err-table.ensures
    ∙ sym (examine-truth a.flags a.table.now a.bytes.now)

pub returns : goal.returns
returns c =
    let a = c.args in
    let passed = c.in_ok-table.table in
    c.examine_table.ensures ∙ examine-table passed.flags passed.entries.now a.bytes.now passed.complete _ c.of_entries.ensures
    ∙ ap (λ (p : ℕ × List ℕ). examine p.0 p.1 a.bytes.now) (given-table rule_flags a.flags a.table.now c.in_ok-table.ensures)
