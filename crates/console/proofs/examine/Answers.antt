-- `console::examine` meets its contract: rows 1 and 2 (packed_anf, Rows) on the table's entries (table, Entries), and past them the examination of
-- the table by value (examiner, Examined).
use Rattle.std.proofs.Common.{◌∙◌, ◌^◌, ℕ, ap, sym, arith}
use Rattle.rules.specs.Console.{entries}
use Rattle.rules.specs.Limits.{rule_flags}
use Rattle.rules.specs.Table.{entry}
use Rattle.packed_anf.specs.Rows.{enough_entries}
use Rattle.packed_anf.proofs.Rows.{exit, past-entries, given-entries}
use Rattle.table.proofs.Entries.{length-entries}
use Rattle.examiner.specs.Examined.{examine_truth}
use Rattle.examiner.proofs.Examined.{examine-truth, examine-table}
use Rattle.console.proofs.examine.Goals as goal

pub returns-in_err-flags : goal.returns-in_err-flags
returns-in_err-flags c =
    let a = c.args in
    let t = entries a.table.now in
    let e = c.in_err-flags.ensures ∙ ap (enough_entries rule_flags a.flags) (sym (length-entries a.table.now)) in
    exit _ _ _ c.from_residual.ensures.1 ∙ past-entries rule_flags a.flags t _ (examine_truth a.flags (entry t) a.bytes.now) e
    ∙ sym (examine-truth a.flags t a.bytes.now)

pub returns-in_err-cost : goal.returns-in_err-cost
returns-in_err-cost c =
    let a = c.args in
    let f = c.in_ok-flags.flags in
    let t = entries a.table.now in
    let given = given-entries rule_flags a.flags _ c.in_ok-flags.ensures in
    rw (← given.0) (exit _ _ _ c.from_residual-in_err-cost.ensures.1 ∙ c.in_err-cost.ensures
    ∙ examine-table f t a.bytes.now (omega (arith, given, ap (λ (k : ℕ). 2 ^ k) given.0, length-entries a.table.now)) _ c.of_bytes.ensures)

pub returns : goal.returns
returns c =
    let a = c.args in
    let f = c.in_ok-flags.flags in
    let t = entries a.table.now in
    let given = given-entries rule_flags a.flags _ c.in_ok-flags.ensures in
    rw (← given.0) (c.in_ok-cost.ensures
    ∙ examine-table f t a.bytes.now (omega (arith, given, ap (λ (k : ℕ). 2 ^ k) given.0, length-entries a.table.now)) _ c.of_bytes.ensures)
