-- `lent::enough_entries` meets its contract: row 1 is that of the number of flags, and row 2 follows where it is passed.
use Rattle.std.proofs.Common.{◌∙◌, ◌^◌, sym, ap, arith, ℕ}
use borrow.Author.Tests.{le-ltb, le-leb, lt-leb}
use Rattle.packed_anf.proofs.Rows.{exit, past-row, given-flags}
use Rattle.packed_anf.proofs.lent.enough_entries.Goals as goal

pub returns-in_err-flags : goal.returns-in_err-flags
returns-in_err-flags g c = exit _ c.from_residual.result _ c.from_residual.ensures.1 ∙ past-row _ _ _ _ _ _ c.in_err-flags.ensures

pub returns-then-entries-setting_count : goal.returns-then-entries-setting_count
returns-then-entries-setting_count g c =
    let few = given-flags g.row.LIMIT c.args.flags c.in_ok-flags.ensures in
    rw (c.at.ensures, ← few.1)
    (sym (rw (le-ltb g.row.LIMIT c.in_ok-flags.flags.count (omega arith), lt-leb (2 ^ c.in_ok-flags.flags.count) c.args.entries (omega arith))))

pub returns : goal.returns
returns g c =
    let few = given-flags g.row.LIMIT c.args.flags c.in_ok-flags.ensures in
    rw few.1 (sym (rw (le-ltb g.row.LIMIT c.args.flags few.0, le-leb (2 ^ c.args.flags) c.args.entries (omega (arith, ap (λ (k : ℕ). 2 ^ k) few.1)))))
