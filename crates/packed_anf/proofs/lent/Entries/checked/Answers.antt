-- `lent::Entries::checked` meets its contract: the check of the number of entries is that of the rows of a table (Rows).
use Rattle.std.proofs.Common.{◌∙◌, ◌^◌, ap, arith, ℕ}
use Rattle.rules.specs.Outcome.{gives}
use Rattle.packed_anf.proofs.Rows.{exit, past-entries, given-entries}
use Rattle.packed_anf.proofs.lent.Entries.checked.Goals as goal

pub returns-in_err-flags : goal.returns-in_err-flags
returns-in_err-flags g c =
    exit _ c.from_residual.result _ c.from_residual.ensures.1 ∙ past-entries g.row.LIMIT c.args.flags c.args.entries.now _ _ c.in_err-flags.ensures

pub invariant_of-result : goal.invariant_of-result
invariant_of-result g c =
    let given = given-entries g.row.LIMIT c.args.flags _ c.in_ok-flags.ensures in
    omega (arith, given, ap (λ (k : ℕ). 2 ^ k) given.0)

pub returns : goal.returns
returns g c =
    let given = given-entries g.row.LIMIT c.args.flags _ c.in_ok-flags.ensures in
    rw given.0 (past-entries g.row.LIMIT c.args.flags c.args.entries.now _ (gives (c.args.flags, c.args.entries.now)) c.in_ok-flags.ensures)
