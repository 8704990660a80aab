-- `package_reader::read_rule` meets its contract: an overlong package, the end, and then the header and the examination. From Checked.
use mathlib.Core.Path.{sym, ◌∙◌}
use native.Mathlib.Omega.{arith}
use Rattle.packed_anf.proofs.Rows.{exit}
use Rattle.package_reader.proofs.Checked.{read-headed, headed-whole}
use Rattle.package_reader.proofs.read_rule.Goals as goal

pub returns-in_err-rule : goal.returns-in_err-rule
returns-in_err-rule c =
    let a = c.args in
    exit _ _ _ c.from_residual.ensures.1 ∙ read-headed a.bytes.now a.place (omega arith) (omega arith) c.in_err-rule.ensures

pub examined-requires : goal.examined-requires
examined-requires c =
    let a = c.args in
    headed-whole a.bytes.now a.place _ (sym c.in_ok-rule.ensures) (omega arith)

pub returns-in_err-examined : goal.returns-in_err-examined
returns-in_err-examined c =
    let a = c.args in
    exit _ _ _ c.from_residual-in_err-examined.ensures.1
    ∙ rw (← c.in_err-examined.ensures) at (read-headed a.bytes.now a.place (omega arith) (omega arith) c.in_ok-rule.ensures)

pub returns : goal.returns
returns c =
    let a = c.args in
    rw (← c.in_ok-examined.ensures) at (read-headed a.bytes.now a.place (omega arith) (omega arith) c.in_ok-rule.ensures)
