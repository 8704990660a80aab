-- `lent::Coefficients::checked` meets its contract: row 1 is that of the number of flags, and the others follow where it is passed (laws, Checked).
use Rattle.std.proofs.Common.{◌∙◌, ℕ, sym, ap, arith}
use Rattle.rules.specs.Calls.{with_coefficients}
use Rattle.rules.specs.Coefficient.{word_count, stray}
use Rattle.laws.proofs.calls.Checked.{coefficients-short, coefficients-stray, coefficients-clean}
use Rattle.packed_anf.proofs.Rows.{exit, past-row, given-flags, stray-take}
use Rattle.packed_anf.proofs.lent.Coefficients.checked.Goals as goal

pub returns-in_err-flags : goal.returns-in_err-flags
unfolding with_coefficients
returns-in_err-flags g c = exit _ c.from_residual.result _ c.from_residual.ensures.1 ∙ past-row _ _ _ _ _ _ c.in_err-flags.ensures

pub returns-then-words-count : goal.returns-then-words-count
returns-then-words-count g c =
    let few = given-flags g.row.LIMIT c.args.flags c.in_ok-flags.ensures in
    rw (c.at.ensures, ← few.1) (sym (coefficients-short _ _ _ _ (omega arith) (omega arith)))

pub returns-then-is_stray : goal.returns-then-is_stray
returns-then-is_stray g c =
    let few = given-flags g.row.LIMIT c.args.flags c.in_ok-flags.ensures in
    let found = sym c.is_stray.ensures ∙ c.if-is_stray.true in
    rw (c.at-then-is_stray.ensures, ← few.1) (sym (coefficients-stray _ _ _ _ (omega arith) (omega arith) found))

pub invariant_of-result-clause-none_stray : goal.invariant_of-result-clause-none_stray
invariant_of-result-clause-none_stray g c =
    rw c.word_count-count.ensures (stray-take c.in_ok-flags.flags.count c.args.words.now ∙ sym c.is_stray.ensures ∙ c.if-is_stray.false)

pub returns : goal.returns
returns g c =
    let few = given-flags g.row.LIMIT c.args.flags c.in_ok-flags.ensures in
    rw (c.word_count-count.ensures, few.1)
    (sym (coefficients-clean _ _ _ _ few.0 (omega (arith, ap word_count few.1)) (ap (λ (n : ℕ). stray n c.args.words.now) (sym few.1)
    ∙ sym c.is_stray.ensures ∙ c.if-is_stray.false)))
