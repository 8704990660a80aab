-- `package_writer::write_rule` meets its contract: rows 1 and 17, the examination, and then the rule's bytes. From Checked and the laws of rows
-- (packed_anf, Rows); that the length of an accepted expression fits two bytes is a law of rule_package (rule_package, Sound).
use mathlib.Core.Path.{sym, ap, ◌∙◌}
use lib.ListN.{length}
use Rattle.bits.proofs.Below.{get_or-below}
use Rattle.rules.specs.Outcome.{left}
use Rattle.laws.proofs.calls.Outcome.{left-refuses}
use Rattle.packed_anf.proofs.Rows.{exit}
use Rattle.rule_package.specs.Rule.{Rule, examine_rule}
use Rattle.rule_package.proofs.Sound.{accepted-limit}
use Rattle.package_writer.proofs.Checked.{write-checked}
use Rattle.package_writer.proofs.write_rule.Goals as goal

pub returns-in_err-flags : goal.returns-in_err-flags
returns-in_err-flags c =
    let a = c.args in
    let both = left-refuses a.out.now _ _ _ (sym (write-checked a.flags a.table a.expression.now (length a.out.now) c.in_err-flags.ensures)) in
    record { answer = exit _ _ _ c.from_residual.ensures.1 ∙ both.0; lent = both.1 }

pub returns-in_err-examine_word : goal.returns-in_err-examine_word
unfolding examine_rule
returns-in_err-examine_word c =
    let a = c.args in
    let row = write-checked a.flags a.table a.expression.now (length a.out.now) c.in_ok-flags.ensures in
    let both = left-refuses a.out.now _ _ _ (sym (rw (← c.in_err-examine_word.ensures) at row)) in
    record { answer = exit _ _ _ c.from_residual-in_err-examine_word.ensures.1 ∙ both.0; lent = both.1 }

pub put-requires : goal.put-requires
unfolding examine_rule
put-requires c =
    let rule : Rule = record { flags = c.in_ok-flags.flags.count; table = c.args.table; expression = c.args.expression.now } in
    accepted-limit rule _ (sym c.in_ok-examine_word.ensures) (get_or-below 256 c.args.expression.now 0 (λ i. (c.type_inv.expression i).fits))

pub returns : goal.returns
unfolding examine_rule
returns c =
    let a = c.args in
    let row = write-checked a.flags a.table a.expression.now (length a.out.now) c.in_ok-flags.ensures in
    let written = rw (← c.in_ok-examine_word.ensures) at row in
    record { answer = c.put.ensures.answer ∙ written; lent = c.put.ensures.lent ∙ ap (left a.out.now) written }
