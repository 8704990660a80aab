-- `examination_text::lines_page` meets its contract: each of its two answers is one law of Input.
use mathlib.Core.Path.{sym, ap, ◌∙◌}
use lib.ListN.{length}
use Rattle.bits.specs.Range.{all}
use Rattle.rules.specs.Ascii.{ascii}
use Rattle.rules.specs.Text.{flags_of}
use Rattle.text.specs.TableDigits.{is_digit, values}
use Rattle.text.proofs.Shown.{shows-eq}
use Rattle.examination_text.specs.Input.{of_rule}
use Rattle.examination_text.specs.Notation.{record_texts}
use Rattle.examination_text.proofs.Input.{table-no_digits, table-rule}
use Rattle.examination_text.proofs.lines_page.Goals as goal

pub returns-in_default : goal.returns-in_default
unfolding ascii
returns-in_default c =
    let a = c.args in
    shows-eq (sym (table-no_digits a.digits.now a.line.now c.in_default.ensures.none)) c.page_of.ensures

pub returns : goal.returns
returns c =
    let a = c.args in
    let d = c.in-Some.table in
    let same = c.in-Some.ensures.some in
    let flags = sym (ap (λ l. flags_of (length l)) same) ∙ d.checked.0 in
    let digits = sym (ap (all is_digit) same) ∙ d.checked.1 in
    let rule = table-rule a.digits.now a.line.now d.flags.count flags digits in
    shows-eq (sym (rule ∙ ap (λ l. of_rule d.flags.count (values l) (record_texts a.line.now)) (sym same))) c.rule_page.ensures
