-- `rule_text::print_rule` meets its contract: each of its answers is one law of Printed.
use mathlib.Core.Bool.{false}
use mathlib.Core.Path.{◌≡◌, sym, ap, ◌∙◌}
use Prim.Native.Nat.{◌-◌}
use native.Mathlib.Omega.{arith}
use borrow.Author.Tests.{ltb-true, tests}
use lib.ListN.{length}
use lib.Seq.{length-take-le}
use Rattle.bits.specs.Range.{all}
use Rattle.rules.specs.Ascii.{ascii}
use Rattle.rules.specs.Text.{flags_of, is_line, report}
use Rattle.text.specs.TableDigits.{is_digit, values}
use Rattle.text.proofs.Shown.{shows-eq}
use Rattle.rule_text.proofs.Printed.{line-empty, line-last, line-digits, printed-ragged, printed-no_table, printed-rule}
use Rattle.rule_text.proofs.print_rule.Goals as goal
use Rattle.rule_text.proofs.print_rule.Goals.{in_default-via-then-input-lt1, in_default-via-else-input-lt1+in_default-1}

pub returns-in_default : goal.returns-in_default
unfolding ascii
returns-in_default c =
    let s = c.args.input.now in
    let other : is_line s ≡ false = elim c.in_default.branch [
      | in_default-via-then-input-lt1 w ↦ line-empty s (omega (arith, ltb-true))
      | in_default-via-else-input-lt1+in_default-1 w ↦ line-last s (λ e. omega (arith, e, tests))
    ] in
    shows-eq (sym (printed-ragged s other)) c.page_of.ensures

pub returns-in-Some : goal.returns-in-Some
returns-in-Some c =
    let s = c.args.input.now in
    let d = c.in-Some.table in
    let same = c.in-Some.ensures.some in
    let size = ap flags_of (sym (length-take-le (length s - 1) s (omega arith))) ∙ sym (ap (λ l. flags_of (length l)) same) ∙ d.checked.0 in
    let told = line-digits s (omega arith) ∙ sym (ap (all is_digit) same) ∙ d.checked.1 in
    shows-eq (sym (printed-rule s d.flags.count size told ∙ ap (λ l. report d.flags.count (values l)) (sym same))) c.table_page.ensures

pub returns-in-None : goal.returns-in-None
unfolding ascii
returns-in-None c =
    let s = c.args.input.now in
    let size = length-take-le (length s - 1) s (omega arith) in
    let none = printed-no_table s (omega arith) (λ n e. c.in-None.ensures.none n (ap flags_of size ∙ e)) in
    shows-eq (sym none) c.page_of-in-None.ensures
