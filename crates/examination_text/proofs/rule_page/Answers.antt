-- `examination_text::rule_page` meets its contract: the table's entries are the digits' values and the bytes those of the records,
-- so the verdict on them is the page, on which it fits.
use Rattle.std.proofs.Common.{◌≡◌, sym, ap, ◌∙◌, length, arith}
use Prim.Native.Nat.{ℕ, ◌^◌}
use lib.ListN.{length-append}
use Rattle.rules.specs.Ascii.{ascii}
use Rattle.text.specs.TableDigits.{values}
use Rattle.text.specs.declared.table.Digits.{Digits}
use Rattle.text.proofs.FlagCount.{flags-some, flags-most}
use Rattle.text.proofs.TableDigits.{length-values}
use Rattle.text.proofs.Shown.{shows-eq, written-then, written-shows}
use Rattle.examination_text.specs.Notation.{record_texts, expression}
use Rattle.examination_text.proofs.Input.{rule-none, rule-verdict}
use Rattle.examination_text.proofs.rule_page.Goals as goal

size : (d : Digits) → length d.bytes.now ≡ 2 ^ d.flags.count
size d = (flags-some _ _ d.checked.0).0

pub returns-in_default : goal.returns-in_default
unfolding ascii
returns-in_default c = shows-eq (sym (rule-none _ _ _ c.in_default.ensures.none)) c.page_of.ensures

pub entries-entries-requires : goal.entries-entries-requires
entries-entries-requires c =
    let d = c.args.digits in
    (omega arith, (omega (arith, flags-most d.flags.count d.flags.within, size d), d.checked.1))

pub invariant_of-table : goal.invariant_of-table
invariant_of-table c =
    let d = c.args.digits in
    let same = ap (length {A = ℕ}) (c.deref-3.ensures.0 ∙ c.entries-entries.ensures) in
    record { complete = omega (arith, same, length-values d.bytes.now, size d) }

pub returns : goal.returns
unfolding ascii
returns c =
    let n = c.args.digits.flags.count in
    let ts = record_texts c.args.line.now in
    let entries = values c.args.digits.bytes.now in
    let first : c.deref.result.now ≡ entries = c.deref.ensures.0 ∙ c.entries-entries.ensures in
    let second : c.deref-2.result.now ≡ expression ts = c.deref-2.ensures.0 ∙ c.in-Some.ensures.some.1 in
    let third : c.deref-3.result.now ≡ entries = c.deref-3.ensures.0 ∙ c.entries-entries.ensures in
    let all = written-then c.push_verdict.ensures.text c.push.ensures in
    let page = written-shows all c.new-verdict.ensures (omega (arith, length-append {A = ℕ}, c.push_verdict.ensures.short))
    (shows-eq c.deref-4.ensures.0 c.page_of-2.ensures) in
    shows-eq (sym (rule-verdict n entries ts c.in-Some.ensures.some.0))
    (rw (c.examine-answer.ensures, first, second, third) at page)
