-- `rule_text::table_page` meets its contract: the compiler does not refuse the table, and the lines of what it wrote are the report.
use mathlib.Core.Path.{◌≡◌, sym}
use Prim.Native.Nat.{◌^◌}
use native.Mathlib.Omega.{arith}
use lib.ListN.{length}
use lib.Seq.{length-take-le}
use Rattle.text.specs.TableDigits.{values}
use Rattle.text.specs.declared.table.Digits.{Digits}
use Rattle.text.proofs.FlagCount.{flags-some, flags-most}
use Rattle.text.proofs.Shown.{shows-eq}
use Rattle.rule_text.proofs.Compiling.{Answered, answered, never-refused, count-told, printable-told, report-told}
use Rattle.rule_text.proofs.table_page.Goals as goal
use Rattle.rule_text.proofs.table_page.Goals.{After-build_anf_expr}

size : (d : Digits) → length d.bytes.now ≡ 2 ^ d.flags.count
size d = (flags-some _ _ d.checked.0).0

-- what the compiler answered
told : (c : After-build_anf_expr)
    → Answered c.args.digits.flags.count (values c.args.digits.bytes.now) c.build_anf_expr.new.out c.build_anf_expr.result
told c =
    let b = c.build_anf_expr in
    answered c.args.digits.flags c.args.digits.bytes.now c.deref.result.now _ _ (size c.args.digits) (cc) b.auto.out b.ensures.answer

pub entries-table-requires : goal.entries-table-requires
entries-table-requires c =
    let d = c.args.digits in
    (omega arith, (omega (arith, size d, flags-most d.flags.count d.flags.within), d.checked.1))

pub returns-in_default : goal.returns-in_default
returns-in_default c = absurd (never-refused (told (goal.at.returns-in_default c).After-build_anf_expr) _ c.in_default.is)

pub slice_bounds-expression-end : goal.slice_bounds-expression-end
slice_bounds-expression-end c = count-told (told (goal.at.slice_bounds-expression-end c).After-build_anf_expr) c.in-Ok.rule c.in-Ok.is

pub slice_bounds-rule_page-end : goal.slice_bounds-rule_page-end
slice_bounds-rule_page-end c = sym (length-take-le _ _
    (count-told (told (goal.at.slice_bounds-rule_page-end c).After-build_anf_expr) c.in-Ok.rule c.in-Ok.is))

pub rule_page-requires : goal.rule_page-requires
rule_page-requires c = printable-told (told (goal.at.rule_page-requires c).After-build_anf_expr) c.in-Ok.rule c.in-Ok.is

pub returns : goal.returns
returns c = shows-eq (report-told (told (goal.at.returns c).After-build_anf_expr) c.in-Ok.rule c.in-Ok.is) c.rule_page.ensures
