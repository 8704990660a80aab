-- `expr::record_at` meets its contract: at each `return` one equation of the laws of Marks is the record on paper.
use mathlib.Core.Path.{refl, sym, ap, ◌∙◌}
use native.Mathlib.Omega.{arith}
use Rattle.std.specs.Prelude.{Err}
use Rattle.rules.specs.Record.{plain}
use Rattle.expr.specs.Answers.{found_of}
use Rattle.expr.proofs.Marks.{by_mark, mark-unknown, over-short, over-mark, over-constant, over-flag}
use Rattle.expr.proofs.record_at.Goals as goal

pub returns-then-left-lt2 : goal.returns-then-left-lt2
returns-then-left-lt2 c = ap (λ r. found_of (Err r)) c.at.ensures ∙ sym (over-short _ _ _ _ (omega arith))

pub returns-in-17231 : goal.returns-in-17231
returns-in-17231 c =
    c.constant.ensures
    ∙ sym (over-mark _ _ _ _ (omega arith) c.from_be_bytes.ensures c.in-17231.is ∙ over-constant _ _ _ _)

pub returns-in-22081 : goal.returns-in-22081
returns-in-22081 c =
    c.variable.ensures
    ∙ sym (over-mark _ _ _ _ (omega arith) c.from_be_bytes.ensures c.in-22081.is ∙ over-flag _ _ _ _)

pub returns-in-16718 : goal.returns-in-16718
unfolding by_mark plain
returns-in-16718 c = c.operator.ensures ∙ sym (over-mark _ _ _ _ (omega arith) c.from_be_bytes.ensures c.in-16718.is)

pub returns-in-20306 : goal.returns-in-20306
unfolding by_mark plain
returns-in-20306 c = c.operator-in-20306.ensures ∙ sym (over-mark _ _ _ _ (omega arith) c.from_be_bytes.ensures c.in-20306.is)

pub returns-in-22607 : goal.returns-in-22607
unfolding by_mark plain
returns-in-22607 c = c.operator-in-22607.ensures ∙ sym (over-mark _ _ _ _ (omega arith) c.from_be_bytes.ensures c.in-22607.is)

pub returns-in-20047 : goal.returns-in-20047
unfolding by_mark plain
returns-in-20047 c = c.operator-in-20047.ensures ∙ sym (over-mark _ _ _ _ (omega arith) c.from_be_bytes.ensures c.in-20047.is)

pub returns-in_default : goal.returns-in_default
returns-in_default c =
    let r = c.in_default.in_default-own.rest in
    ap (λ r. found_of (Err r)) c.at-in_default.ensures
    ∙ sym (over-mark _ _ _ _ (omega arith) c.from_be_bytes.ensures refl
    ∙ rw (mark-unknown c.args.flags c.args.bytes.now c.args.place c.from_be_bytes.result
    r.0.0.0.0.0.1 r.0.0.0.0.1 r.0.0.0.1 r.0.0.1 r.0.1 r.1))
