-- `reader::find` meets its contract. The loop's invariant is `Finding`: the records so far are read as the machine reads them, and the array holds
-- where the operands that they leave begin. The measure is what is left of the way to the place. Each way out is one law of Finding. The two that
-- give no record before the place rewrite what is returned by what the step answered, the end or a refusal, and so hold for any text of the same
-- answer.
use mathlib.Core.Path.{◌≡◌, refl, sym, ap, ◌∙◌}
use native.Mathlib.Omega.{arith}
use Rattle.std.proofs.Common.{rules}
use Rattle.std.specs.Prelude.{Option, None, Result, Ok}
use Rattle.rules.specs.declared.refusal.Refusal.{Refusal}
use Rattle.reader.specs.Answers.{reading_of}
use Rattle.reader.specs.declared.Node.{Node}
use Rattle.reader.proofs.Finding.{finding-start, finding-step, finding-reached, finding-refused, finding-end, finding-inside}
use Rattle.reader.proofs.Turn.{answer-found}
use Rattle.reader.proofs.Walk.{walk-fits}
use Rattle.reader.proofs.find.Goals as goal

pub loop-reader-init : goal.loop-reader-init
loop-reader-init c =
    rw c.new-reader.ensures (refl, refl, finding-start c.args.flags.count c.args.bytes.now c.args.place _ c.args.flags.within refl)

pub step-answer-requires : goal.step-answer-requires
step-answer-requires c = finding-reached c.loop-reader.invariant.2 c.loop-reader.reader.flags.within

pub step-requires : goal.step-requires
step-requires c = finding-reached c.loop-reader.invariant.2 c.loop-reader.reader.flags.within

pub returns-in_default : goal.returns-in_default
returns-in_default c =
    let w = c.loop-reader.invariant in
    let end : ◌≡◌ {A = Result (Option Node) Refusal} c.step-answer.result (Ok None) = search rules in
    let told = finding-end w.2 c.loop-reader.reader.flags.within (omega arith) (sym c.step-answer.ensures ∙ ap reading_of end) in
    rw (← w.0, ← w.1) (simp (end, told) refl)

pub returns-in_default-2 : goal.returns-in_default-2
returns-in_default-2 c =
    let w = c.loop-reader.invariant in
    let told = finding-refused w.2 c.loop-reader.reader.flags.within (omega arith) (sym c.step-answer.ensures ∙ ap reading_of c.in_default.is) in
    rw (← w.0, ← w.1) (simp (c.in_default.is, told) refl)

pub pass-requires : goal.pass-requires
pass-requires c =
    let w = c.loop-reader.invariant.2 in
    let found = answer-found w.walk c.loop-reader.reader.flags.within {node = c.in-Ok-Some.node} (search rules) c.step-answer.ensures in
    (found.enough, omega (arith, w.walk.high, w.room, found.more), walk-fits w.walk, omega (arith, found.more))

pub loop-reader-smaller : goal.loop-reader-smaller
loop-reader-smaller c =
    let w = c.loop-reader.invariant.2 in
    let found = answer-found w.walk c.loop-reader.reader.flags.within {node = c.in-Ok-Some.node} (search rules) c.step-answer.ensures in
    rw c.pass.ensures.reader (omega (arith, found.stands.after, c.loop-reader-test.true))

pub loop-reader-preserved : goal.loop-reader-preserved
loop-reader-preserved c =
    let w = c.loop-reader.invariant in
    let found = answer-found w.2.walk c.loop-reader.reader.flags.within {node = c.in-Ok-Some.node} (search rules) c.step-answer.ensures in
    rw (c.pass.ensures.reader, c.pass.ensures.starts)
    (w.0, w.1, finding-step w.2 found c.loop-reader-test.true _ (omega (arith, found.enough)))

pub returns-then-place-reader : goal.returns-then-place-reader
returns-then-place-reader c =
    let w = c.loop-reader.invariant in
    rw (← w.0, ← w.1, c.at.ensures) (sym (finding-inside w.2 c.if-place-reader.true))
