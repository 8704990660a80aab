-- `evaluation::evaluate` meets its contract: its two tests are the rows 1 and 11, and `walk` answers the rest.
use mathlib.Core.Path.{ap, ◌∙◌}
use Prim.Native.Nat.{◌^◌, ◌≤◌, ◌<◌}
use native.Mathlib.Omega.{arith}
use borrow.Author.Tests.{le-leb, lt-leb}
use Rattle.bits.proofs.Shift.{one_shl}
use Rattle.rules.specs.Calls.{evaluate}
use Rattle.rules.specs.Outcome.{gives}
use Rattle.reader.proofs.Passed.{passed, passed-first, refused-first}
use Rattle.evaluation.specs.Answers.{evaluation_of}
use Rattle.evaluation.proofs.Evaluated.{evaluated-walked}
use Rattle.evaluation.proofs.evaluate.Goals as goal

pub returns-in_err-flags : goal.returns-in_err-flags
unfolding evaluate
returns-in_err-flags c = ap evaluation_of (passed c.from_residual.ensures.1) ∙ refused-first _ _ _ _ _ c.in_err-flags.ensures

pub returns-then-flags-setting : goal.returns-then-flags-setting
unfolding evaluate
returns-then-flags-setting c =
    let a = c.args in
    let (few, same) = passed-first _ _ _ _ c.in_ok-flags.ensures in
    let flags = c.in_ok-flags.flags in
    let h : 2 ^ flags.count ≤ a.setting = omega (arith, one_shl 64 flags.count (omega (arith, flags.within))) in
    rw (c.at.ensures, few, ← same, le-leb _ _ h)

pub returns-in_err-seen : goal.returns-in_err-seen
unfolding evaluate
returns-in_err-seen c =
    let a = c.args in
    let (few, same) = passed-first _ _ _ _ c.in_ok-flags.ensures in
    let flags = c.in_ok-flags.flags in
    let below : a.setting < 2 ^ flags.count = omega (arith, one_shl 64 flags.count (omega (arith, flags.within))) in
    rw (few, ← same, lt-leb _ _ below)
    (ap evaluation_of (passed c.from_residual-in_err-seen.ensures.1) ∙ evaluated-walked flags.count a.setting a.bytes.now c.in_err-seen.ensures)

pub returns : goal.returns
unfolding evaluate
returns c =
    let a = c.args in
    let (few, same) = passed-first _ _ _ _ c.in_ok-flags.ensures in
    let flags = c.in_ok-flags.flags in
    let below : a.setting < 2 ^ flags.count = omega (arith, one_shl 64 flags.count (omega (arith, flags.within))) in
    rw (few, ← same, lt-leb _ _ below)
    (ap gives c.from.ensures ∙ evaluated-walked flags.count a.setting a.bytes.now c.in_ok-seen.ensures)
