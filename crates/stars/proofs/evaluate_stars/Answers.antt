-- `stars::evaluate_stars` meets its contract: its two tests are the rows 1 and 14, and what the walk answers is the rest. From laws' Checked and
-- from Walked.
use mathlib.Core.Path.{sym, ap, ◌∙◌}
use native.Mathlib.Omega.{arith}
use Rattle.rules.specs.Calls.{evaluate_stars}
use Rattle.laws.proofs.calls.Checked.{stars-short}
use Rattle.reader.proofs.Passed.{passed, passed-first, refused-first}
use Rattle.stars.specs.Answers.{star_evaluation_of}
use Rattle.stars.proofs.Walked.{stars-walked}
use Rattle.stars.proofs.evaluate_stars.Goals as goal

pub returns-in_err-flags : goal.returns-in_err-flags
unfolding evaluate_stars
returns-in_err-flags c = ap star_evaluation_of (passed c.from_residual.ensures.1) ∙ refused-first _ _ _ _ _ c.in_err-flags.ensures

pub returns-then-words-flags : goal.returns-then-words-flags
returns-then-words-flags c =
    let a = c.args in
    let flags = c.in_ok-flags.flags in
    let (few, same) = passed-first _ _ _ _ c.in_ok-flags.ensures in
    rw (c.at.ensures, ← same) (sym (stars-short flags.count a.words.now a.bytes.now flags.within (omega arith)))

pub returns-in_err-walk : goal.returns-in_err-walk
returns-in_err-walk c =
    let a = c.args in
    let flags = c.in_ok-flags.flags in
    let (few, same) = passed-first _ _ _ _ c.in_ok-flags.ensures in
    rw (← same) (ap star_evaluation_of (passed c.from_residual-in_err-walk.ensures.1)
    ∙ stars-walked flags.count a.words.now a.bytes.now flags.within (omega arith) c.in_err-walk.ensures)

pub returns : goal.returns
returns c =
    let a = c.args in
    let flags = c.in_ok-flags.flags in
    let (few, same) = passed-first _ _ _ _ c.in_ok-flags.ensures in
    rw (← same) (stars-walked flags.count a.words.now a.bytes.now flags.within (omega arith) c.in_ok-walk.ensures)
