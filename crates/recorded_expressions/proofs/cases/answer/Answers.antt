-- `recorded_expressions::cases::answer` meets its contract: each arm is the call of its number, with the arguments of the head.
use mathlib.Core.Path.{◌∙◌}
use native.Mathlib.Omega.{arith}
use Rattle.recorded_expressions.specs.Cases.{answers}
use Rattle.recorded_expressions.proofs.Asked.{asked-short, asked, asked-other}
use Rattle.recorded_expressions.proofs.cases.answer.Goals as goal

pub returns-then-head-lt38 : goal.returns-then-head-lt38
returns-then-head-lt38 c = asked-short _ _ _ c.if-head-lt38.true

pub returns-in-1 : goal.returns-in-1
unfolding answers
returns-in-1 c =
    asked _ _ _ c.if-head-lt38.false 1 c.in-1.is
    (c.evaluation.ensures ∙ rw (c.word_at-flags.ensures, c.word_at-setting.ensures))

pub returns-in-2 : goal.returns-in-2
unfolding answers
returns-in-2 c =
    asked _ _ _ c.if-head-lt38.false 2 c.in-2.is
    (c.costing.ensures ∙ rw c.word_at-flags.ensures)

pub returns-in-3 : goal.returns-in-3
unfolding answers
returns-in-3 c =
    asked _ _ _ c.if-head-lt38.false 3 c.in-3.is
    (c.examination.ensures ∙ rw (c.word_at-flags.ensures, c.pair_at-entries.ensures))

pub returns-in-4 : goal.returns-in-4
unfolding answers
returns-in-4 c =
    asked _ _ _ c.if-head-lt38.false 4 c.in-4.is
    (c.raw_costing.ensures ∙ rw (c.word_at-flags.ensures, c.pair_at-entries.ensures))

pub returns-in-5 : goal.returns-in-5
unfolding answers
returns-in-5 c =
    asked _ _ _ c.if-head-lt38.false 5 c.in-5.is
    (c.choice.ensures ∙ rw c.word_at-flags.ensures)

pub returns-in_default : goal.returns-in_default
returns-in_default c = asked-other _ _ _ c.if-head-lt38.false (λ p. omega arith)
