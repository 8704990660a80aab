-- `examiner::examine_table` meets its contract: the walk's answer with the six words of the flags, and the verdict on it, are the examination
-- (Examined).
use mathlib.Core.Path.{ap, ◌∙◌}
use Rattle.reader.proofs.Passed.{passed}
use Rattle.table.specs.Truth.{truth}
use Rattle.examiner.specs.Answers.{examination_of}
use Rattle.examiner.proofs.Examined.{examine-walked}
use Rattle.examiner.proofs.examine_table.Goals as goal

pub returns-in_err-walk : goal.returns-in_err-walk
returns-in_err-walk c =
    let t = c.args.table in
    ap examination_of (passed c.from_residual.ensures.1)
    ∙ examine-walked t.flags.count t.flags.within c.flag_words-words.ensures (truth t) c.args.bytes.now c.in_err-walk.ensures

pub returns : goal.returns
returns c =
    let t = c.args.table in
    c.judge.ensures ∙ examine-walked t.flags.count t.flags.within c.flag_words-words.ensures (truth t) c.args.bytes.now c.in_ok-walk.ensures
