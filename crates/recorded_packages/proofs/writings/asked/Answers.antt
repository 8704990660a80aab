-- `recorded_packages::writings::asked` meets its contract: the answer is the writer's on paper, and so is the buffer that is left. From the laws of a
-- recorded writing (Writing).
use Rattle.recorded_packages.proofs.Writing.{wrote}
use Rattle.recorded_packages.proofs.writings.asked.Goals as goal

pub returns : goal.returns
returns c =
    let call = c.write_rule.ensures in
    wrote c.args.head.now _ _ _ _ _ c.word_at-flags.ensures c.word_at-table.ensures call.answer call.lent c.from-told.ensures c.expected.ensures
    c.comes_to.ensures
