-- `examiner::examine_word` meets its contract: the table of a word has the bits of the entries that it stands for (Examined).
use mathlib.Core.Path.{◌∙◌}
use Rattle.examiner.proofs.Examined.{examine-word}
use Rattle.examiner.proofs.examine_word.Goals as goal

pub returns : goal.returns
returns c =
    let a = c.args in
    c.examine_table.ensures ∙ examine-word a.flags.count a.flags.within a.word a.bytes.now
