-- `recorded_transforms::one_table::there` meets its contract: what the call was lent, and compared with, is the table on paper.
use Rattle.std.proofs.Common.{◌*◌, rules}
use Rattle.recorded.specs.Numbers.{word_at}
use Rattle.recorded_transforms.proofs.Table.{padded-set, transformed-said}
use Rattle.recorded_transforms.proofs.one_table.there.Goals as goal

pub returns : goal.returns
returns c =
    let a = c.args in
    let left = padded-set (λ i. word_at a.recorded.now (8 * i)) c.words-count.ensures.0 (search rules) (search rules) c.set_pattern-2.ensures
    c.set_words.ensures in
    transformed-said _ _ _ _ (search rules) (search rules) c.set_table.ensures c.set_pattern.ensures left c.transforms_to.ensures
