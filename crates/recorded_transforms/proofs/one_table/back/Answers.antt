-- `recorded_transforms::one_table::back` meets its contract: what the call was lent, and compared with, is the table on paper.
use Rattle.std.proofs.Common.{◌*◌, rules}
use Rattle.recorded.specs.Numbers.{bit_at, word_at}
use Rattle.recorded_transforms.proofs.Table.{padded-set, restored-said}
use Rattle.recorded_transforms.proofs.one_table.back.Goals as goal

pub returns : goal.returns
returns c =
    let a = c.args in
    let lent = padded-set (λ i. word_at a.recorded.now (8 * i)) c.words-count.ensures.0 (search rules) (search rules) c.set_pattern.ensures
    c.set_words.ensures in
    let left = padded-set (bit_at a.bits.now) c.entries-settings.ensures.0 (search rules) (search rules) c.set_pattern-3.ensures
    c.set_bits.ensures in
    restored-said _ _ _ _ (search rules) lent c.set_pattern-2.ensures left c.goes_back_to.ensures
