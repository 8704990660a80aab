-- `recorded::slices::set_words` meets its contract: each entry is the one of its place.
use Rattle.std.proofs.Common.{◌*◌, rules}
use Rattle.bits.proofs.Tabulated.{map-upto-of}
use Rattle.recorded.specs.Numbers.{word_at}
use Rattle.recorded.proofs.slices.set_words.Goals as goal

pub returns : goal.returns
returns c =
    let each = c.set_each.ensures in
    map-upto-of _ (λ j. word_at c.args.bytes.now (8 * j)) _ each.len (λ i h. let entry = each.entries i 0 h in search rules)
