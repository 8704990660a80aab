-- `recorded::slices::set_bits` meets its contract: each entry is the one of its place.
use Rattle.std.proofs.Common.{rules}
use Rattle.bits.proofs.Tabulated.{map-upto-of}
use Rattle.recorded.specs.Numbers.{bit_at}
use Rattle.recorded.proofs.slices.set_bits.Goals as goal

pub returns : goal.returns
returns c =
    let each = c.set_each.ensures in
    map-upto-of _ (bit_at c.args.bytes.now) _ each.len (λ i h. let entry = each.entries i 0 h in search rules)
