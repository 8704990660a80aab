-- A number as the set of its bits' places, and back. A coefficient word is such a set of masks, and a mask is such a set of flags.
--   places k w   == the places below k at which w has a 1, ascending
--   word l       == the number that has its ones at the places in l
use Rattle.std.specs.Prelude.{List, ℕ, ◌^◌}
use Rattle.bits.specs.Bit.{bit}
use Rattle.bits.specs.Range.{keep, upto}
use Rattle.bits.specs.Sum.{total}

unfoldable pub places : ℕ → ℕ → List ℕ
places k w = keep (bit w) (upto k)

unfoldable pub word : List ℕ → ℕ
word l = total (λ i. 2 ^ i) l
