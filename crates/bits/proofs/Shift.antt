-- Shifts as a machine of w bits makes them: what leaves the word is lost. They rest on the laws of bits of proofs/Bit.
--   one_shl                    == a one shifted to place k
--   bit-shl-in, bit-shl-in-low == the bits of a word shifted to the left, from the shift on and below it
use mathlib.Core.Bool.{false}
use mathlib.Core.Path.{◌≡◌, ◌∙◌}
use Prim.Native.Nat.{ℕ, ◌-◌, ◌*◌, ◌%◌, ◌^◌, ◌≤◌, ◌<◌}
use native.Mathlib.Nat.{one-mul}
use native.Mathlib.Omega.{arith}
use lib.Dec.{lit<}
use lib.Pow.{shl_exact}
use Rattle.bits.specs.Bit.{bit}
use Rattle.bits.proofs.Bit.{bit-mod, bit-shl, bit-shl-low}

pub one_shl : (w k : ℕ) → k < w → 1 * 2 ^ k % 2 ^ w ≡ 2 ^ k
one_shl w k h = shl_exact 1 k w (lit< tt) (omega arith) ∙ one-mul (2 ^ k)

pub bit-shl-in : (w v k i : ℕ) → i < w → k ≤ i → bit (v * 2 ^ k % 2 ^ w) i ≡ bit v (i - k)
bit-shl-in w v k i h l = bit-mod (v * 2 ^ k) w i h ∙ bit-shl v k i l

pub bit-shl-in-low : (w v k i : ℕ) → i < w → i < k → bit (v * 2 ^ k % 2 ^ w) i ≡ false
bit-shl-in-low w v k i h l = bit-mod (v * 2 ^ k) w i h ∙ bit-shl-low v k i l
