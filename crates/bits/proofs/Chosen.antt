-- The places that a test chooses below k, read back from their number in a wider word. It rests on the laws of words (Word) and of ascending lists
-- (Ascending).
--   places-chosen    == the places of the number whose places a test chose
--   places-mod       == the places of the k low digits
use mathlib.Core.Bool.{Bool}
use mathlib.Core.Path.{◌≡◌, ap, ◌∙◌}
use Prim.Native.Nat.{ℕ, ◌%◌, ◌^◌, ◌≤◌}
use native.Mathlib.Nat.{mod-lt, lt_of_lt_of_le}
use lib.Pow.{pow_pos}
use Rattle.bits.specs.Bit.{bit}
use Rattle.bits.specs.Range.{keep, upto}
use Rattle.bits.specs.Word.{places, word}
use Rattle.bits.proofs.Ascending.{ascending-from, ascending-keep, below-upto, below-keep, below-mem, mem_below}
use Rattle.bits.proofs.Bit.{bit-mod}
use Rattle.bits.proofs.Word.{places-word, word-ext}

pub places-chosen : (f : ℕ → Bool) (k j : ℕ) → k ≤ j → places j (word (keep f (upto k))) ≡ keep f (upto k)
places-chosen f k j h =
    let l = keep f (upto k) in
    places-word j l (ascending-keep f (upto k) (ascending-from 0 k))
    (mem_below j l (λ x m. lt_of_lt_of_le (below-mem k l x (below-keep k f (upto k) (below-upto k)) m) h))

pub places-mod : (w k j : ℕ) → k ≤ j → places j (w % 2 ^ k) ≡ places k w
unfolding places
places-mod w k j h =
    ap (places j) (word-ext k (w % 2 ^ k) (bit w) (mod-lt w (pow_pos k)) (λ i l. bit-mod w k i l)) ∙ places-chosen (bit w) k j h
