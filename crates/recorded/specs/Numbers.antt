-- Bits and numbers in a list of bytes, which reads as 0 past its end.
--   bit_at l i                               == bit i mod 8 of byte i div 8
--   pair_at l at, half_at l at, word_at l at   == the number in the two, four, eight bytes from place at on, the low byte first
--   words_in k l                             == the first k words of eight bytes
use Rattle.std.specs.Prelude.{List, map, ℕ, ◌+◌, ◌*◌, ◌/◌, ◌%◌, ◌^◌, get_or}
use Rattle.bits.specs.Range.{upto}

abbrev pub bit_at : List ℕ → ℕ → ℕ
bit_at l i = get_or l (i / 8) 0 / 2 ^ (i % 8) % 2

abbrev pub pair_at : List ℕ → ℕ → ℕ
pair_at l at = get_or l at 0 + 256 * get_or l (at + 1) 0

abbrev pub half_at : List ℕ → ℕ → ℕ
half_at l at = pair_at l at + 2 ^ 16 * pair_at l (at + 2)

abbrev pub word_at : List ℕ → ℕ → ℕ
word_at l at = half_at l at + 2 ^ 32 * half_at l (at + 4)

abbrev pub words_in : ℕ → List ℕ → List ℕ
words_in k l = map (λ i. word_at l (8 * i)) (upto k)
