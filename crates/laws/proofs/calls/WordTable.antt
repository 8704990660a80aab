-- The table that a word holds: it is complete, and its bits are the word's. It rests on digits (bits, Bit) and on lists over a
-- range (bits, Tabulated).
--   length-word_table     == it has an entry for every setting
--   entry-word_table      == the entry of a setting is the word's bit there
use mathlib.Core.Path.{◌≡◌, ap, ◌∙◌}
use Prim.Native.Nat.{ℕ, ◌^◌, ◌<◌}
use lib.ListN.{length}
use Rattle.bits.specs.Bit.{bit, digit}
use Rattle.bits.proofs.Bit.{bit-digit}
use Rattle.bits.proofs.Tabulated.{length-map-upto, get_or-map-upto}
use Rattle.rules.specs.Table.{entry, word_table}

pub length-word_table : (n w : ℕ) → length (word_table n w) ≡ 2 ^ n
unfolding word_table
length-word_table n w = length-map-upto (2 ^ n) (λ s. digit (bit w s))

pub entry-word_table : (n w s : ℕ) → s < 2 ^ n → entry (word_table n w) s ≡ bit w s
unfolding word_table
entry-word_table n w s h = ap (λ (x : ℕ). bit x 0) (get_or-map-upto (2 ^ n) (λ t. digit (bit w t)) s h) ∙ bit-digit (bit w s)
