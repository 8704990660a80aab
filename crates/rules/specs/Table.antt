-- Rule tables: settings, entries and the bit that counts.
--   settings n       == all settings of n flags, ascending
--   entry t s        == the table's bit at setting s
--   complete n t     == the table has an entry for every setting
--   word_table n w    == the table of n flags that a word holds
use Rattle.std.specs.Prelude.{Bool, List, map, ℕ, ◌^◌, leb, length, get_or}
use Rattle.bits.specs.Bit.{bit, digit}
use Rattle.bits.specs.Range.{upto}

-- "A setting is a number below 2^n whose bit i is flag i."
abbrev pub settings : ℕ → List ℕ
settings n = upto (2 ^ n)

-- "A table is a list of 64-bit entries; only bit 0 of the first 2^n counts, the rest is ignored"
abbrev pub entry : List ℕ → ℕ → Bool
entry t s = bit (get_or t s 0) 0

-- "it is complete if it has at least 2^n entries"
abbrev pub complete : ℕ → List ℕ → Bool
complete n t = leb (2 ^ n) (length t)

-- request 4, of the bytes of a table word: "bit s for setting s"
unfoldable pub word_table : ℕ → ℕ → List ℕ
word_table n w = map (λ s. digit (bit w s)) (settings n)
