-- How much a table of n flags takes in each of its forms; a flag count that no table has takes no entry.
--   entries_of n   == one entry for each setting
--   words_of n     == 64 coefficients to a word, rounded up
--   bytes_of n     == 8 bits to a byte, rounded up
use Rattle.std.specs.Prelude.{true, false, ℕ, ◌^◌, leb}
use Rattle.std.specs.Int.{div_ceil}
use Rattle.rules.specs.Limits.{form_flags}

unfoldable pub entries_of : ℕ → ℕ
entries_of n = elim (leb n form_flags) [ true ↦ 2 ^ n | false ↦ 0 ]

abbrev pub words_of : ℕ → ℕ
words_of n = div_ceil (entries_of n) 64

abbrev pub bytes_of : ℕ → ℕ
bytes_of n = div_ceil (entries_of n) 8
