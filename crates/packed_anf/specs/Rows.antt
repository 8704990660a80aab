-- What is lent, on paper, past the rows that several calls share: a number of flags with the entries of a table, or with the words that it needs.
--   enough_entries limit n k         == past rows 1 and 2, for a table of k entries, the number of flags
--   lent_table limit n t             == past rows 1 and 2
--   lent_coefficients limit n ws     == past rows 1, 3 and 4
use Rattle.std.specs.Prelude.{List, ℕ, ◌^◌, leb, ltb, not, take}
use Rattle.rules.specs.Calls.{with_table, with_coefficients}
use Rattle.rules.specs.Coefficient.{word_count}
use Rattle.rules.specs.Limits.{too_many_flags, short_table}
use Rattle.rules.specs.Outcome.{Outcome, gives, refuse}

abbrev pub enough_entries : ℕ → ℕ → ℕ → Outcome ℕ
enough_entries limit n k = refuse (ltb limit n) too_many_flags 0 (refuse (not (leb (2 ^ n) k)) short_table 0 (gives n))

abbrev pub lent_table : ℕ → ℕ → List ℕ → Outcome (ℕ × List ℕ)
lent_table limit n t = with_table limit n t (gives (n, t))

abbrev pub lent_coefficients : ℕ → ℕ → List ℕ → Outcome (ℕ × List ℕ)
lent_coefficients limit n ws = with_coefficients limit n ws (gives (n, take (word_count n) ws))
