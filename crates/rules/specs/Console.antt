-- The console's calls on paper: a table is bytes there, and each call is two, one for the number and one for the result or the place.
--   entries b        == the 64-bit entries of a table of bytes
--   number o         == 0 for a result, else the refusal's number
--   result o         == the result, else the refusal's place
use Rattle.std.specs.Prelude.{List, map, ℕ, ◌+◌, ◌*◌, ◌/◌, ◌^◌, length, get_or}
use Rattle.bits.specs.Range.{upto}
use Rattle.bits.specs.Sum.{total}
use Rattle.rules.specs.Outcome.{Outcome, gives, refuses}

-- "eight bytes per entry, low byte first, and a cut last entry doesn't count"
unfoldable pub entry_at : List ℕ → ℕ → ℕ
entry_at b i = total (λ j. get_or b (8 * i + j) 0 * 256 ^ j) (upto 8)

unfoldable pub entries : List ℕ → List ℕ
entries b = map (entry_at b) (upto (length b / 8))

-- "one returns the number, 0 for none, the other the result or the place"
abbrev pub number : {A : Type 0} → Outcome A → ℕ
number (gives a) = 0
number (refuses k p) = k

abbrev pub result : Outcome ℕ → ℕ
result (gives a) = a
result (refuses k p) = p
