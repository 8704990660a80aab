-- The count of what was compared. The numbers are those of 64 bits, so that a sum wraps.
--   empty            == nothing was compared
--   next k           == one more
--   first_of k f     == the number of the first difference, where number k differs and f was it before
--   one_more t same  == t after one more comparison, which found the two the same or not
use Rattle.std.specs.Prelude.{ℕ, ◌+◌, ◌%◌, ◌^◌, Bool, true, false, Option, Some, None}
use Rattle.comparison.specs.declared.tally.Tally.{Tally}

abbrev pub empty : Tally
empty = record { compared = 0; differences = 0; first = None }

abbrev pub next : ℕ → ℕ
next k = (k + 1) % 2 ^ 64

abbrev pub first_of : ℕ → Option ℕ → Option ℕ
first_of k None = Some k
first_of k (Some f) = Some f

abbrev pub one_more : Tally → Bool → Tally
one_more t true = record { compared = next t.compared; differences = t.differences; first = t.first }
one_more t false = record { compared = next t.compared; differences = next t.differences; first = first_of (next t.compared) t.first }
