-- Rows of the printing program, computed with the definitions: the printed page, `bad line` for other input, and numbers in base ten. The
-- values are read from document 01's sentences, which the comments quote, and from its marked rules; nothing here came from a program.
use mathlib.Core.Bool.{Bool, true, false, ◌&&◌}
use mathlib.Core.Option.{Option, none, some}
use Prim.Native.Nat.{ℕ}
use Prim.Native.String.{String}
use lib.Dec.{T, eqb}
use Rattle.bits.specs.Range.{same}
use Rattle.rules.specs.Ascii.{ascii}
use Rattle.rules.specs.Text.{decimal, records, flags_of, printed}
use Rattle.rules.specs.Tree.{CO, VA, AN, OR, XO, NO}
use Rattle.rules.proofs.Computing.{computing}

-- the output for an input
unfoldable pub prints : String → String → Bool
unfolding computing
prints output input = same (ascii output) (printed (ascii input))

-- "for `0111` it writes exactly"; "Line one is n; line two the records, each its mark and then its payload as a digit, one space between
-- records; line three the two costs."
pub page-rows :
    T (
    prints "flags 2\nVA0 VA1 OR\ncost 3 raw 7\n" "0111\n"
    && prints "flags 0\nCO1\ncost 1 raw 1\n" "1\n"
    && prints "flags 1\nCO1 VA0 XO\ncost 3 raw 3\n" "10\n"
    && prints "flags 2\nVA0 VA1 NO AN\ncost 4 raw 5\n" "0100\n"
    && prints "flags 3\nCO1 VA0 VA1 OR VA2 OR XO\ncost 6 raw 25\n" "10000000\n"
    )
unfolding computing prints
page-rows = tt

-- "Other input, and any byte after the first newline, prints only `bad line` and a newline."
unfoldable pub is_bad : String → Bool
unfolding prints
is_bad input = prints "bad line\n" input

-- nothing; no digit; three digits; no newline; another digit, a letter or a space among them; something else for the newline; a byte, or a
-- second line, after it
pub bad-lines :
    T (
    is_bad ""
    && is_bad "\n"
    && is_bad "011\n"
    && is_bad "0111"
    && is_bad "01111"
    && is_bad "0121\n"
    && is_bad "01/1\n"
    && is_bad "01a1\n"
    && is_bad "0 11\n"
    && is_bad "0111\t"
    && is_bad "0111\r"
    && is_bad "0111\r\n"
    && is_bad "0111\n\n"
    && is_bad "011\n\n"
    && is_bad "01\n0\n"
    )
unfolding is_bad
bad-lines = tt

-- "a line of 1, 2, 4, .. 64 digits"
unfoldable pub is_flags : ℕ → Option ℕ → Bool
is_flags n none = false
is_flags n (some k) = eqb n k

unfoldable pub is_none : Option ℕ → Bool
is_none none = true
is_none (some k) = false

pub digit-counts :
    T (
    is_flags 0 (flags_of 1)
    && is_flags 1 (flags_of 2)
    && is_flags 2 (flags_of 4)
    && is_flags 6 (flags_of 64)
    && is_none (flags_of 0)
    && is_none (flags_of 3)
    && is_none (flags_of 63)
    && is_none (flags_of 128)
    )
unfolding computing is_flags is_none
digit-counts = tt

-- "each its mark and then its payload as a digit, one space between records"
pub record-texts :
    T (
    same (records (CO true)) (ascii "CO1")
    && same (records (VA 5)) (ascii "VA5")
    && same (records (AN (VA 0) (NO (VA 1)))) (ascii "VA0 VA1 NO AN")
    && same (records (XO (OR (VA 1) (VA 0)) (CO false))) (ascii "VA1 VA0 OR CO0 XO")
    )
unfolding computing
record-texts = tt

-- "Numbers are base ten"
pub decimal-rows :
    T (
    same (decimal 0) (ascii "0")
    && same (decimal 9) (ascii "9")
    && same (decimal 10) (ascii "10")
    && same (decimal 25) (ascii "25")
    && same (decimal 385) (ascii "385")
    && same (decimal 1024) (ascii "1024")
    )
unfolding computing
decimal-rows = tt
