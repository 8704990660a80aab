-- What the printing program writes for what it reads, as bytes.
--   decimal k        == the number k in base ten
--   flags_of d        == the flag count of a line of d digits, or none where d is no power of two up to 64
--   printed s        == the whole output for the whole input s
use Rattle.std.specs.Prelude.{Bool, true, false, ◌&&◌, ◌||◌, List, [], ◌∷◌, ◌++◌, map, ℕ, ◌+◌, ◌-◌, ◌/◌, ◌%◌, ◌^◌, ltb, eqb, length, get_or, take}
use Rattle.std.proofs.Math.Option.{Option, none, some}
use Rattle.bits.specs.Bit.{digit}
use Rattle.bits.specs.Fixed.{fixed}
use Rattle.bits.specs.Range.{upto, keep, all}
use Rattle.rules.specs.Ascii.{ascii}
use Rattle.rules.specs.Calls.{compiled, table_form}
use Rattle.rules.specs.Form.{raw_cost}
use Rattle.rules.specs.Limits.{rule_flags}
use Rattle.rules.specs.Tree.{Tree, CO, VA, AN, OR, XO, NO, cost}

-- the last digit, after the digits of the rest
unfoldable pub decimal_turn : (ℕ → List ℕ) → ℕ → List ℕ
decimal_turn g k = elim (ltb k 10) [ true ↦ (48 + k) ∷ [] | false ↦ g (k / 10) ++ ((48 + k % 10) ∷ []) ]

unfoldable pub decimal : ℕ → List ℕ
decimal = fixed (λ k. k) [] decimal_turn

-- "line two the records, each its mark and then its payload as a digit, one space between records"
unfoldable pub records : Tree → List ℕ
records (CO b) = ascii "CO" ++ (48 + digit b) ∷ []
records (VA i) = ascii "VA" ++ (48 + i) ∷ []
records (AN x y) = records x ++ ascii " " ++ records y ++ ascii " AN"
records (OR x y) = records x ++ ascii " " ++ records y ++ ascii " OR"
records (XO x y) = records x ++ ascii " " ++ records y ++ ascii " XO"
records (NO x) = records x ++ ascii " NO"

-- "Line one is n; line two the records ..; line three the two costs."
unfoldable pub report : ℕ → List ℕ → List ℕ
report n table =
    ascii "flags " ++ decimal n ++ ascii "\n" ++ records (compiled n table) ++ ascii "\ncost " ++ decimal (cost (compiled n table))
    ++ ascii " raw " ++ decimal (raw_cost (table_form n table)) ++ ascii "\n"

-- "1, 2, 4, .. 64 digits"
unfoldable pub first_of : List ℕ → Option ℕ
first_of [] = none
first_of (n ∷ l) = some n

unfoldable pub flags_of : ℕ → Option ℕ
flags_of d = first_of (keep (λ n. eqb d (2 ^ n)) (upto (rule_flags + 1)))

-- "a line of .. digits 0 or 1 and a newline": all bytes but the last are digits, and the last is the newline
unfoldable pub is_line : List ℕ → Bool
is_line s = all (λ b. eqb b 48 || eqb b 49) (take (length s - 1) s) && eqb (get_or s (length s - 1) 0) 10

-- "Digit i of the input is setting i." "Other input, and any byte after the first newline, prints only `bad line` and a newline."
unfoldable pub printed_as : List ℕ → Option ℕ → List ℕ
printed_as s none = ascii "bad line\n"
printed_as s (some n) = elim (is_line s) [ true ↦ report n (map (λ b. b - 48) (take (length s - 1) s)) | false ↦ ascii "bad line\n" ]

unfoldable pub printed : List ℕ → List ℕ
printed s = printed_as s (flags_of (length s - 1))
