-- The digits of a table, as document 01 prints and reads them.
--   is_digit b            == the byte is a digit 0 or 1
--   values l             == the entries that the digits l stand for
--   size_of s             == the flag count of a line, or none
use Rattle.std.specs.Prelude.{Bool, ◌||◌, List, map, ℕ, ◌-◌, eqb, Option as Optional, Some, None}
use Rattle.std.proofs.Math.Option.{Option, none, some}
use Rattle.rules.specs.declared.flags.Flags.{Flags}

-- "digits 0 or 1"
abbrev pub is_digit : ℕ → Bool
is_digit b = eqb b 48 || eqb b 49

-- "Digit i of the input is setting i."
abbrev pub values : List ℕ → List ℕ
values l = map (λ b. b - 48) l

abbrev pub size_of : Optional (Flags 6) → Option ℕ
size_of (Some f) = some f.count
size_of None = none
