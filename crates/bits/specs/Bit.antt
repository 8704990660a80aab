-- Bits of a number as truth values, and masks as sets of bits.
--   a ⊕ b        == exclusive or of two truth values
--   digit b      == the truth value b as a number, 0 or 1
--   bit w i      == bit i of the number w
--   within s m   == every set bit of s is set in m
use Rattle.std.specs.Prelude.{Bool, true, false, not, ℕ, ◌/◌, ◌%◌, ◌^◌, eqb}
use Rattle.std.specs.Int.Bits.{bit_and}

infixl 32 ◌⊕◌
-- The library's `xor` does not compute where only one side is known.
abbrev pub ◌⊕◌ : Bool → Bool → Bool
true ⊕ b = not b
false ⊕ b = b

abbrev pub digit : Bool → ℕ
digit true = 1
digit false = 0

unfoldable pub bit : ℕ → ℕ → Bool
bit w i = eqb (w / 2 ^ i % 2) 1

unfoldable pub within : ℕ → ℕ → Bool
within s m = eqb (bit_and s m) s
