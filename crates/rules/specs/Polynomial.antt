-- The Zhegalkin polynomial, as the public mathematics has it: the exclusive or, over the monomials whose coefficient is 1, of the product of
-- their flags. Document 01's coefficients are proved to be the ones, and the only ones, with which it is the table (`laws`, RoundTrip).
--   product n m x        == the product of the flags of mask m, where x i is the value of flag i
--   polynomial n c x     == the polynomial with coefficients c at the flags' values x
use Rattle.std.specs.Prelude.{Bool, ℕ, ◌^◌}
use Rattle.bits.specs.Range.{upto, keep, all}
use Rattle.bits.specs.Sum.{parity}
use Rattle.bits.specs.Word.{places}

unfoldable pub product : ℕ → ℕ → (ℕ → Bool) → Bool
product n m x = all x (places n m)

unfoldable pub polynomial : ℕ → (ℕ → Bool) → (ℕ → Bool) → Bool
polynomial n c x = parity (λ m. product n m x) (keep c (upto (2 ^ n)))
