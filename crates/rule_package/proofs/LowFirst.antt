-- The library's numbers in bytes are those of `bits`, low byte first.
--   from-low_first-2, from-low_first-8      == the number that two or eight bytes hold
--   to-low_bytes-8                          == a number in eight bytes
use Rattle.std.specs.Prelude.{◌≡◌, ℕ, List, [], ◌∷◌}
use Rattle.std.specs.Int.{w16, w64, from_le_bytes, to_le_bytes}
use Rattle.std.proofs.Math.Nat.{div-div-eq-div-mul}
use native.Mathlib.Omega.{arith}
use Rattle.bits.specs.LowFirst.{low_first, low_bytes}

pub from-low_first-2 : (a b : ℕ) → from_le_bytes w16 (a ∷ b ∷ []) ≡ low_first (a ∷ b ∷ [])
unfolding low_first
from-low_first-2 a b = omega arith

pub from-low_first-8 : (a b c d e f g h : ℕ) → (let l : List ℕ = a ∷ b ∷ c ∷ d ∷ e ∷ f ∷ g ∷ h ∷ [] in from_le_bytes w64 l ≡ low_first l)
unfolding low_first
from-low_first-8 a b c d e f g h = omega arith

pub to-low_bytes-8 : (n : ℕ) → to_le_bytes w64 n ≡ low_bytes 8 n
unfolding low_bytes
to-low_bytes-8 n = simp div-div-eq-div-mul
