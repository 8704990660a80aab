-- Numbers in bytes, low byte first.
--   low_first l       == the number that the bytes l hold
--   low_bytes k w     == the number w in k bytes
use Rattle.std.specs.Prelude.{List, [], ◌∷◌, ℕ, zero, suc, ◌+◌, ◌*◌, ◌/◌, ◌%◌}

unfoldable pub low_first : List ℕ → ℕ
low_first [] = 0
low_first (b ∷ l) = b + 256 * low_first l

unfoldable pub low_bytes : ℕ → ℕ → List ℕ
low_bytes zero w = []
low_bytes (suc k) w = w % 256 ∷ low_bytes k (w / 256)
