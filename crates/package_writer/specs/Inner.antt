-- The front of a rule's bytes by itself, for the contracts of inner functions.
--   header n k w     == the bytes before the expression of a rule of n flags, k bytes of expression and the table word w
use Rattle.std.specs.Prelude.{List, [], ◌∷◌, ◌++◌, ℕ}
use Rattle.bits.specs.LowFirst.{low_bytes}
use Rattle.rules.specs.Ascii.{ascii}

unfoldable pub header : ℕ → ℕ → ℕ → List ℕ
header n k w = ascii "RU" ++ (n ∷ []) ++ low_bytes 2 k ++ low_bytes 8 w
