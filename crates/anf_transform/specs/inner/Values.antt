-- The values that the way back writes.
--   values n ws       == the values at all settings, 0 or 1, of the polynomial with the coefficients in the words ws
use Rattle.std.specs.Prelude.{List, map, ℕ}
use Rattle.bits.specs.Bit.{digit}
use Rattle.rules.specs.Coefficient.{coefficient, packed}
use Rattle.rules.specs.Table.{settings}

abbrev pub values : ℕ → List ℕ → List ℕ
values n ws = map (λ s. digit (coefficient n (packed ws) s)) (settings n)
