-- A table of the code as a truth function of settings.
--   truth t          == the bit of the table t at a setting
--   table_of n f      == the table of the values of the truth function f at the settings of n flags
--   first l          == the first of l, or none
--   difference_of d   == the setting of the answer d, or none
use Rattle.std.specs.Prelude.{Bool, List, [], ◌∷◌, ℕ, Some, None}
use Rattle.std.specs.Prelude as code
use Rattle.std.proofs.Math.Option.{Option, none, some}
use Rattle.bits.specs.Bit.{bit}
use Rattle.bits.specs.Range.{keep}
use Rattle.bits.specs.Word.{word}
use Rattle.rules.specs.Table.{settings}
use Rattle.rules.specs.declared.flags.Flags.{Flags}
use Rattle.table.specs.declared.Table.{Table}

abbrev pub truth : Table → ℕ → Bool
truth t = bit t.bits

abbrev pub table_of : Flags 6 → (ℕ → Bool) → Table
table_of n f = record { flags = n; bits = word (keep f (settings n.count)) }

abbrev pub first : List ℕ → Option ℕ
first [] = none
first (x ∷ l) = some x

abbrev pub difference_of : code.Option ℕ → Option ℕ
difference_of (Some s) = some s
difference_of None = none
