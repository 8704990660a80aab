-- How the verdict is found, for the contracts of inner functions.
--   verdict raw c d      == document 01's `judged`, by the cost c alone: d is the first setting that differs, raw is the raw form's cost
--   judgment n f v       == the verdict on an expression of which the walk saw v, against the truth function f of n flags
use Rattle.std.specs.Prelude.{Bool, ℕ, ltb}
use Rattle.std.proofs.Math.Option.{Option, none, some}
use Rattle.bits.specs.Bit.{◌⊕◌, bit}
use Rattle.bits.specs.Range.{keep}
use Rattle.rules.specs.Coefficient.{coefficient}
use Rattle.rules.specs.Form.{raw_cost}
use Rattle.rules.specs.Limits.{differs, too_costly}
use Rattle.rules.specs.Monomial.{form}
use Rattle.rules.specs.Outcome.{Outcome, gives, refuses, refuse}
use Rattle.rules.specs.Table.{settings}
use Rattle.walk.specs.declared.Seen.{Seen}
use Rattle.table.specs.Truth.{first}

-- "differs from the table" at the "smallest such setting"; "cost above raw cost", place "the cost"
unfoldable pub verdict : ℕ → ℕ → Option ℕ → Outcome ℕ
verdict raw c (some s) = refuses differs s
verdict raw c none = refuse (ltb raw c) too_costly c (gives c)

unfoldable pub judgment : ℕ → (ℕ → Bool) → Seen ℕ → Outcome ℕ
judgment n f v = verdict (raw_cost (form n (coefficient n f))) v.cost (first (keep (λ at. bit v.value at ⊕ f at) (settings n)))
