-- Examination against a truth function. Document 01's examination is the instance of a table's bits, once rows 1 and 2 are passed.
--   examine_truth n f s   == what the examiner answers on the bytes s against the truth function f of n flags
use Rattle.std.specs.Prelude.{Bool, List, ℕ}
use Rattle.bits.specs.Bit.{◌⊕◌}
use Rattle.bits.specs.Range.{keep}
use Rattle.rules.specs.Calls.{judged}
use Rattle.rules.specs.Coefficient.{coefficient}
use Rattle.rules.specs.Form.{raw_cost}
use Rattle.rules.specs.Machine.{made}
use Rattle.rules.specs.Monomial.{form}
use Rattle.rules.specs.Outcome.{Outcome, ◌then◌}
use Rattle.rules.specs.Table.{settings}
use Rattle.rules.specs.Tree.{value}

unfoldable pub examine_truth : ℕ → (ℕ → Bool) → List ℕ → Outcome ℕ
examine_truth n f s = made n s then (λ t. judged (raw_cost (form n (coefficient n f))) t (keep (λ at. value t at ⊕ f at) (settings n)))
