-- What the compiler writes for a table has the table's bit at every setting.
-- It rests on the value of the cleaned form (Value) and on the exclusive or over subsets (Mobius).
--   parity-form                      == a form's parity of masks within a setting is the exclusive or over subsets
--   value-form                       == the cleaned form of coefficients c, at a setting
--   compiled-table                   == the compiled tree, at a setting
use mathlib.Core.Bool.{Bool, false, ◌&&◌, and_comm}
use mathlib.Core.List.{List}
use mathlib.Core.Path.{◌≡◌, sym, ◌∙◌}
use Prim.Native.Nat.{ℕ, ◌^◌, ◌<◌}
use Rattle.bits.specs.Bit.{◌⊕◌, within}
use Rattle.bits.specs.Range.{upto}
use Rattle.bits.specs.Sum.{parity}
use Rattle.bits.proofs.Sum.{sum-ext, parity-keep}
use Rattle.rules.specs.Calls.{table_form, compiled}
use Rattle.rules.specs.Cleanup.{cleanup}
use Rattle.rules.specs.Coefficient.{coefficient}
use Rattle.rules.specs.Monomial.{form}
use Rattle.rules.specs.Table.{entry}
use Rattle.rules.specs.Tree.{value}
use Rattle.laws.proofs.form.Covered.{ascending-form}
use Rattle.laws.proofs.transform.Mobius.{coefficient-parity, coefficient-twice}
use Rattle.laws.proofs.value.Value.{value-cleanup}

module _ (n : ℕ) (c : ℕ → Bool) where
  pub parity-form : (s : ℕ) → parity (λ m. within m s) (form n c) ≡ coefficient n c s
  unfolding form
  parity-form s =
      parity-keep (λ m. within m s) c (upto (2 ^ n))
      ∙ sum-ext ◌⊕◌ false (λ m. c m && within m s) (λ m. within m s && c m) (upto (2 ^ n)) (λ m. and_comm (c m) (within m s))
      ∙ sym (coefficient-parity n c s)

  pub value-form : (s : ℕ) → value (cleanup (form n c)) s ≡ coefficient n c s
  value-form s = value-cleanup (form n c) (ascending-form n c) s ∙ parity-form s

pub compiled-table : (n : ℕ) (table : List ℕ) (s : ℕ) → s < 2 ^ n → value (compiled n table) s ≡ entry table s
unfolding compiled table_form
compiled-table n table s h = value-form n (coefficient n (entry table)) s ∙ coefficient-twice n (entry table) s h
