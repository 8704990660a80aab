-- The verdict in words is short where the numbers in it are words. It rests on the lengths of numbers (text, Decimal) and of the flags' names
-- (Flags), and on the raw cost of a table of up to six flags (laws, Fits).
--   accepted-short, refused-short    == an accepted rule, and a refused one
use mathlib.Core.Bool.{Bool, true, false}
use mathlib.Core.List.{List, [], ◌∷◌}
use Prim.Native.Nat.{ℕ, suc, ◌-◌, ◌*◌, ◌^◌, ◌≤◌, ◌<◌}
use native.Mathlib.Omega.{arith}
use lib.Dec.{eqb, ltb}
use lib.ListN.{length, length-append}
use Rattle.bits.specs.Word.{places}
use Rattle.laws.proofs.cost.Fits.{raw-compiled}
use Rattle.rules.specs.Ascii.{ascii}
use Rattle.rules.specs.Calls.{table_form}
use Rattle.rules.specs.Form.{raw_cost}
use Rattle.rules.specs.Limits.{rule_flags, record_limit}
use Rattle.rules.specs.Outcome.{gives, refuses}
use Rattle.rules.specs.Text.{decimal}
use Rattle.text.proofs.Decimal.{length-decimal}
use Rattle.examination_text.specs.Notation.{record_bytes, record_of}
use Rattle.examination_text.specs.Verdict.{named, flag_names, difference, above_raw, beyond_limit, reason, verdict_text}
use Rattle.examination_text.proofs.Flags.{length-named}

-- a number of 64 bits has at most twenty digits
digits : (k : ℕ) → k < 2 ^ 64 → length (decimal k) ≤ 20
digits k h = length-decimal 19 k (omega arith)

record-of-le : (ts : List (List ℕ)) (p : ℕ) → record_of ts p ≤ length ts
unfolding record_of
record-of-le [] p = omega arith
record-of-le (t ∷ ts) p = go (ltb p (length (record_bytes t))) (record-of-le ts (p - length (record_bytes t)))
  where
    go : (b : Bool) → record_of ts (p - length (record_bytes t)) ≤ length ts
        → elim b [ true ↦ 1 | false ↦ suc (record_of ts (p - length (record_bytes t))) ] ≤ suc (length ts)
    go true h = omega arith
    go false h = omega (arith, h)

either : (b : Bool) (s t : List ℕ) (k : ℕ) → length s ≤ k → length t ≤ k → length {A = ℕ} (elim b [ true ↦ s | false ↦ t ]) ≤ k
either true s t k h g = h
either false s t k h g = g

length-names : (n w : ℕ) → n ≤ rule_flags → length (flag_names (places n w)) ≤ 12
unfolding flag_names ascii
length-names n w h = go (places n w) (length-named n w (omega arith))
  where
    go : (l : List ℕ) → length (named l) ≤ 2 * n → length (flag_names l) ≤ 12
    go [] g = omega arith
    go (i ∷ l) g = omega arith

module _ (n : ℕ) (table : List ℕ) (ts : List (List ℕ)) where
  pub accepted-short : (c : ℕ) → c < 2 ^ 64 → length (verdict_text n table ts (gives c)) ≤ 200
  unfolding verdict_text ascii
  accepted-short c h = omega (arith, digits c h)

  module _ (flags : n ≤ rule_flags) (few : length ts < 2 ^ 64) (k p : ℕ) (place : p < 2 ^ 64) where
    numbered : length (decimal (record_of ts p)) ≤ 20
    numbered = digits (record_of ts p) (omega (arith, record-of-le ts p))

    differing : length (difference n p) ≤ 120
    unfolding difference ascii
    differing = simp length-append (omega (arith, digits p place, length-names n p flags))

    costly : length (above_raw (raw_cost (table_form n table)) p) ≤ 120
    unfolding above_raw ascii
    costly = simp length-append (omega (arith, digits p place, digits (raw_cost (table_form n table)) (omega (arith, raw-compiled n table flags))))

    beyond : length (beyond_limit (record_of ts p)) ≤ 120
    unfolding beyond_limit ascii
    beyond = simp length-append (omega (arith, digits record_limit (omega arith), numbered))

    reason-short : length (reason n table ts k p) ≤ 120
    unfolding reason ascii
    reason-short =
        either (eqb k 6) _ _ 120 (omega (arith, numbered))
        (either (eqb k 7) _ _ 120 (omega (arith, numbered)) (either (eqb k 8) _ _ 120 (omega (arith, numbered))
        (either (eqb k 9) _ _ 120 beyond (either (eqb k 10) _ _ 120 (omega arith) (either (eqb k 12) _ _ 120 differing costly)))))

    pub refused-short : k < 2 ^ 64 → length (verdict_text n table ts (refuses k p)) ≤ 200
    unfolding verdict_text ascii
    refused-short h = simp length-append (omega (arith, digits k h, reason-short))
