-- The reason of a refusal by its row, and by its condition. It rests on the definition of `reason`, and on a condition being told from its number
-- (rules, Injective).
--   reason-mark, -payload, -operands, -records, -end, -differs  == rows 6, 7, 8, 9, 10 and 12
--   reason-costly                                               == no other row: 13
--   told-mark, -payload, -operands, -records                    == so of the conditions of rows 6, 7, 8 and 9, with the number of the record
--   told-end, -differs, -costly                                 == so of those of rows 10, 12 and 13
--   told-other                                                  == so of none of those before 13
use mathlib.Core.List.{List, ◌++◌}
use mathlib.Core.Path.{◌≡◌, sym, ap, ◌∙◌}
use Prim.Native.Nat.{ℕ}
use borrow.Author.Tests.{ne_eqb}
use Rattle.rules.specs.Ascii.{ascii}
use Rattle.rules.specs.Calls.{table_form}
use Rattle.rules.specs.Form.{raw_cost}
use Rattle.rules.specs.Refusal.{number}
use Rattle.rules.specs.Text.{decimal}
use Rattle.rules.specs.declared.refusal.Reason.{Reason}
use Rattle.rules.specs.declared.refusal.Reason.TheVariants.{BadMark, BadPayload, FewOperands, ManyRecords, BadEnd, Differs, TooCostly}
use Rattle.rules.proofs.Injective.{number-injective}
use Rattle.examination_text.specs.Notation.{record_of}
use Rattle.examination_text.specs.Verdict.{difference, beyond_limit, above_raw, reason}

module _ (n : ℕ) (table : List ℕ) (ts : List (List ℕ)) (k p : ℕ) where
  pub reason-mark : k ≡ 6 → reason n table ts k p ≡ ascii "unknown mark, at record " ++ decimal (record_of ts p)
  unfolding reason
  reason-mark e = ap (λ (j : ℕ). reason n table ts j p) e

  pub reason-payload : k ≡ 7 → reason n table ts k p ≡ ascii "payload missing or out of range, at record " ++ decimal (record_of ts p)
  unfolding reason
  reason-payload e = ap (λ (j : ℕ). reason n table ts j p) e

  pub reason-operands : k ≡ 8 → reason n table ts k p ≡ ascii "too few operands, at record " ++ decimal (record_of ts p)
  unfolding reason
  reason-operands e = ap (λ (j : ℕ). reason n table ts j p) e

  pub reason-records : k ≡ 9 → reason n table ts k p ≡ beyond_limit (record_of ts p)
  unfolding reason
  reason-records e = ap (λ (j : ℕ). reason n table ts j p) e

  pub reason-end : k ≡ 10 → reason n table ts k p ≡ ascii "no record, or more than one operand left at the end"
  unfolding reason
  reason-end e = ap (λ (j : ℕ). reason n table ts j p) e

  pub reason-differs : k ≡ 12 → reason n table ts k p ≡ difference n p
  unfolding reason
  reason-differs e = ap (λ (j : ℕ). reason n table ts j p) e

  pub reason-costly : (k ≡ 6 → ⊥) → (k ≡ 7 → ⊥) → (k ≡ 8 → ⊥) → (k ≡ 9 → ⊥) → (k ≡ 10 → ⊥) → (k ≡ 12 → ⊥)
      → reason n table ts k p ≡ above_raw (raw_cost (table_form n table)) p
  unfolding reason
  reason-costly a b c d e f = rw (ne_eqb k 6 a, ne_eqb k 7 b, ne_eqb k 8 c, ne_eqb k 9 d, ne_eqb k 10 e, ne_eqb k 12 f, reason)

module _ (n : ℕ) (table : List ℕ) (ts : List (List ℕ)) (r : Reason) (p : ℕ) where
  abbrev told : List ℕ
  told = reason n table ts (number r) p

  pub told-mark : r ≡ BadMark → (i : ℕ) → i ≡ record_of ts p → told ≡ ascii "unknown mark, at record " ++ decimal i
  unfolding reason
  told-mark e i h = ap (λ (q : Reason). reason n table ts (number q) p) e ∙ ap (λ (j : ℕ). ascii "unknown mark, at record " ++ decimal j) (sym h)

  pub told-payload : r ≡ BadPayload → (i : ℕ) → i ≡ record_of ts p → told ≡ ascii "payload missing or out of range, at record " ++ decimal i
  unfolding reason
  told-payload e i h = ap (λ (q : Reason). reason n table ts (number q) p) e
      ∙ ap (λ (j : ℕ). ascii "payload missing or out of range, at record " ++ decimal j) (sym h)

  pub told-operands : r ≡ FewOperands → (i : ℕ) → i ≡ record_of ts p → told ≡ ascii "too few operands, at record " ++ decimal i
  unfolding reason
  told-operands e i h = ap (λ (q : Reason). reason n table ts (number q) p) e
      ∙ ap (λ (j : ℕ). ascii "too few operands, at record " ++ decimal j) (sym h)

  pub told-records : r ≡ ManyRecords → (i : ℕ) → i ≡ record_of ts p → told ≡ beyond_limit i
  unfolding reason
  told-records e i h = ap (λ (q : Reason). reason n table ts (number q) p) e ∙ ap (λ (j : ℕ). beyond_limit j) (sym h)

  pub told-end : r ≡ BadEnd → told ≡ ascii "no record, or more than one operand left at the end"
  unfolding reason
  told-end e = ap (λ (q : Reason). reason n table ts (number q) p) e

  pub told-differs : r ≡ Differs → told ≡ difference n p
  unfolding reason
  told-differs e = ap (λ (q : Reason). reason n table ts (number q) p) e

  pub told-costly : r ≡ TooCostly → told ≡ above_raw (raw_cost (table_form n table)) p
  unfolding reason
  told-costly e = ap (λ (q : Reason). reason n table ts (number q) p) e

  pub told-other : (r ≡ BadMark → ⊥) → (r ≡ BadPayload → ⊥) → (r ≡ FewOperands → ⊥) → (r ≡ ManyRecords → ⊥) → (r ≡ BadEnd → ⊥)
      → (r ≡ Differs → ⊥) → told ≡ above_raw (raw_cost (table_form n table)) p
  unfolding reason
  told-other a b c d e f =
      let other : (q : Reason) → (r ≡ q → ⊥) → number r ≡ number q → ⊥ = λ q h g. h (number-injective r q g) in
      rw (
        ne_eqb (number r) 6 (other BadMark a),
        ne_eqb (number r) 7 (other BadPayload b),
        ne_eqb (number r) 8 (other FewOperands c),
        ne_eqb (number r) 9 (other ManyRecords d),
        ne_eqb (number r) 10 (other BadEnd e),
        ne_eqb (number r) 12 (other Differs f),
        reason,
      )
