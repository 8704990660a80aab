-- `anf_transform::compute_anf` meets its contract: each `return` is a row of the refusal table, or the end with no row left, where the words stand at
-- the front of the buffer (Filled).
use Rattle.std.proofs.Common.{◌≡◌, ◌++◌, ◌∙◌, List, ℕ, arith, length, drop, sym, ap, ap₂}
use Rattle.bits.proofs.Stores.{sets-front}
use Rattle.rules.specs.Calls.{transform, fill}
use Rattle.rules.specs.Coefficient.{coefficient, word_count, words}
use Rattle.rules.specs.Limits.{form_flags}
use Rattle.rules.specs.Outcome.{gives}
use Rattle.rules.specs.Table.{entry}
use Rattle.laws.proofs.calls.Outcome.{left-refuses}
use Rattle.laws.proofs.transform.Packed.{length-words}
use Rattle.packed_anf.specs.Rows.{lent_table}
use Rattle.packed_anf.proofs.Rows.{exit, past_table, given-table}
use Rattle.anf_transform.proofs.Filled.{told-short, told-filled}
use Rattle.anf_transform.proofs.compute_anf.Goals as goal

-- what is due
due : ℕ × List ℕ → List ℕ
due p = words p.0 (coefficient p.0 (entry p.1))

module _ (n : ℕ) (t : List ℕ) (room : ℕ) {p : ℕ × List ℕ} (given : gives p ≡ lent_table form_flags n t) where
  passed : transform n t room ≡ fill room (due p)
  unfolding transform due
  passed =
      sym (past_table form_flags n t _ _ (fill room (due (n, t))) given)
      ∙ ap (λ (p : ℕ × List ℕ). fill room (due p)) (sym (given-table form_flags n t given))

count : (p : ℕ × List ℕ) → length (due p) ≡ word_count p.0
unfolding due
count p = length-words p.0 (coefficient p.0 (entry p.1))

pub returns-in_err-table : goal.returns-in_err-table
unfolding transform
returns-in_err-table c =
    let a = c.args in
    let last = fill (length a.out.now) (words a.flags (coefficient a.flags (entry a.table.now))) in
    let both = left-refuses a.out.now _ _ _ (sym (past_table form_flags a.flags a.table.now _ _ last c.in_err-table.ensures)) in
    record { answer = exit _ _ _ c.from_residual.ensures.1 ∙ both.0; lent = both.1 }

pub returns-then-out-count : goal.returns-then-out-count
returns-then-out-count c =
    let a = c.args in
    let both = told-short a.out.now _ (passed a.flags a.table.now (length a.out.now) c.in_ok-table.ensures) (count _ ∙ sym c.word_count-count.ensures)
    c.if-out-count.true in
    rw c.at.ensures record { answer = both.0; lent = both.1 }

pub returns : goal.returns
unfolding due
returns c =
    let a = c.args in
    let o = a.out.now in
    let t = c.in_ok-table.table in
    let size = count (t.flags.count, t.entries.now) ∙ sym c.word_count-count.ensures in
    let made = ap₂ (λ (l : List ℕ) (i : ℕ). l ++ drop i o) c.transform_table.ensures (sym size) ∙ sym (sets-front _ o (omega (arith, size))) in
    let both = told-filled o _ (passed a.flags a.table.now (length o) c.in_ok-table.ensures) size _ (omega arith) made in
    record { answer = both.0; lent = both.1 }
