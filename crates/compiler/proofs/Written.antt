-- What the compiler tells of a form, and what it leaves in the lent buffer: a refusal leaves the buffer, and an expression stands at its front with
-- its counts. It rests on the rows of the calls (laws, Checked), on what a buffer holds after a call (laws, Outcome) and on the limits of what is
-- written (laws, Bytes).
--   form-room                    == the bytes of a cleaned form of six flags are 963 at most
--   Told o out after r           == both promises of the compiler, for its outcome o on paper, its answer r and the buffer after it
--   told-refusal                 == a refusal
--   told-room, told-expression   == row 5, and the expression of the cleaned form
use Rattle.std.specs.Prelude.{◌≡◌, Bool, List, [], ◌++◌, ℕ, ◌≤◌, ◌<◌, length, drop}
use mathlib.Core.Path.{sym, ap, ◌∙◌}
use native.Mathlib.Nat.{le_trans}
use Rattle.std.proofs.Common.{arith}
use Rattle.bits.proofs.Stores.{sets-front}
use Rattle.rules.specs.Calls as paper
use Rattle.rules.specs.Cleanup.{cleanup}
use Rattle.rules.specs.Form.{raw_cost}
use Rattle.rules.specs.Limits.{rule_flags, byte_limit, short_output}
use Rattle.rules.specs.Monomial.{form}
use Rattle.rules.specs.Outcome.{Outcome, gives, refuses, front, left, written}
use Rattle.rules.specs.Tree.{cost, size, write}
use Rattle.laws.proofs.calls.Checked.{room-short, room-enough}
use Rattle.laws.proofs.calls.Outcome.{front-written}
use Rattle.laws.proofs.cost.Bytes.{byte-limit}
use Rattle.laws.proofs.cost.Fits.{below-form}
use Rattle.laws.proofs.cost.Size.{size-cleanup, raw_cost-limit}
use Rattle.laws.proofs.form.Covered.{ascending-form}
use Rattle.postfix.specs.Written.{Written, with_tree}
use Rattle.compiler.specs.Answers.{expression_of, bytes_of}
use Rattle.compiler.specs.Truth.{compile_form}

pub form-room : (n : ℕ) (c : ℕ → Bool) → n ≤ rule_flags → length (write (cleanup (form n c))) ≤ byte_limit
form-room n c h =
    let l = form n c in
    let rises = ascending-form n c in
    byte-limit (cleanup l) (le_trans (size-cleanup l rises) (raw_cost-limit n l h rises (below-form n c)))

abbrev pub Told : Outcome paper.Compilation → List ℕ → List ℕ → Outcome paper.Compilation → Type 0
Told o out after r = record { answer : r ≡ o; lent : after ≡ left out (bytes_of o) }

pub told-refusal : (o : Outcome paper.Compilation) (out : List ℕ) (k p : ℕ) → o ≡ refuses k p → Told o out out (refuses k p)
told-refusal o out k p e = record { answer = sym e; lent = ap (λ (x : Outcome paper.Compilation). left out (bytes_of x)) (sym e) }

module _ (l out : List ℕ) (o : Outcome paper.Compilation) (told : o ≡ compile_form l (length out))
    (w : Written) (writes : w ≡ with_tree (record { bytes = []; records = 0 }) (cleanup l)) where
  bytes : w.bytes ≡ write (cleanup l)
  bytes = ap (λ (x : Written). x.bytes) writes

  records : w.records ≡ size (cleanup l)
  records = ap (λ (x : Written). x.records) writes ∙ omega arith

  pub told-room : length out < length w.bytes → Told o out out (refuses short_output (length w.bytes))
  unfolding compile_form
  told-room h =
      told-refusal o out short_output (length w.bytes)
      (told ∙ room-short (length out) (write (cleanup l)) _ (rw (← bytes) h) ∙ ap (λ s. refuses short_output (length s)) (sym bytes))

  pub told-expression : (k c r : ℕ) → length w.bytes ≤ length out → k ≡ w.records → c ≡ cost (cleanup l) → r ≡ raw_cost l
      → Told o out (w.bytes ++ drop (length w.bytes) out)
      (gives (expression_of (w.bytes ++ drop (length w.bytes) out) (record { bytes = length w.bytes; records = k; cost = c; raw = r })))
  unfolding compile_form paper.compilation
  told-expression k c r h m e q =
      let given : o ≡ gives (paper.compilation (cleanup l) l) =
      told ∙ room-enough (length out) (write (cleanup l)) (gives (paper.compilation (cleanup l) l)) (rw (← bytes) h) in
      let put = sym (sets-front w.bytes out h) in
      let front_is = ap (front (length w.bytes)) put ∙ front-written w.bytes out h ∙ bytes in
      record {
        answer = (λ i. gives (record { bytes = front_is i; records = (m ∙ records) i; cost = e i; raw = q i })) ∙ sym given;
        lent = put ∙ ap (written out) bytes ∙ ap (λ (x : Outcome paper.Compilation). left out (bytes_of x)) (sym given);
      }
