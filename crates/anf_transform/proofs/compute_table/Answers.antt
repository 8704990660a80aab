-- `anf_transform::compute_table` meets its contract: each `return` is a row of the refusal table, or the end with no row left, where the values stand
-- at the front of the buffer (Filled).
use Rattle.std.proofs.Common.{◌≡◌, ◌^◌, ◌∙◌, List, ℕ, arith, length, take, sym, ap}
use Rattle.bits.specs.Bit.{digit}
use Rattle.bits.proofs.Tabulated.{length-map-upto, map-upto-ext}
use Rattle.rules.specs.Calls.{way_back, fill}
use Rattle.rules.specs.Coefficient.{coefficient, word_count, packed}
use Rattle.rules.specs.Limits.{form_flags}
use Rattle.rules.specs.Outcome.{gives}
use Rattle.laws.proofs.calls.Outcome.{left-refuses}
use Rattle.laws.proofs.transform.Mobius.{coefficient-ext}
use Rattle.laws.proofs.transform.Packed.{word_count-room}
use Rattle.packed_anf.specs.Rows.{lent_coefficients}
use Rattle.packed_anf.proofs.Rows.{exit, past_coefficients, given-coefficients, packed-take}
use Rattle.anf_transform.specs.inner.Values.{values}
use Rattle.anf_transform.proofs.Filled.{told-short, told-filled}
use Rattle.anf_transform.proofs.compute_table.Goals as goal

values-take : (n : ℕ) (ws : List ℕ) → values n (take (word_count n) ws) ≡ values n ws
values-take n ws =
    map-upto-ext (2 ^ n) (λ s. digit (coefficient n (packed (take (word_count n) ws)) s)) (λ s. digit (coefficient n (packed ws) s))
    (λ m h. ap digit (coefficient-ext n (packed (take (word_count n) ws)) (packed ws) m
    (λ s l. packed-take (word_count n) ws s (omega (arith, word_count-room n)))))

module _ (n : ℕ) (ws : List ℕ) (room : ℕ) {p : ℕ × List ℕ} (given : gives p ≡ lent_coefficients form_flags n ws) where
  passed : way_back n ws room ≡ fill room (values p.0 p.1)
  unfolding way_back
  passed =
      sym (past_coefficients form_flags n ws _ _ (fill room (values n ws)) given)
      ∙ ap (fill room) (sym (values-take n ws) ∙ ap (λ (p : ℕ × List ℕ). values p.0 p.1) (sym (given-coefficients form_flags n ws given)))

count : (p : ℕ × List ℕ) → length (values p.0 p.1) ≡ 2 ^ p.0
count p = length-map-upto (2 ^ p.0) (λ s. digit (coefficient p.0 (packed p.1) s))

pub returns-in_err-coefficients : goal.returns-in_err-coefficients
unfolding way_back
returns-in_err-coefficients c =
    let a = c.args in
    let last = fill (length a.out.now) (values a.flags a.coefficients.now) in
    let both = left-refuses a.out.now _ _ _ (sym (past_coefficients form_flags a.flags a.coefficients.now _ _ last c.in_err-coefficients.ensures)) in
    record { answer = exit _ _ _ c.from_residual.ensures.1 ∙ both.0; lent = both.1 }

pub returns-then-out-settings : goal.returns-then-out-settings
returns-then-out-settings c =
    let a = c.args in
    let t = c.in_ok-coefficients.coefficients in
    let size = count (t.flags.count, t.words.now) ∙ sym c.setting_count-settings.ensures in
    let both = told-short a.out.now _ (passed a.flags a.coefficients.now (length a.out.now) c.in_ok-coefficients.ensures) size
    c.if-out-settings.true in
    rw c.at.ensures record { answer = both.0; lent = both.1 }

pub returns : goal.returns
returns c =
    let a = c.args in
    let t = c.in_ok-coefficients.coefficients in
    let size = count (t.flags.count, t.words.now) ∙ sym c.setting_count-settings.ensures in
    let both = told-filled a.out.now _ (passed a.flags a.coefficients.now (length a.out.now) c.in_ok-coefficients.ensures) size _ (omega arith)
    c.transform_back.ensures in
    record { answer = both.0; lent = both.1 }
