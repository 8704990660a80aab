-- What the checks of a lent table and of lent coefficients tell of a call that goes on after them. It rests on the laws of outcomes (laws, Outcome)
-- and of words of coefficients (laws, Packed).
--   exit                        == what a `?` returns is refused as what it was given
--   past-row, past-entries, past_table, past_coefficients   == a call with a row or these rows goes on after them as after their outcome
--   given-flags, given-entries, given-table, given-coefficients == what they gave is what they give
--   packed-take, stray-take     == words that are not needed hold no coefficient that counts
use Rattle.std.specs.Prelude.{◌≡◌, Bool, true, false, refl, List, ℕ, ◌*◌, ◌/◌, ◌%◌, ◌^◌, ◌<◌, ◌≤◌, ltb, leb, length, take, Result}
use Rattle.std.proofs.Common.{sym, ap, ◌∙◌, arith, not}
use mathlib.Core.Bool.{false≢true}
use Rattle.std.specs.Result.{IsErrAnd}
use Rattle.std.proofs.lemmas.Result.{err_from_is_err_and}
use borrow.Author.Tests.{ltb-true, ltb-false, leb-true}
use lib.Seq.{get_or-take}
use Rattle.bits.specs.Bit.{bit}
use Rattle.bits.proofs.Truth.{and_true_r}
use Rattle.bits.proofs.Range.{any-ext, mem-from}
use Rattle.rules.specs.Calls.{with_table, with_coefficients}
use Rattle.rules.specs.Coefficient.{word_count, packed, stray}
use Rattle.rules.specs.Limits.{too_many_flags, short_table, short_coefficients, stray_coefficient}
use Rattle.rules.specs.Outcome.{Outcome, gives, refuses, refuse, ◌then◌}
use Rattle.rules.specs.Refusal.{number, outcome_of}
use Rattle.rules.specs.Table.{complete}
use Rattle.rules.specs.declared.refusal.Refusal.{Refusal}
use Rattle.laws.proofs.calls.Checked.{coefficients-then}
use Rattle.laws.proofs.calls.Outcome.{gives_same, refuse-gives, refuse-then}
use Rattle.laws.proofs.transform.Packed.{word_count-room}
use Rattle.packed_anf.specs.Rows.{enough_entries}

pub exit : {A B : Type 0} (f : A → B) (r : Result A Refusal) (e : Refusal) → IsErrAnd r (λ d. d ≡ e)
    → outcome_of f r ≡ refuses (number e.reason) e.place
exit f r e h = let p = err_from_is_err_and r h in rw (p.1, p.2)

pub past-row : {X A : Type 0} (b : Bool) (k p : ℕ) (x : X) (o : Outcome X) (rest : Outcome A) → o ≡ refuse b k p (gives x)
    → (o then (λ _. rest)) ≡ refuse b k p rest
past-row {X} b k p x o rest e = ap (λ (q : Outcome X). q then (λ _. rest)) e ∙ refuse-then b k p (gives x) (λ _. rest)

module _ {X : Type 0} (limit n : ℕ) (t : List ℕ) (x : X) where
  table-then : {A : Type 0} (rest : Outcome A) → (with_table limit n t (gives x) then (λ _. rest)) ≡ with_table limit n t rest
  unfolding with_table
  table-then rest =
      refuse-then (ltb limit n) too_many_flags 0 (refuse (not (complete n t)) short_table 0 (gives x)) (λ _. rest)
      ∙ ap (refuse (ltb limit n) too_many_flags 0) (refuse-then (not (complete n t)) short_table 0 (gives x) (λ _. rest))

  pub past_table : {A : Type 0} (o : Outcome X) (rest : Outcome A) → o ≡ with_table limit n t (gives x)
      → (o then (λ _. rest)) ≡ with_table limit n t rest
  past_table o rest e = ap (λ (q : Outcome X). q then (λ _. rest)) e ∙ table-then rest

  pub past_coefficients : {A : Type 0} (o : Outcome X) (rest : Outcome A) → o ≡ with_coefficients limit n t (gives x)
      → (o then (λ _. rest)) ≡ with_coefficients limit n t rest
  past_coefficients o rest e = ap (λ (q : Outcome X). q then (λ _. rest)) e ∙ coefficients-then limit n t (gives x) (λ _. rest)

pub past-entries : {A : Type 0} (limit n : ℕ) (t : List ℕ) (o : Outcome ℕ) (rest : Outcome A) → o ≡ enough_entries limit n (length t)
    → (o then (λ _. rest)) ≡ with_table limit n t rest
unfolding with_table
past-entries limit n t o rest e = past_table limit n t n o rest e

module _ {X : Type 0} {x y : X} (limit n : ℕ) where
  pub given-flags : gives y ≡ refuse (ltb limit n) too_many_flags 0 (gives x) → (n ≤ limit) × (y ≡ x)
  given-flags e = let r = refuse-gives _ _ _ _ _ (sym e) in (ltb-false limit n r.0, gives_same (sym r.1))

  module _ (t : List ℕ) where
    pub given-table : gives y ≡ with_table limit n t (gives x) → y ≡ x
    unfolding with_table
    given-table e =
        let r = refuse-gives (ltb limit n) too_many_flags 0 (refuse (not (complete n t)) short_table 0 (gives x)) y (sym e) in
        gives_same (sym (refuse-gives (not (complete n t)) short_table 0 (gives x) y r.1).1)

    pub given-coefficients : gives y ≡ with_coefficients limit n t (gives x) → y ≡ x
    unfolding with_coefficients
    given-coefficients e =
        let clean : Outcome X = refuse (stray n t) stray_coefficient 0 (gives x) in
        let enough : Outcome X = refuse (ltb (length t) (word_count n)) short_coefficients 0 clean in
        let r = refuse-gives (ltb limit n) too_many_flags 0 enough y (sym e) in
        let q = refuse-gives (ltb (length t) (word_count n)) short_coefficients 0 clean y r.1 in
        gives_same (sym (refuse-gives (stray n t) stray_coefficient 0 (gives x) y q.1).1)

no-shortage : (a b : ℕ) → not (leb a b) ≡ false → a ≤ b
no-shortage a b e = go (leb a b) refl e
  where
    go : (t : Bool) → leb a b ≡ t → not t ≡ false → a ≤ b
    go true is e = leb-true a b is
    go false is e = absurd (false≢true (sym e))

pub given-entries : (limit n k : ℕ) {y : ℕ} → gives y ≡ enough_entries limit n k → (y ≡ n) × (2 ^ n ≤ k)
given-entries limit n k {y} e =
    let short : Outcome ℕ = refuse (not (leb (2 ^ n) k)) short_table 0 (gives n) in
    let r = refuse-gives (ltb limit n) too_many_flags 0 short y (sym e) in
    let q = refuse-gives (not (leb (2 ^ n) k)) short_table 0 (gives n) y r.1 in
    (gives_same (sym q.1), no-shortage (2 ^ n) k q.0)

pub packed-take : (k : ℕ) (ws : List ℕ) (m : ℕ) → m < 64 * k → packed (take k ws) m ≡ packed ws m
unfolding packed
packed-take k ws m h = ap (λ (w : ℕ). bit w (m % 64)) (get_or-take k ws (m / 64) 0 (omega arith))

pub stray-take : (n : ℕ) (ws : List ℕ) → stray n (take (word_count n) ws) ≡ stray n ws
unfolding stray
stray-take n ws =
    any-ext _ _ _ (λ m h. packed-take (word_count n) ws m
    (let u = ltb-true m _ (and_true_r (leb (2 ^ n) m) _ (sym (mem-from (2 ^ n) _ m) ∙ h)) in omega (arith, u, word_count-room n)))
