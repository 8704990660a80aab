-- A refusal that a call passes on, by `?`, is the refusal of the call that it made.
--   passed               == what `?` returns
--   passed-first         == where a row passes, it does not hold, and the result is the one behind it
--   refused-first        == where the first condition refuses a call, it refuses any other call that asks it first
use mathlib.Core.Bool.{Bool, true, false}
use mathlib.Core.Path.{◌≡◌, ap, sym}
use Prim.Native.Nat.{ℕ}
use Rattle.std.specs.Prelude.{Result, Ok, Err}
use Rattle.std.specs.Result.{IsErrAnd}
use Rattle.rules.specs.Outcome.{Outcome, gives, refuses, refuse}
use Rattle.rules.specs.declared.refusal.Refusal.{Refusal}
use Rattle.laws.proofs.calls.Outcome.{gives_same, not-both, refuse-gives}
use Rattle.reader.proofs.Reading.{refuses-again}

pub passed : {A : Type 0} {e : Refusal} {r : Result A Refusal} → IsErrAnd r (λ x. x ≡ e) → r ≡ Err e
passed {r = Err x} p = ap Err p
passed {r = Ok x} p = absurd p

pub passed-first : {A : Type 0} {m : A} (b : Bool) (k p : ℕ) (n : A) → gives m ≡ refuse b k p (gives n) → (b ≡ false) × (m ≡ n)
passed-first b k p n e =
    let q = refuse-gives b k p (gives n) _ (sym e) in
    (q.0, sym (gives_same q.1))

pub refused-first : {A B : Type 0} {j q : ℕ} (b : Bool) (k p : ℕ) (n : A) (o : Outcome B) → refuses j q ≡ refuse b k p (gives n)
    → refuses j q ≡ refuse b k p o
refused-first true k p n o e = refuses-again e
refused-first false k p n o e = absurd (not-both (sym e))
