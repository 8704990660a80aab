-- Answers in numbers. It rests on the length of a buffer's front (bits, Tabulated).
--   numbers-told   == an answer in numbers is the outcome that it tells
use Rattle.std.specs.Prelude.{◌≡◌, ℕ, List, length, get_or, Result}
use mathlib.Core.Path.{sym, ap}
use Rattle.bits.proofs.Tabulated.{length-map-upto}
use Rattle.rules.specs.Outcome as result
use Rattle.rules.specs.Outcome.{front}
use Rattle.rules.specs.declared.refusal.Refusal.{Refusal}
use Rattle.anf_transform.specs.Answers.{filled_of}
use Rattle.comparison.specs.Outcome.{alone}
use Rattle.comparison.specs.declared.outcome.Outcome.{Outcome}
use Rattle.comparison.proofs.Told.{told}
use Rattle.recorded_transforms.specs.Answers.{outcome_of, numbers_of}

pub numbers-told : (out : List ℕ) {o : result.Outcome (List ℕ)} {x : Outcome} (r : Result ℕ Refusal) → filled_of out r ≡ o → x ≡ numbers_of r
    → x ≡ outcome_of o
numbers-told out r q e =
    told (λ l. alone (length l)) (λ k. front k out) r q e (λ k. ap alone (sym (length-map-upto k (λ i. get_or out i 0))))
