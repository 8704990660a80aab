-- Answers in numbers. It rests on the length of a buffer's front (bits, Tabulated).
--   compiled-told      == an answer in numbers is the outcome that it tells
use Rattle.std.specs.Prelude.{◌≡◌, ℕ, List, [], ◌∷◌, length, get_or, Result, Err, MatchResult, IsOkAnd}
use mathlib.Core.Path.{sym, ap, ◌∙◌}
use Rattle.bits.proofs.Tabulated.{length-map-upto}
use Rattle.rules.specs.Calls as paper
use Rattle.rules.specs.Outcome as result
use Rattle.rules.specs.declared.refusal.Refusal.{Refusal}
use Rattle.compiler.specs.Answers.{expression_of, compilation_of}
use Rattle.compiler.specs.declared.Expression.{Expression}
use Rattle.comparison.specs.Outcome.{answer_of}
use Rattle.comparison.specs.declared.outcome.Outcome.{Outcome}
use Rattle.comparison.proofs.Told.{told-of}
use Rattle.recorded_rules.specs.Answers.{numbers_of, compiled_of}

pub compiled-told : (out : List ℕ) {o : result.Outcome paper.Compilation} {x : Outcome} (r : Result Expression Refusal)
    (m : Result (List ℕ) Refusal) → compilation_of out r ≡ o → x ≡ answer_of (λ l. l) m
    → MatchResult r (λ e. IsOkAnd m (λ l. l ≡ numbers_of e)) (λ e. m ≡ Err e) → x ≡ compiled_of o
compiled-told out r m q g p =
    told-of (λ c. c.cost ∷ c.raw ∷ c.records ∷ length c.bytes ∷ []) (expression_of out) r q m g p
    (λ e l f. f ∙ ap (λ (j : ℕ). e.cost ∷ e.raw ∷ e.records ∷ j ∷ []) (sym (length-map-upto e.bytes (λ i. get_or out i 0))))
