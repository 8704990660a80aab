-- Outcomes of calls in numbers, and their comparison.
--   results a b c d   == these results
--   alone x           == the numbers of a call that gives x and no more
--   refusal k p       == refusal number k, place p
--   numbers_of f o    == the outcome o on paper in numbers, where f has those of its result
--   answer_of f r     == the answer r in numbers, where f has those of its result
--   same_outcome a b  == a and b are both results or both refusals, with the same numbers, or both damaged
use Rattle.std.specs.Prelude.{ℕ, Bool, true, false, ◌&&◌, ◌==◌, List, [], ◌∷◌, Result}
use Rattle.bits.specs.Range.{same}
use Rattle.rules.specs.Outcome as paper
use Rattle.rules.specs.Outcome.{gives, refuses}
use Rattle.rules.specs.Refusal.{outcome_of}
use Rattle.rules.specs.declared.refusal.Refusal.{Refusal}
use Rattle.comparison.specs.declared.outcome.Outcome.{Outcome}
use Rattle.comparison.specs.declared.outcome.Outcome.TheVariants.{Results, Refused, Damaged}

abbrev pub results : ℕ → ℕ → ℕ → ℕ → Outcome
results a b c d = Results (a ∷ b ∷ c ∷ d ∷ [])

abbrev pub alone : ℕ → List ℕ
alone x = x ∷ 0 ∷ 0 ∷ 0 ∷ []

abbrev pub refusal : ℕ → ℕ → Outcome
refusal k p = Refused k (alone p)

abbrev pub numbers_of : {O : Type 0} → (O → List ℕ) → paper.Outcome O → Outcome
numbers_of f (gives o) = Results (f o)
numbers_of f (refuses k p) = refusal k p

abbrev pub answer_of : {A : Type 0} → (A → List ℕ) → Result A Refusal → Outcome
answer_of f r = numbers_of f (outcome_of (λ a. a) r)

unfoldable pub same_outcome : Outcome → Outcome → Bool
same_outcome (Results a) (Results b) = same a b
same_outcome (Refused k a) (Refused j b) = k == j && same a b
same_outcome Damaged Damaged = true
same_outcome a b = false
