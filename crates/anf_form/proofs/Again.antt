-- Raw costing's answer told again from its meaning, which the injectivity of the meaning rests on. No proof of a function needs it today. It is the
-- law of all answers (rules, Injective) for a number.
--   raw_cost      == the answer of an outcome
--   raw_cost-of   == it is the one whose meaning the outcome is
use Rattle.std.specs.Prelude.{◌≡◌, ℕ, Result, refl}
use Rattle.rules.specs.Outcome.{Outcome}
use Rattle.rules.specs.declared.refusal.Refusal.{Refusal}
use Rattle.rules.proofs.Injective.{answer_of, outcome-told}
use Rattle.anf_form.specs.Answers.{raw_cost_of}

abbrev pub raw_cost : Outcome ℕ → Result ℕ Refusal
raw_cost = answer_of (λ c. c)

pub raw_cost-of : (r : Result ℕ Refusal) → raw_cost (raw_cost_of r) ≡ r
raw_cost-of = outcome-told (λ c. c) (λ c. c) (λ c. refl)
