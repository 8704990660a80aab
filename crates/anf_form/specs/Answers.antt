-- The answers of listing and raw costing on paper.
--   listing_of out r  == listing's answer, where out is what the lent buffer holds afterwards: the constant and the masks, or a refusal
--   raw_cost_of r      == raw costing's answer: the cost, or a refusal
use Rattle.std.specs.Prelude.{List, ℕ, Result}
use Rattle.rules.specs.Calls as paper
use Rattle.rules.specs.Outcome.{Outcome, front}
use Rattle.rules.specs.Refusal.{outcome_of}
use Rattle.rules.specs.declared.refusal.Refusal.{Refusal}
use Rattle.anf_form.specs.declared.Contents.{Contents}

-- `Ok`: the constant, and the first `count` entries of the buffer
abbrev pub listing_of : List ℕ → Result Contents Refusal → Outcome paper.Listing
listing_of out = outcome_of (λ f. record { constant = f.constant; masks = front f.count out })

abbrev pub raw_cost_of : Result ℕ Refusal → Outcome ℕ
raw_cost_of = outcome_of (λ c. c)
