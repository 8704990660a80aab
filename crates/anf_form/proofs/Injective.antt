-- Equal meanings have equal answers, of listing for a given lent buffer, so the equations of listing and raw costing fix what they answer. The number
-- of monomials is told from the front of the buffer.
--   listing_of-injective  == listing's answers
--   raw_cost_of-injective  == raw costing's answers
use Rattle.std.specs.Prelude.{List, ◌≡◌, ℕ, Result, length}
use mathlib.Core.Path.{refl, ap}
use Rattle.rules.specs.Calls as paper
use Rattle.rules.proofs.Injective.{outcome_of-injective}
use Rattle.rules.specs.declared.refusal.Refusal.{Refusal}
use Rattle.laws.proofs.calls.Outcome.{length_front}
use Rattle.anf_form.specs.Answers.{listing_of, raw_cost_of}
use Rattle.anf_form.specs.declared.Contents.{Contents}

abbrev contents : paper.Listing → Contents
contents l = record { constant = l.constant; count = length l.masks }

pub listing_of-injective : (out : List ℕ) (r q : Result Contents Refusal) → listing_of out r ≡ listing_of out q → r ≡ q
listing_of-injective out =
    outcome_of-injective _ contents (λ f. ap (λ (k : ℕ). record { constant = f.constant; count = k }) (length_front f.count out))

pub raw_cost_of-injective : (r q : Result ℕ Refusal) → raw_cost_of r ≡ raw_cost_of q → r ≡ q
raw_cost_of-injective = outcome_of-injective (λ c. c) (λ c. c) (λ c. refl)
