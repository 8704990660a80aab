-- The raw cost added up in mask order and in list order. Document 02, request 3: "Add up the same terms over the coefficient word, lowest mask
-- first. For every n and word the whole sum must equal the one over the sorted list." It rests on a form's constant and monomials (Covered), on the
-- monomial order (Ordered), on raw cost (Cost) and on the rows of the two calls (Checked).
--   terms-listed         == the terms of a listed form are its masks in the monomial order
--   raw_cost-terms        == the sum over a form's masks, lowest first, is the sum over the terms of its listing, for every n and all coefficients
--   terms-raw_form        == and that is the cost of the raw form
--   listing-room         == a listing has at most 2^n masks
--   raw_costing-listing   == raw costing is row 1, then the listing, lent room for 2^n masks, and then the sum over what it lists
--   raw_costing-raw_form   == it gives the cost of the raw form
use mathlib.Core.List.{List}
use mathlib.Core.Path.{◌≡◌, sym, ap, ◌∙◌}
use mathlib.Core.Bool.{Bool}
use Prim.Native.Nat.{ℕ, ◌^◌, ◌≤◌}
use native.Mathlib.Omega.{arith}
use lib.Dec.{ltb}
use lib.ListN.{length}
use Rattle.bits.specs.Range.{upto, Ascending}
use Rattle.bits.proofs.Range.{length_from, length-keep}
use Rattle.rules.specs.Calls.{with_coefficients, Listing, listed, listing, terms, raw_costing}
use Rattle.rules.specs.Coefficient.{packed}
use Rattle.rules.specs.Form.{raw_form, raw_cost}
use Rattle.rules.specs.Limits.{form_flags, rule_flags, too_many_flags}
use Rattle.rules.specs.Monomial.{form, constant, monomials, ordered}
use Rattle.rules.specs.Outcome.{Outcome, gives, refuse, ◌then◌}
use Rattle.rules.specs.Tree.{cost}
use Rattle.laws.proofs.form.Covered.{ascending-form, form-split, monomial-mem}
use Rattle.laws.proofs.form.Ordered.{length-ordered, ordered-on}
use Rattle.laws.proofs.cost.Cost.{raw_cost-ordered, cost-raw_form}
use Rattle.laws.proofs.calls.Checked.{coefficients-then, coefficients-lower, room-enough}

-- ---- every form

pub terms-listed : (l : List ℕ) → Ascending l → terms (listed l) ≡ ordered l
unfolding terms listed
terms-listed l s = sym (ap ordered (form-split l s) ∙ ordered-on (constant l) (monomials l) (λ m e. (monomial-mem l m e).0))

module _ (n : ℕ) (c : ℕ → Bool) where
  pub raw_cost-terms : raw_cost (form n c) ≡ raw_cost (terms (listed (form n c)))
  raw_cost-terms = sym (ap raw_cost (terms-listed (form n c) (ascending-form n c)) ∙ raw_cost-ordered (form n c))

  pub terms-raw_form : raw_cost (terms (listed (form n c))) ≡ cost (raw_form (form n c))
  terms-raw_form = sym (cost-raw_form (form n c) ∙ raw_cost-terms)

  pub listing-room : length (listed (form n c)).masks ≤ 2 ^ n
  unfolding listed form
  listing-room =
      omega (
        arith,
        length-ordered (monomials (form n c)),
        length-keep (λ m. ltb 0 m) (form n c),
        length-keep c (upto (2 ^ n)),
        length_from 0 (2 ^ n),
      )

-- ---- the two calls

module _ (n : ℕ) (ws : List ℕ) where
  pub raw_costing-listing : (room : ℕ) → 2 ^ n ≤ room
      → raw_costing n ws ≡ refuse (ltb rule_flags n) too_many_flags 0 (listing n ws room then (λ a. gives (raw_cost (terms a))))
  unfolding raw_costing listing
  raw_costing-listing room h =
      let l = form n (packed ws) in
      let sum : Listing → Outcome ℕ = λ a. gives (raw_cost (terms a)) in
      let fits = room-enough room (listed l).masks (gives (listed l)) (omega (arith, listing-room n (packed ws))) in
      coefficients-lower rule_flags form_flags n ws (gives (raw_cost l)) (omega arith)
      ∙ ap (refuse (ltb rule_flags n) too_many_flags 0)
      (sym (coefficients-then form_flags n ws _ sum
      ∙ ap (with_coefficients form_flags n ws) (ap (λ (o : Outcome Listing). o then sum) fits ∙ ap gives (sym (raw_cost-terms n (packed ws))))))

  pub raw_costing-raw_form : raw_costing n ws ≡ with_coefficients rule_flags n ws (gives (cost (raw_form (form n (packed ws)))))
  unfolding raw_costing
  raw_costing-raw_form = ap (λ (k : ℕ). with_coefficients rule_flags n ws (gives k)) (sym (cost-raw_form (form n (packed ws))))
