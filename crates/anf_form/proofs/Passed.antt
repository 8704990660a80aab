-- What listing tells of any words that no row of the coefficients refuses. No proof of a function needs these laws today: the code's words have
-- passed the rows by their type (Listed). They rest on the rows of the calls (laws, Checked), on the masks that words hold (Held) and on the laws of
-- outcomes (laws, Outcome).
--   Passed n k ws                == no row refuses the coefficients, and k words are needed
--   masks-below, masks-count     == the masks that they hold: below 2^n, and the monomials and the constant together
--   told-short, told-listing     == the buffer is too short for the monomials, or holds them
use mathlib.Core.Bool.{Bool, false}
use mathlib.Core.List.{List}
use mathlib.Core.Path.{◌≡◌, sym, ap, ap₂, ◌∙◌}
use Prim.Native.Nat.{ℕ, ◌+◌, ◌^◌, ◌≤◌, ◌<◌}
use native.Mathlib.Omega.{arith}
use lib.Dec.{eqb}
use lib.ListN.{length}
use lib.Seq.{sets}
use Rattle.bits.specs.Bit.{digit}
use Rattle.bits.specs.Range.{Below}
use Rattle.bits.proofs.Bit.{digit-is}
use Rattle.rules.specs.Calls as paper
use Rattle.rules.specs.Coefficient.{word_count, packed, stray}
use Rattle.rules.specs.Limits.{form_flags, short_output}
use Rattle.rules.specs.Monomial.{constant, monomials, ordered}
use Rattle.rules.specs.Outcome.{Outcome, gives, refuses, front}
use Rattle.laws.proofs.calls.Checked.{coefficients-clean, room-short, room-enough}
use Rattle.laws.proofs.calls.Outcome.{front-written}
use Rattle.laws.proofs.form.Ordered.{length-ordered}
use Rattle.laws.proofs.transform.Packed.{word_count-pos}
use Rattle.mask_words.proofs.Degrees.{length-monomials}
use Rattle.anf_form.specs.Inner.{held}
use Rattle.anf_form.proofs.Held.{held-form, below-held, ascending-held, constant-held}
use Rattle.anf_form.proofs.Listed.{placed}

-- past the rows of the coefficients, with k words
pub record Passed (n k : ℕ) (ws : List ℕ) : Type 0 where
  pub few : n ≤ form_flags
  pub words : k ≡ word_count n
  pub needed : k ≤ length ws
  pub clean : stray n ws ≡ false

module _ (n k : ℕ) (ws : List ℕ) (p : Passed n k ws) where
  abbrev masks : List ℕ
  masks = ordered (monomials (held k ws))

  constant-is : constant (held k ws) ≡ packed ws 0
  constant-is = constant-held ws k (omega (arith, p.words, word_count-pos n))

  pub masks-below : Below (2 ^ n) (held k ws)
  masks-below = rw p.words (below-held ws n p.clean)

  pub masks-count : length masks + digit (packed ws 0) ≡ length (held k ws)
  masks-count =
      omega (arith, length-ordered (monomials (held k ws)), length-monomials (held k ws) (ascending-held ws k), ap digit constant-is)

  module _ (out : List ℕ) where
    past : paper.listing n ws (length out) ≡ paper.with_room (length out) masks (gives (paper.listed (held k ws)))
    unfolding paper.listing paper.listed
    past =
        coefficients-clean form_flags n ws _ p.few (omega (arith, p.words, p.needed)) p.clean
        ∙ ap (λ (l : List ℕ). paper.with_room (length out) (ordered (monomials l)) (gives (paper.listed l)))
        (held-form ws n p.clean ∙ ap (λ (i : ℕ). held i ws) (sym p.words))

    module _ (count : ℕ) (c : count + digit (packed ws 0) ≡ length (held k ws)) where
      counted : count ≡ length masks
      counted = omega (arith, masks-count)

      pub told-short : length out < count
          → (refuses short_output count ≡ paper.listing n ws (length out)) × (out ≡ placed out (paper.listing n ws (length out)))
      told-short h =
          let short = past ∙ room-short (length out) masks _ (omega (arith, counted)) in
          let e = short ∙ ap {B = Outcome paper.Listing} (refuses short_output) (sym counted) in
          (sym e, ap (placed out) (sym e))

      pub told-listing : (d : ℕ) (after : List ℕ) → d ≡ digit (packed ws 0) → count ≤ length out → after ≡ sets out 0 masks
          → (gives record { constant = eqb d 1; masks = front count after } ≡ paper.listing n ws (length out))
          × (after ≡ placed out (paper.listing n ws (length out)))
      unfolding paper.listed
      told-listing d after b h w =
          let given = past ∙ room-enough (length out) masks _ (omega (arith, counted)) in
          let flag = digit-is (packed ws 0) _ b ∙ sym constant-is in
          let listed = ap₂ front counted w ∙ front-written masks out (omega (arith, counted)) in (
            ap₂ {C = Outcome paper.Listing} (λ (q : Bool) (l : List ℕ). gives record { constant = q; masks = l }) flag listed ∙ sym given,
            w ∙ ap (placed out) (sym given),
          )
