-- What listing tells, and what it leaves in the lent buffer, past the rows of the coefficients: a refusal leaves the buffer, and a listing stands at
-- its front. It rests on the rows of the calls (laws, Checked; packed_anf, Rows), on the masks that words hold (Held) and on the laws of outcomes
-- (laws, Outcome).
--   masks-count                  == the monomials that the words hold, and the constant together
--   told-short, told-listing     == the buffer is too short for the monomials, or holds them
use mathlib.Core.Bool.{Bool}
use mathlib.Core.List.{List}
use mathlib.Core.Path.{◌≡◌, sym, ap, ap₂, ◌∙◌}
use Prim.Native.Nat.{ℕ, ◌+◌, ◌≤◌, ◌<◌}
use native.Mathlib.Omega.{arith}
use lib.ListN.{length}
use lib.Seq.{sets}
use mir.Val.{bool_byte}
use Rattle.bits.specs.Bit.{digit}
use Rattle.bits.proofs.Bit.{byte-digit}
use Rattle.rules.specs.Calls as paper
use Rattle.rules.specs.Coefficient.{packed}
use Rattle.rules.specs.Limits.{form_flags, short_output}
use Rattle.rules.specs.Monomial.{form, constant, monomials, ordered}
use Rattle.rules.specs.Outcome.{Outcome, gives, refuses, front, left, ◌then◌}
use Rattle.laws.proofs.calls.Checked.{room-short, room-enough}
use Rattle.laws.proofs.calls.Outcome.{front-written}
use Rattle.laws.proofs.form.Ordered.{length-ordered}
use Rattle.laws.proofs.transform.Packed.{word_count-pos}
use Rattle.mask_words.proofs.Degrees.{length-monomials}
use Rattle.packed_anf.specs.Rows.{lent_coefficients}
use Rattle.packed_anf.specs.declared.lent.Coefficients.{Coefficients}
use Rattle.packed_anf.proofs.Rows.{past_coefficients}
use Rattle.anf_form.proofs.Held.{held-lent, ascending-held, constant-held}
use Rattle.anf_form.specs.Inner.{held}

-- the buffer after an outcome of listing
abbrev pub placed : List ℕ → Outcome paper.Listing → List ℕ
placed out o = left out (o then (λ l. gives l.masks))

module _ (a : Coefficients 16) (b : Bool) (is : b ≡ packed a.words.now 0) where
  abbrev words : List ℕ
  words = held (length a.words.now) a.words.now

  abbrev masks : List ℕ
  masks = ordered (monomials words)

  constant-is : constant words ≡ b
  constant-is = constant-held a.words.now (length a.words.now) (omega (arith, a.all, word_count-pos a.flags.count)) ∙ sym is

  pub masks-count : length masks + bool_byte b ≡ length words
  masks-count =
      let one = ap digit constant-is in
      omega (arith, length-ordered (monomials words), length-monomials words (ascending-held a.words.now (length a.words.now)), one, byte-digit b)

  module _ (n : ℕ) (ws out : List ℕ) (given : gives (a.flags.count, a.words.now) ≡ lent_coefficients form_flags n ws) where
    past : paper.listing n ws (length out) ≡ paper.with_room (length out) masks (gives (paper.listed words))
    unfolding paper.listing paper.listed
    past =
        let last = paper.with_room (length out) (paper.listed (form n (packed ws))).masks (gives (paper.listed (form n (packed ws)))) in
        sym (past_coefficients form_flags n ws _ _ last given)
        ∙ ap (λ (l : List ℕ). paper.with_room (length out) (ordered (monomials l)) (gives (paper.listed l))) (held-lent n ws a given)

    module _ (k : ℕ) (c : k + bool_byte b ≡ length words) where
      counted : k ≡ length masks
      counted = omega (arith, masks-count)

      pub told-short : length out < k
          → (refuses short_output k ≡ paper.listing n ws (length out)) × (out ≡ placed out (paper.listing n ws (length out)))
      told-short h =
          let short = past ∙ room-short (length out) masks _ (omega (arith, counted)) in
          let e = short ∙ ap {B = Outcome paper.Listing} (refuses short_output) (sym counted) in
          (sym e, ap (placed out) (sym e))

      pub told-listing : (after : List ℕ) → k ≤ length out → after ≡ sets out 0 masks
          → (gives record { constant = b; masks = front k after } ≡ paper.listing n ws (length out))
          × (after ≡ placed out (paper.listing n ws (length out)))
      unfolding paper.listed
      told-listing after h w =
          let given = past ∙ room-enough (length out) masks _ (omega (arith, counted)) in
          let listed = ap₂ front counted w ∙ front-written masks out (omega (arith, counted)) in (
            ap₂ {C = Outcome paper.Listing} (λ (q : Bool) (l : List ℕ). gives record { constant = q; masks = l }) (sym constant-is) listed
                ∙ sym given,
            w ∙ ap (placed out) (sym given),
          )
