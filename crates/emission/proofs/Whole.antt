-- The choices that leave no form to clean: what the whole OR family, the raw form and the absorption make of a form, from what is asked of the form.
-- It rests on the rules' equations (anf_cleanup, Rules) and on the bounds of a form (anf_cleanup, Bounds).
--   family-some                                     == a whole OR family has a flag
--   raw-listed                                      == the terms at the front of a list, folded, are the raw form
--   absorption-two, absorption-up, absorption-made  == rule 4 has two monomials, ascending, and makes its tree of them
--   raws, absorptions                               == what writing the raw form and rule 4's tree needs, for tactics
use Rattle.std.specs.Prelude.{◌≡◌, Bool, true, false, List, [], ◌∷◌, map, ℕ, ◌-◌, ◌≤◌, ◌<◌, eqb, length, take, replicate, Some, IfSome, refl}
use mathlib.Core.Path.{sym, ap, subst, ◌∙◌}
use Rattle.std.specs.Int.Bits.{bit_and}
use Rattle.std.proofs.Common.{arith, length-take}
use lib.Seq.{sets}
use borrow.Author.Tests.{eqb-true, eqb-false}
use Rattle.bits.proofs.Stores.{take-sets-front}
use Rattle.rules.specs.Cleanup.{atop, singles, absorption}
use Rattle.rules.specs.Form.{cube, folded, raw_form}
use Rattle.rules.specs.Monomial.{constant, monomials, ordered}
use Rattle.rules.specs.Tree.{AN, NO}
use Rattle.laws.proofs.form.Ordered.{length-ordered}
use Rattle.form.specs.Masks.{masks}
use Rattle.form.specs.declared.Form.{Form}
use Rattle.form.proofs.Masks.{few-masks, pair-bounds}
use Rattle.anf_cleanup.specs.Plan.{built, Allowed, only}
use Rattle.anf_cleanup.specs.declared.Choice.TheVariants.{Family, Absorption}
use Rattle.anf_cleanup.specs.declared.Choices.{Choices}
use Rattle.anf_cleanup.proofs.Rules.{family-singles, absorption-none, absorption-apart, absorption-tree}
use Rattle.emission.specs.inner.Emitted.{Meant}

pub family-some : (c : Choices) (l : List ℕ) → Meant c l → c.form ≡ Some Family → 0 < singles l
family-some c l h e = family-singles l (subst (λ o. IfSome o (λ d. Allowed d l)) e h.right.allowed)

pub raw-listed : (l ts : List ℕ) (n : ℕ) → length l ≤ 64 → n ≡ length l → ts ≡ sets (replicate 64 0) 0 (ordered l)
    → folded (map cube (take n ts)) ≡ raw_form l
unfolding raw_form
raw-listed l ts n h c e =
    ap (λ s. folded (map cube s))
    (rw (e, c ∙ sym (length-ordered l)) (take-sets-front (ordered l) (replicate 64 0) (omega (arith, length-ordered l))))

module _ (l : List ℕ) (a : absorption l ≡ only (raw_form l) (absorption l) ∷ []) where
  some : absorption l ≡ [] → ⊥
  some e = omega (arith, ap length e, ap length a)

  pub absorption-two : length (monomials l) ≡ 2
  absorption-two = go (eqb (length (monomials l)) 2) refl
    where
      go : (b : Bool) → eqb (length (monomials l)) 2 ≡ b → length (monomials l) ≡ 2
      go true q = eqb-true (length (monomials l)) 2 q
      go false q = absurd (some (absorption-none l (eqb-false (length (monomials l)) 2 q)))

  module _ (m o : ℕ) (e : monomials l ≡ m ∷ o ∷ []) where
    part : bit_and m o ≡ m
    part = go (eqb (bit_and m o) m) refl
      where
        go : (b : Bool) → eqb (bit_and m o) m ≡ b → bit_and m o ≡ m
        go true q = eqb-true (bit_and m o) m q
        go false q = absurd (some (absorption-apart l m o e (eqb-false (bit_and m o) m q)))

    pub absorption-made : atop (constant l) (AN (cube m) (NO (cube (o - m)))) ≡ built Absorption l
    absorption-made = sym (absorption-tree l m o e part)

pub absorption-up : (f : Form) (m o : ℕ) → monomials (masks f) ≡ m ∷ o ∷ [] → m ≤ o
absorption-up f m o e = omega (arith, pair-bounds f m o e)

pub ruleset absorptions = (absorption-two, absorption-made, absorption-up)

pub ruleset raws = (few-masks, raw-listed, length-take)
