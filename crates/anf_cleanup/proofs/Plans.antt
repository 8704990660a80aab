-- Plans and the trees that they make: the best after the candidate of a rule, and what each choice's tree costs.
-- It rests on the definitions of specs/Plan, on the rules' equations (Rules) and on the raw form's cost (laws, Cost).
--   planned-chosen                                 == the plan of a choice, for the tree that it makes
--   planned-right, right-open                      == a plan's choice is right, and so is one that is still to be found
--   improved-none, improved-one, improved-kept     == a rule with no candidate; with one that costs less than the best, and with one that does not
--   improved-taken, improved-only                  == so of a tree with a plan that costs less; a rule with one candidate is that candidate
--   planned-contest, planned-single                == the raw form, then the candidates of rules 2, 3 and 4; with one monomial there are none
--   cost-constant, cost-family, cost-raw           == what the trees of the choices cost; a constant 1 in front costs 2
--   cost-partial, cost-whole, cost-rest            == so of a partial OR, of a cube that covers every mask, and of one that leaves a remainder
--   cost-absorption                                == and of an absorption
use mathlib.Core.Bool.{Bool, true, false, not}
use mathlib.Core.List.{List, [], ◌∷◌}
use mathlib.Core.Path.{◌≡◌, refl, sym, ap, subst, ◌∙◌}
use Rattle.std.specs.Prelude.{Option, Some, None}
use Prim.Native.Nat.{ℕ, ◌+◌, ◌-◌, ◌*◌, ◌≤◌, ◌<◌}
use native.Mathlib.Omega.{arith}
use lib.Bits.{bit_and}
use lib.Dec.{ltb}
use lib.ListN.{length}
use borrow.Author.Tests.{lt-ltb, le-ltb}
use Rattle.bits.specs.Bit.{digit, within}
use Rattle.bits.specs.Range.{keep, mem}
use Rattle.rules.specs.Cleanup.{cleanup, family, atop, singles, is_family, partial_or, stripped, with_rest, common_cube, absorption, cheaper}
use Rattle.rules.specs.Form.{cube, or_chain, raw_form, raw_cost}
use Rattle.rules.specs.Monomial.{constant, monomials}
use Rattle.rules.specs.Tree.{Tree, AN, XO, NO, cost}
use Rattle.laws.proofs.cost.Cost.{cost-raw_form}
use Rattle.anf_cleanup.specs.Inner.{Improved}
use Rattle.anf_cleanup.specs.Plan.{built, Allowed, Right, Parts, Planned}
use Rattle.anf_cleanup.specs.declared.Choice.{Choice}
use Rattle.anf_cleanup.specs.declared.Choice.TheVariants.{Constant, Family, Raw, Absorption}
use Rattle.anf_cleanup.specs.declared.Plan.{Plan}
use Rattle.anf_cleanup.proofs.Rules.{cleanup-contest, partial_or-few, common_cube-few, absorption-none, absorption-tree}

decided : (t u : Tree) (b : Bool) → ltb (cost u) (cost t) ≡ b → cheaper t u ≡ elim b [ true ↦ u | false ↦ t ]
unfolding cheaper
decided t u b e = ap (λ (c : Bool). elim c as (λ _. Tree) [ true ↦ u | false ↦ t ]) e

module _ (l : List ℕ) (c : Choice) (n : ℕ) (i r : Option Choice) (w : Plan)
    (e : w ≡ record { choice = c; inner = i; rest = r; cost = n })
    (k : n ≡ cost (built c l)) (a : Allowed c l) (s : Parts c l i r) where
  pub planned-chosen : (t : Tree) → t ≡ built c l → Planned l t w
  planned-chosen t q = rw e (record { makes = sym q; costs = k ∙ ap cost (sym q); allowed = a; parts = s })

  pub improved-one : (us : List Tree) (p : Plan) → us ≡ built c l ∷ [] → n < p.cost → Improved l us p w
  improved-one us p f m t h =
      rw f (planned-chosen (cheaper t (built c l)) (decided t (built c l) true (lt-ltb (cost (built c l)) (cost t) (omega (arith, k, h.costs)))))

pub improved-kept : (l : List ℕ) (us : List Tree) (p : Plan) (u : Tree) (n : ℕ) → us ≡ u ∷ [] → n ≡ cost u → p.cost ≤ n → Improved l us p p
improved-kept l us p u n f k m t h =
    rw f (subst (λ (x : Tree). Planned l x p) (sym (decided t u false (le-ltb (cost u) (cost t) (omega (arith, k, h.costs))))) h)

pub improved-taken : (l : List ℕ) (p q : Plan) (u : Tree) → Planned l u q → q.cost < p.cost → Improved l (u ∷ []) p q
improved-taken l p q u k g t h =
    subst (λ (x : Tree). Planned l x q) (sym (decided t u true (lt-ltb (cost u) (cost t) (omega (arith, k.costs, h.costs))))) k

pub planned-right : (l : List ℕ) (p : Plan) → Planned l (cleanup l) p → Right (Some p.choice) l
planned-right l p h = record { makes = h.makes; allowed = h.allowed }

pub right-open : (l : List ℕ) → Right None l
right-open l = record { makes = refl; allowed = tt }

pub improved-only : (l : List ℕ) (us : List Tree) (u : Tree) (p q : Plan) → us ≡ u ∷ [] → Improved l (u ∷ []) p q → Improved l us p q
improved-only l us u p q e h t k = rw e (h t k)

pub improved-none : (l : List ℕ) (us : List Tree) (p : Plan) → us ≡ [] → Improved l us p p
improved-none l us p e t h = rw e h

pub planned-contest : (l : List ℕ) (p q r s : Plan) → (length (monomials l) ≡ 0 → ⊥) → is_family l ≡ false → Planned l (raw_form l) p
    → Improved l (partial_or cleanup l) p q → Improved l (common_cube cleanup l) q r → Improved l (absorption l) r s → Planned l (cleanup l) s
planned-contest l p q r s h e raw second third fourth =
    subst (λ (t : Tree). Planned l t s) (sym (cleanup-contest l h e)) (fourth _ (third _ (second (raw_form l) raw)))

pub planned-single : (l : List ℕ) (p : Plan) → length (monomials l) ≡ 1 → is_family l ≡ false → Planned l (raw_form l) p → Planned l (cleanup l) p
planned-single l p h e raw =
    planned-contest l p p p p (omega arith) e raw (improved-none l _ p (partial_or-few l (omega arith)))
    (improved-none l _ p (common_cube-few l (omega arith)))
    (improved-none l _ p (absorption-none l (omega arith)))

-- ---- costs

atop-cost : (b : Bool) (t : Tree) → cost (atop b t) ≡ cost t + 2 * digit b
unfolding cost atop
atop-cost true t = omega arith
atop-cost false t = omega arith

module _ (l : List ℕ) where
  pub cost-constant : 1 ≡ cost (built Constant l)
  unfolding cost
  cost-constant = refl

  pub cost-raw : (r : ℕ) → r ≡ raw_cost l → r ≡ cost (built Raw l)
  cost-raw r e = e ∙ sym (cost-raw_form l)

  pub cost-family : (u x d : ℕ) → u ≡ singles l → x ≡ cost (or_chain u) → d ≡ digit (constant l) → x + 2 * d ≡ cost (built Family l)
  cost-family u x d e p q = omega (arith, atop-cost (constant l) (or_chain (singles l)), ap (λ (z : ℕ). cost (or_chain z)) e)

  pub cost-partial : (m x y : ℕ) (k : List ℕ) → k ≡ keep (λ z. not (mem z (family m))) l → x ≡ cost (or_chain m) → y ≡ cost (cleanup k)
      → x + y + 1 ≡ cost (XO (or_chain m) (cleanup (keep (λ z. not (mem z (family m))) l)))
  unfolding cost
  cost-partial m x y k e p q = omega (arith, ap (λ (z : List ℕ). cost (cleanup z)) e)

  module _ (c x y : ℕ) (p : x ≡ cost (cube c)) (q : y ≡ cost (cleanup (stripped c l))) (k : List ℕ) (e : k ≡ keep (λ m. not (within c m)) l) where
    -- the tree that rule 3 makes with the cube c
    abbrev factored : Tree
    factored = with_rest cleanup (AN (cube c) (cleanup (stripped c l))) (keep (λ m. not (within c m)) l)

    remaining : (n : ℕ) → n ≡ cost (with_rest cleanup (AN (cube c) (cleanup (stripped c l))) k) → n ≡ cost factored
    remaining n h = h ∙ ap (λ (z : List ℕ). cost (with_rest cleanup (AN (cube c) (cleanup (stripped c l))) z)) e

    pub cost-whole : length k ≡ 0 → x + y + 1 ≡ cost factored
    unfolding cost with_rest
    cost-whole h = remaining (x + y + 1) (go k h)
      where
        go : (r : List ℕ) → length r ≡ 0 → x + y + 1 ≡ cost (with_rest cleanup (AN (cube c) (cleanup (stripped c l))) r)
        go [] z = omega arith
        go (m ∷ r) z = absurd (omega arith)

    pub cost-rest : (z : ℕ) → (length k ≡ 0 → ⊥) → z ≡ cost (cleanup k) → x + y + 1 + z + 1 ≡ cost factored
    unfolding cost with_rest
    cost-rest z h s = remaining (x + y + 1 + z + 1) (go k h s)
      where
        go : (r : List ℕ) → (length r ≡ 0 → ⊥) → z ≡ cost (cleanup r)
            → x + y + 1 + z + 1 ≡ cost (with_rest cleanup (AN (cube c) (cleanup (stripped c l))) r)
        go [] n i = absurd (n refl)
        go (m ∷ r) n i = omega arith

  pub cost-absorption : (m o x y d : ℕ) → monomials l ≡ m ∷ o ∷ [] → bit_and m o ≡ m → x ≡ cost (cube m) → y ≡ cost (cube (o - m))
      → d ≡ digit (constant l) → x + y + 2 + 2 * d ≡ cost (built Absorption l)
  unfolding cost
  cost-absorption m o x y d e h p q r =
      omega (arith, ap cost (absorption-tree l m o e h), atop-cost (constant l) (AN (cube m) (NO (cube (o - m)))))
