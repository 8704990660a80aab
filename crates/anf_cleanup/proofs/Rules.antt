-- The cleanup's equations, one for each path of the code: which case of a turn a form is, and which candidate a rule has. Each tree is named by the
-- choice that makes it. They rest on the cleanup's own equation (laws, Recursion) and on the chosen masks (Candidates).
--   cleanup-constant, cleanup-family, cleanup-contest   == no monomials; a whole family; the contest, rule by rule
--   family-singles                                      == a whole family has a single flag
--   partial_or-few, common_cube-few                       == with too few monomials, rules 2 and 3 have no candidate
--   partial_or-none, partial_or-some                      == rule 2, by the best family's mask
--   common_cube-none, common_cube-some                    == rule 3, by the best cube
--   partial_or-built, common_cube-built                   == so of masks of the code
--   absorption-none, absorption-apart, absorption-some  == rule 4: not two monomials; two, by whether the first is a subset
--   absorption-tree                                     == the candidate of rule 4
use mathlib.Core.Bool.{Bool, true, false, not}
use mathlib.Core.List.{List, [], ◌∷◌, ◌++◌, foldl, foldl-append}
use mathlib.Core.Path.{◌≡◌, refl, sym, ap, ap₂, ◌∙◌}
use Prim.Native.Nat.{ℕ, zero, suc, ◌-◌, ◌<◌}
use native.Mathlib.Omega.{arith}
use lib.Bits.{bit_and}
use lib.Dec.{ltb, leb}
use lib.ListN.{length}
use borrow.Author.Tests.{ltb-true, le-leb, lt-leb, eq-eqb, ne_eqb}
use Rattle.bits.specs.Bit.{within}
use Rattle.bits.specs.Range.{keep, mem, same}
use Rattle.bits.proofs.Truth.{and-true-l}
use Rattle.rules.specs.Cleanup.{family, atop, stripped, with_rest, singles, is_family, best_family, partial_at, partial_or, best_cube}
use Rattle.rules.specs.Cleanup.{cube_at, common_cube, absorb, absorption, cheaper, contest, turn, cleanup}
use Rattle.rules.specs.Form.{cube, or_chain, raw_form}
use Rattle.rules.specs.Monomial.{constant, monomials}
use Rattle.rules.specs.Tree.{Tree, AN, NO, XO}
use Rattle.laws.proofs.value.Recursion.{cleanup-turn}
use Rattle.mask_words.specs.declared.mask.Monomial.{Monomial}
use Rattle.anf_cleanup.specs.Plan.{only, built}
use Rattle.anf_cleanup.specs.declared.Choice.TheVariants.{Constant, Family, Partial, Cube, Absorption}
use Rattle.anf_cleanup.proofs.Candidates.{family-many, cube-many}

-- ---- a turn

module _ (l : List ℕ) where
  abbrev cases : Bool → Bool → Tree
  cases false b = built Constant l
  cases true b = elim b [ true ↦ built Family l | false ↦ contest cleanup l ]

  turned : (a b : Bool) → leb 1 (length (monomials l)) ≡ a → is_family l ≡ b → cleanup l ≡ cases a b
  unfolding turn
  turned a b p q = cleanup-turn l ∙ go (leb 1 (length (monomials l))) ∙ ap₂ cases p q
    where
      go : (x : Bool) → elim x as (λ _. Tree) [ true ↦ cases true (is_family l) | false ↦ built Constant l ] ≡ cases x (is_family l)
      go true = refl
      go false = refl

  pub cleanup-constant : length (monomials l) ≡ 0 → cleanup l ≡ built Constant l
  cleanup-constant e = turned false (is_family l) (lt-leb 1 (length (monomials l)) (omega arith)) refl

  module _ (p : length (monomials l) ≡ 0 → ⊥) where
    some : leb 1 (length (monomials l)) ≡ true
    some = le-leb 1 (length (monomials l)) (omega arith)

    pub cleanup-family : is_family l ≡ true → cleanup l ≡ built Family l
    cleanup-family e = turned true true some e

    pub cleanup-contest : is_family l ≡ false
        → cleanup l ≡ foldl cheaper (foldl cheaper (foldl cheaper (raw_form l) (partial_or cleanup l)) (common_cube cleanup l)) (absorption l)
    unfolding contest
    cleanup-contest e =
        turned true false some e ∙ foldl-append cheaper (raw_form l) (partial_or cleanup l ++ common_cube cleanup l) (absorption l)
        ∙ ap (λ (t : Tree). foldl cheaper t (absorption l)) (foldl-append cheaper (raw_form l) (partial_or cleanup l) (common_cube cleanup l))

pub family-singles : (l : List ℕ) → is_family l ≡ true → 0 < singles l
unfolding is_family
family-singles l e = ltb-true 0 (singles l) (and-true-l (ltb 0 (singles l)) (same (monomials l) (family (singles l))) e)

-- ---- rules 2 and 3

-- a rule that asks for some number of monomials
abbrev gated : Bool → List Tree → List Tree
gated b us = elim b [ true ↦ us | false ↦ [] ]

gated-none : (b : Bool) (us : List Tree) → us ≡ [] → gated b us ≡ []
gated-none true us e = e
gated-none false us e = refl

pub partial_or-few : (l : List ℕ) → length (monomials l) < 3 → partial_or cleanup l ≡ []
unfolding partial_or
partial_or-few l h = ap (λ (b : Bool). gated b (partial_at cleanup l (best_family l))) (lt-leb 3 (length (monomials l)) h)

pub common_cube-few : (l : List ℕ) → length (monomials l) < 2 → common_cube cleanup l ≡ []
unfolding common_cube
common_cube-few l h = ap (λ (b : Bool). gated b (cube_at cleanup l (best_cube cleanup l))) (lt-leb 2 (length (monomials l)) h)

module _ (l : List ℕ) where
  pub partial_or-none : best_family l ≡ 0 → partial_or cleanup l ≡ []
  unfolding partial_or partial_at
  partial_or-none e = gated-none (leb 3 (length (monomials l))) (partial_at cleanup l (best_family l)) (ap (partial_at cleanup l) e)

  pub partial_or-some : (m : ℕ) → m ≡ best_family l → 0 < m
      → partial_or cleanup l ≡ XO (or_chain m) (cleanup (keep (λ x. not (mem x (family m))) l)) ∷ []
  unfolding partial_or partial_at
  partial_or-some m e p =
      ap₂ (λ (b : Bool) (x : ℕ). gated b (partial_at cleanup l x)) (le-leb 3 (length (monomials l)) (family-many l m e p)) (sym e) ∙ at m p
    where
      at : (x : ℕ) → 0 < x → partial_at cleanup l x ≡ XO (or_chain x) (cleanup (keep (λ y. not (mem y (family x))) l)) ∷ []
      at zero h = absurd (omega arith)
      at (suc x) h = refl

  pub partial_or-built : (m : Monomial) → m.mask.bits ≡ best_family l → partial_or cleanup l ≡ built (Partial m) l ∷ []
  partial_or-built m e = partial_or-some m.mask.bits e m.some

  pub common_cube-none : best_cube cleanup l ≡ 0 → common_cube cleanup l ≡ []
  unfolding common_cube cube_at
  common_cube-none e = gated-none (leb 2 (length (monomials l))) (cube_at cleanup l (best_cube cleanup l)) (ap (cube_at cleanup l) e)

  pub common_cube-some : (c : ℕ) → c ≡ best_cube cleanup l → 0 < c
      → common_cube cleanup l ≡ with_rest cleanup (AN (cube c) (cleanup (stripped c l))) (keep (λ m. not (within c m)) l) ∷ []
  unfolding common_cube cube_at
  common_cube-some c e p =
      ap₂ (λ (b : Bool) (x : ℕ). gated b (cube_at cleanup l x)) (le-leb 2 (length (monomials l)) (cube-many l c e p)) (sym e) ∙ at c p
    where
      at : (x : ℕ) → 0 < x
          → cube_at cleanup l x ≡ with_rest cleanup (AN (cube x) (cleanup (stripped x l))) (keep (λ m. not (within x m)) l) ∷ []
      at zero h = absurd (omega arith)
      at (suc x) h = refl

  pub common_cube-built : (c : Monomial) → c.mask.bits ≡ best_cube cleanup l → common_cube cleanup l ≡ built (Cube c) l ∷ []
  common_cube-built c e = common_cube-some c.mask.bits e c.some

-- ---- rule 4

module _ (l : List ℕ) where
  pub absorption-none : (length (monomials l) ≡ 2 → ⊥) → absorption l ≡ []
  unfolding absorption absorb
  absorption-none h = go (monomials l) h
    where
      go : (k : List ℕ) → (length k ≡ 2 → ⊥) → absorb (constant l) k ≡ []
      go [] n = refl
      go (m ∷ []) n = refl
      go (m ∷ o ∷ []) n = absurd (n refl)
      go (m ∷ o ∷ q ∷ k) n = refl

  module _ (m o : ℕ) (e : monomials l ≡ m ∷ o ∷ []) where
    absorbed : (b : Bool) → within m o ≡ b → absorption l ≡ gated b (atop (constant l) (AN (cube m) (NO (cube (o - m)))) ∷ [])
    unfolding absorption absorb
    absorbed b w = ap (absorb (constant l)) e ∙ ap (λ (x : Bool). gated x (atop (constant l) (AN (cube m) (NO (cube (o - m)))) ∷ [])) w

    pub absorption-apart : (bit_and m o ≡ m → ⊥) → absorption l ≡ []
    unfolding within
    absorption-apart h = absorbed false (ne_eqb (bit_and m o) m h)

    module _ (h : bit_and m o ≡ m) where
      candidate : absorption l ≡ atop (constant l) (AN (cube m) (NO (cube (o - m)))) ∷ []
      unfolding within
      candidate = absorbed true (eq-eqb (bit_and m o) m h)

      pub absorption-tree : built Absorption l ≡ atop (constant l) (AN (cube m) (NO (cube (o - m))))
      absorption-tree = ap (only (raw_form l)) candidate

      pub absorption-some : absorption l ≡ built Absorption l ∷ []
      absorption-some = candidate ∙ ap {B = List Tree} (λ t. t ∷ []) (sym absorption-tree)
