-- What a cube saves, from the literals of the monomials that it covers, and the most that it can save. It rests on the literals of covered monomials
-- (laws, Literals), on raw cost by literals (laws, Cost), and on the cleanup's cost and what it is at least (laws, Size; Least).
--   Candidate l c k, candidate-of  == c is a candidate cube of the form l, and k is its stripped form; so of a form in code
--   inner-many                     == then k has two masks or more
--   gross-literals, gross-room     == the gross saving by the covered monomials' literals, which are enough for it
--   inner-bounds                   == no number of these is above the next: the least that k can cost, its cost cleaned and raw, the gross saving
--   known-cube                     == what is known of a candidate from its gross saving and its cleaned inner form
--   known-planned                  == so of the code's, from the plan of its inner form
--   tried-passed                   == a cube that would not save more even with an inner form of the least cost does not
use mathlib.Core.Bool.{Bool, true, false}
use mathlib.Core.List.{List}
use mathlib.Core.Path.{◌≡◌, refl, sym, ap, ap₂, subst, ◌∙◌}
use mathlib.Mathlib.Data.Bool.Basic.{eq-false_of_not-eq-true}
use Rattle.std.specs.Prelude.{Option, None}
use Prim.Native.Nat.{ℕ, ◌+◌, ◌-◌, ◌*◌, ◌≤◌, ◌<◌}
use native.Mathlib.Nat.{mul-le-mul_right}
use native.Mathlib.Omega.{arith}
use lib.Count.{ones}
use lib.ListN.{length, length-map}
use Rattle.bits.specs.Bit.{digit}
use Rattle.bits.specs.Range.{Ascending}
use Rattle.bits.proofs.Bit.{digit-le}
use Rattle.bits.proofs.Mask.{zero-within, ones_pos}
use Rattle.rules.specs.Cleanup.{cleanup, covered, stripped, is_cube, cube_saving}
use Rattle.rules.specs.Form.{cube, raw_cost, literals}
use Rattle.rules.specs.Monomial.{constant}
use Rattle.rules.specs.Tree.{cost}
use Rattle.laws.proofs.cost.Cost.{cost-cube, term_cost-suc, raw-literals}
use Rattle.laws.proofs.form.Covered.{covered-within, ascending-covered, ascending-stripped}
use Rattle.anf_cleanup.proofs.Least.{least-cleanup}
use Rattle.laws.proofs.form.Literals.{literals-covered}
use Rattle.laws.proofs.value.Recursion.{is_cube-many}
use Rattle.laws.proofs.cost.Size.{cost-cleanup}
use Rattle.form.specs.Masks.{masks}
use Rattle.form.specs.declared.Form.{Form}
use Rattle.form.proofs.Masks.{ascending-masks}
use Rattle.mask_words.specs.declared.mask.Monomial.{Monomial}
use Rattle.anf_cleanup.specs.Inner.{gross, least, Known, Tried}
use Rattle.anf_cleanup.specs.Plan.{Right, Planned}
use Rattle.anf_cleanup.specs.declared.Choice.{Choice}
use Rattle.anf_cleanup.specs.declared.Plan.{Plan}
use Rattle.anf_cleanup.proofs.Bounds.{union-some}

-- ---- what a cube saves

pub record Candidate (l : List ℕ) (c : ℕ) (k : List ℕ) : Type 0 where
  pub rises : Ascending l
  pub nonzero : 0 < c
  pub test : is_cube l c ≡ true
  pub inner : k ≡ stripped c l

pub candidate-of : (f : Form) (c : Monomial) (k : List ℕ) {t : Bool} → t ≡ is_cube (masks f) c.mask.bits → t ≡ true
    → k ≡ stripped c.mask.bits (masks f) → Candidate (masks f) c.mask.bits k
candidate-of f c k e t q = record { rises = ascending-masks f; nonzero = c.some; test = sym e ∙ t; inner = q }

module _ (l : List ℕ) (c : ℕ) (k : List ℕ) (u : Candidate l c k) where
  size : length k ≡ length (covered c l)
  unfolding stripped
  size = ap length u.inner ∙ length-map (covered c l) (λ m. m - c)

  rising : Ascending k
  rising = subst Ascending (sym u.inner) (ascending-stripped c l u.rises)

  no-constant : constant (covered c l) ≡ false
  no-constant = eq-false_of_not-eq-true (λ e. omega (arith, u.nonzero, zero-within c (covered-within c l 0 e)))

  pub inner-many : 2 ≤ length k
  inner-many = omega (arith, size, is_cube-many l c u.test)

  -- the cube's flags in every covered monomial, which are two or more
  shared : literals k + 2 * ones c ≤ literals (covered c l)
  shared = omega (arith, literals-covered c l, ap literals u.inner, mul-le-mul_right (ones c) (is_cube-many l c u.test))

  pub gross-room : 2 + cost (cube c) ≤ 2 * literals (covered c l)
  gross-room = omega (arith, shared, cost-cube c, term_cost-suc c u.nonzero, ones_pos c u.nonzero)

  pub gross-literals : 2 * literals (covered c l) - 2 - cost (cube c) ≡ gross c l
  unfolding gross
  gross-literals =
      omega (
        arith,
        gross-room,
        ap digit no-constant,
        raw-literals (covered c l) (ascending-covered c l u.rises) (omega (arith, size, inner-many)),
      )

  pub inner-bounds : (least k ≤ cost (cleanup k)) × (cost (cleanup k) ≤ raw_cost k) × (raw_cost k ≤ gross c l)
  unfolding least
  inner-bounds = (
    least-cleanup k rising (union-some k rising inner-many),
    cost-cleanup k rising,
    omega (
      arith,
      gross-literals,
      gross-room,
      shared,
      cost-cube c,
      term_cost-suc c u.nonzero,
      ones_pos c u.nonzero,
      raw-literals k rising (omega (arith, inner-many)),
      digit-le (constant k),
    ),
  )

  cost-stripped : (n : ℕ) → n ≡ cost (cleanup k) → n ≡ cost (cleanup (stripped c l))
  cost-stripped n e = e ∙ ap (λ (x : List ℕ). cost (cleanup x)) u.inner

  saving-cube : (g n : ℕ) → g ≡ gross c l → n ≡ cost (cleanup k) → g - n ≡ cube_saving cleanup l c
  unfolding cube_saving gross
  saving-cube g n p q = ap₂ (λ (x y : ℕ). x - y) p (cost-stripped n q)

-- ---- a cube that is tried

module _ (l : List ℕ) (c : ℕ) (k : List ℕ) (u : Candidate l c k) where
  pub known-cube : (g n : ℕ) (o : Option Choice) → g ≡ gross c l → n ≡ cost (cleanup k) → Right o k
      → (is_cube l c ≡ true) × (g - n ≡ cube_saving cleanup l c) × (n ≡ cost (cleanup (stripped c l))) × Right o (stripped c l)
  known-cube g n o p q r = (u.test, saving-cube l c k u g n p q, cost-stripped l c k u n q, subst (Right o) u.inner r)

  pub tried-passed : (s : ℕ) → gross c l - least k ≤ s → Tried l c s None
  tried-passed s h = λ _. omega (arith, saving-cube l c k u (gross c l) (cost (cleanup k)) refl refl, inner-bounds l c k u)

module _ (l : List ℕ) (b : Monomial) (k : List ℕ) (u : Candidate l b.mask.bits k) where
  pub known-planned : (g : ℕ) (p : Plan) → g ≡ gross b.mask.bits l → Planned k (cleanup k) p
      → Known l (record { cube = b; saving = g - p.cost; inner = p })
  known-planned g p e h = record {
    test = u.test;
    saving = saving-cube l b.mask.bits k u g p.cost e h.costs;
    inner = subst (λ (x : List ℕ). Planned x (cleanup x) p) u.inner h;
  }
