-- The cleanup is its own turn: `cleanup l ≡ turn cleanup l`, with no guard, because every form that a turn asks for has fewer literals.
-- It rests on the literals of the parts of a form (Literals), the best choice (Greatest) and the fixed point along a measure (bits, Fixed).
--   families l, cubes l          == the masks that rules 2 and 3 choose among
--   is_cube-many                  == a candidate cube covers two monomials
--   families-mem, cubes-mem      == each of the first is a monomial of l; each of the second is not 0 and covers two monomials
--   turn-ext                     == a turn is settled by the cleaned forms of fewer literals
--   cleanup-turn                 == the cleanup's equation
use mathlib.Core.Bool.{true, false, not, ◌&&◌, ◌||◌}
use mathlib.Core.List.{List, [], ◌∷◌, ◌++◌, foldl}
use mathlib.Core.Path.{◌≡◌, refl, sym, ap, ap₂, ◌∙◌}
use Prim.Native.Nat.{ℕ, zero, suc, ◌+◌, ◌-◌, ◌≤◌, ◌<◌}
use native.Mathlib.Omega.{arith}
use lib.Count.{ones}
use lib.Dec.{ltb, leb, eqb}
use lib.ListN.{length}
use borrow.Author.Tests.{leb-true}
use Rattle.bits.specs.Bit.{within}
use Rattle.bits.specs.Fixed.{below}
use Rattle.bits.specs.Range.{from, keep, mem}
use Rattle.bits.specs.Sum.{union}
use Rattle.bits.proofs.Truth.{and-true-l, and_true_r}
use Rattle.bits.proofs.Fixed.{below_less, fixed-step}
use Rattle.bits.proofs.Range.{mem-keep, mem-from}
use Rattle.rules.specs.Cleanup.{
  atop,
  singles,
  is_family,
  is_partial,
  best_family,
  partial_at,
  partial_or,
  meets,
  covered,
  stripped,
  is_cube,
  cube_saving,
}
use Rattle.rules.specs.Cleanup.{best_cube, with_rest, cube_at, common_cube, absorption, cheaper, contest, turn, cleanup}
use Rattle.rules.specs.Form.{cube, or_chain, raw_form, raw_cost, literals}
use Rattle.rules.specs.Monomial.{constant, monomials}
use Rattle.rules.specs.Tree.{Tree, CO, AN, XO, cost}
use Rattle.laws.proofs.form.Covered.{monomial-mem}
use Rattle.laws.proofs.form.Greatest.{greatest-suc, greatest-ext}
use Rattle.laws.proofs.form.Literals.{literals-stripped, literals-uncovered, literals-without}

abbrev pub families : List ℕ → List ℕ
families l = keep (is_partial l) (monomials l)

abbrev pub cubes : List ℕ → List ℕ
cubes l = keep (is_cube l) (from 1 (union l))

pub families-mem : (l : List ℕ) (m : ℕ) → mem m (families l) ≡ true → (0 < m) × (mem m l ≡ true)
families-mem l m e = monomial-mem l m (and-true-l (mem m (monomials l)) (is_partial l m) (sym (mem-keep (is_partial l) (monomials l) m) ∙ e))

pub is_cube-many : (l : List ℕ) (c : ℕ) → is_cube l c ≡ true → 2 ≤ length (covered c l)
unfolding is_cube
is_cube-many l c e =
    let candidate = eqb (ones c) 1 && within c (union l) || leb 2 (ones c) && meets (monomials l) c in
    leb-true 2 (length (covered c l)) (and_true_r candidate _ e)

pub cubes-mem : (l : List ℕ) (c : ℕ) → mem c (cubes l) ≡ true → (0 < c) × (2 ≤ length (covered c l))
cubes-mem l c e =
    let both = sym (mem-keep (is_cube l) (from 1 (union l)) c) ∙ e in
    let range = sym (mem-from 1 (union l) c) ∙ and-true-l (mem c (from 1 (union l))) (is_cube l c) both in
    let test = and_true_r (mem c (from 1 (union l))) (is_cube l c) both in
    (leb-true 1 c (and-true-l (leb 1 c) (ltb c (1 + union l)) range), is_cube-many l c test)

module _ (g h : List ℕ → Tree) (l : List ℕ) (e : (x : List ℕ) → literals x < literals l → g x ≡ h x) where
  partial_at-ext : (m : ℕ) → best_family l ≡ m → partial_at g l m ≡ partial_at h l m
  unfolding partial_at best_family
  partial_at-ext zero q = refl
  partial_at-ext (suc m) q =
      let u = families-mem l (suc m) (greatest-suc _ (families l) m q) in
      ap {B = List Tree} (λ t. XO (or_chain (suc m)) t ∷ []) (e _ (literals-without (suc m) l u.0 u.1))

  module _ (c : ℕ) (t : mem c (cubes l) ≡ true) where
    stripped-ext : g (stripped c l) ≡ h (stripped c l)
    stripped-ext = let u = cubes-mem l c t in e (stripped c l) (literals-stripped c l u.0 (omega arith))

    rest-ext : g (keep (λ m. not (within c m)) l) ≡ h (keep (λ m. not (within c m)) l)
    rest-ext = let u = cubes-mem l c t in e (keep (λ m. not (within c m)) l) (literals-uncovered c l u.0 (omega arith))

    saving-ext : cube_saving g l c ≡ cube_saving h l c
    unfolding cube_saving
    saving-ext = ap (λ (t : Tree). raw_cost (covered c l) - 1 - cost (cube c) - cost t) stripped-ext

  best_cube-ext : best_cube g l ≡ best_cube h l
  unfolding best_cube
  best_cube-ext = greatest-ext (cube_saving g l) (cube_saving h l) (cubes l) saving-ext

  with_rest-ext : (t : Tree) (k : List ℕ) → g k ≡ h k → with_rest g t k ≡ with_rest h t k
  unfolding with_rest
  with_rest-ext t [] q = refl
  with_rest-ext t (m ∷ k) q = ap (XO t) q

  cube_at-ext : (c : ℕ) → best_cube h l ≡ c → cube_at g l c ≡ cube_at h l c
  unfolding cube_at best_cube
  cube_at-ext zero q = refl
  cube_at-ext (suc c) q =
      let t = greatest-suc (cube_saving h l) (cubes l) c q in
      let rest = keep (λ m. not (within (suc c) m)) l in
      ap {B = List Tree} (λ x. with_rest g (AN (cube (suc c)) x) rest ∷ []) (stripped-ext (suc c) t)
      ∙ ap {B = List Tree} (λ x. x ∷ []) (with_rest-ext (AN (cube (suc c)) (h (stripped (suc c) l))) rest (rest-ext (suc c) t))

  contest-ext : contest g l ≡ contest h l
  unfolding contest partial_or common_cube
  contest-ext =
      ap₂ (λ (ps cs : List Tree). foldl cheaper (raw_form l) (elim (leb 3 (length (monomials l))) as (λ _. List Tree) [ true ↦ ps | false ↦ [] ]
      ++ elim (leb 2 (length (monomials l))) as (λ _. List Tree) [ true ↦ cs | false ↦ [] ] ++ absorption l))
      (partial_at-ext (best_family l) refl) (ap (cube_at g l) best_cube-ext ∙ cube_at-ext (best_cube h l) refl)

  pub turn-ext : turn g l ≡ turn h l
  unfolding turn
  turn-ext = ap (λ (t : Tree). elim (leb 1 (length (monomials l))) as (λ _. Tree) [
    | false ↦ CO (constant l)
    | true ↦ elim (is_family l) as (λ _. Tree) [ true ↦ atop (constant l) (or_chain (singles l)) | false ↦ t ]
  ]) contest-ext

pub cleanup-turn : (l : List ℕ) → cleanup l ≡ turn cleanup l
unfolding cleanup
cleanup-turn l =
    fixed-step literals (CO false) turn l
    ∙ turn-ext (below literals (CO false) cleanup l) cleanup l (λ x h. below_less literals (CO false) cleanup l x h)
