-- What one turn of the cleanup can give: the raw form, or what one of its rules makes with any choice that the rule allows. So what holds of each of
-- these trees holds of the turn, whichever is cheapest.
-- It rests on the masks that the rules choose among (Recursion) and the laws of lists (bits, Range).
--   Partial l m          == the monomial m of l is one that rule 2 may choose
--   Common l c           == the cube c is one that rule 3 may choose in l
--   Turn g l P           == P holds of every tree that a turn at l may give, with g for "the cleaned form of"
--   may_part             == a mask that rule 2 chooses among is one that it may choose
--   turn-ind             == then it holds of the turn
use mathlib.Core.Bool.{Bool, true, false, not, ◌&&◌}
use mathlib.Core.List.{List, [], ◌∷◌, ◌++◌, foldl}
use mathlib.Core.Path.{◌≡◌, refl, sym, ◌∙◌}
use Prim.Native.Nat.{ℕ, zero, suc, ◌-◌, ◌≤◌, ◌<◌}
use native.Mathlib.Omega.{arith}
use lib.Count.{ones}
use lib.Dec.{ltb, leb}
use lib.ListN.{length}
use borrow.Author.Tests.{ltb-true, leb-true, leb-false}
use Rattle.bits.specs.Bit.{within}
use Rattle.bits.specs.Range.{keep, all, mem, same}
use Rattle.bits.proofs.Every.{Every, every_append}
use Rattle.bits.proofs.Truth.{and-true-l, and_true_r}
use Rattle.bits.proofs.Range.{mem-keep, same_true}
use Rattle.rules.specs.Cleanup.{family, atop, singles, is_family, is_partial, best_family, partial_at, partial_or, covered, stripped, cube_saving}
use Rattle.rules.specs.Cleanup.{best_cube, with_rest, cube_at, common_cube, absorb, absorption, cheaper, contest, turn}
use Rattle.rules.specs.Form.{cube, or_chain, raw_form}
use Rattle.rules.specs.Monomial.{constant, monomials}
use Rattle.rules.specs.Tree.{Tree, CO, AN, XO, NO, cost}
use Rattle.laws.proofs.form.Greatest.{greatest-suc}
use Rattle.laws.proofs.value.Recursion.{families, cubes, families-mem, cubes-mem}

pub record Partial (l : List ℕ) (m : ℕ) : Type 0 where
  pub nonzero : 0 < m
  pub monomial : mem m (monomials l) ≡ true
  pub several : 2 ≤ ones m
  pub subsets : all (λ s. mem s l) (family m) ≡ true
  pub fewer : length (family m) < length (monomials l)

pub record Common (l : List ℕ) (c : ℕ) : Type 0 where
  pub nonzero : 0 < c
  pub many : 2 ≤ length (covered c l)

pub record Turn (g : List ℕ → Tree) (l : List ℕ) (P : Tree → Type 0) : Type 0 where
  pub none : monomials l ≡ [] → P (CO (constant l))
  pub raw : P (raw_form l)
  pub whole : 0 < singles l → monomials l ≡ family (singles l) → P (atop (constant l) (or_chain (singles l)))
  pub part : (m : ℕ) → Partial l m → P (XO (or_chain m) (g (keep (λ x. not (mem x (family m))) l)))
  pub common : (c : ℕ) → Common l c → P (with_rest g (AN (cube c) (g (stripped c l))) (keep (λ m. not (within c m)) l))
  pub absorbed : (m o : ℕ) → monomials l ≡ m ∷ o ∷ [] → within m o ≡ true → P (atop (constant l) (AN (cube m) (NO (cube (o - m)))))

-- ---- choices

-- a branch, by the test's value
pick : {A : Type 0} (Q : A → Type 0) (b : Bool) (x y : A) → (b ≡ true → Q x) → (b ≡ false → Q y) → Q (elim b [ true ↦ x | false ↦ y ])
pick Q true x y h k = h refl
pick Q false x y h k = k refl

cheaper-ind : (P : Tree → Type 0) (ts : List Tree) (t : Tree) → P t → Every P ts → P (foldl cheaper t ts)
unfolding cheaper
cheaper-ind P [] t p h = p
cheaper-ind P (u ∷ ts) t p h = cheaper-ind P ts (cheaper t u) (pick P (ltb (cost u) (cost t)) u t (λ e. h.0) (λ e. p)) h.1

pub may_part : (l : List ℕ) (m : ℕ) → mem m (families l) ≡ true → Partial l m
unfolding is_partial
may_part l m e =
    let both = sym (mem-keep (is_partial l) (monomials l) m) ∙ e in
    let test = and_true_r (mem m (monomials l)) (is_partial l m) both in
    let several = leb 2 (ones m) in
    let subsets = all (λ s. mem s l) (family m) in
    let fewer = ltb (length (family m)) (length (monomials l)) in
    let front = and-true-l (several && subsets) fewer test in
    record {
      nonzero = (families-mem l m e).0;
      monomial = and-true-l (mem m (monomials l)) (is_partial l m) both;
      several = leb-true 2 (ones m) (and-true-l several subsets front);
      subsets = and_true_r several subsets front;
      fewer = ltb-true (length (family m)) (length (monomials l)) (and_true_r (several && subsets) fewer test);
    }

module _ (g : List ℕ → Tree) (l : List ℕ) (P : Tree → Type 0) (h : Turn g l P) where
  partial-at : (m : ℕ) → best_family l ≡ m → Every P (partial_at g l m)
  unfolding partial_at best_family
  partial-at zero e = tt
  partial-at (suc m) e = (h.part (suc m) (may_part l (suc m) (greatest-suc _ (families l) m e)), tt)

  partial-every : Every P (partial_or g l)
  unfolding partial_or
  partial-every = pick (Every P) (leb 3 (length (monomials l))) (partial_at g l (best_family l)) [] (λ e. partial-at (best_family l) refl) (λ e. tt)

  cube-at : (c : ℕ) → best_cube g l ≡ c → Every P (cube_at g l c)
  unfolding cube_at best_cube
  cube-at zero e = tt
  cube-at (suc c) e =
      let u = cubes-mem l (suc c) (greatest-suc (cube_saving g l) (cubes l) c e) in
      (h.common (suc c) (record { nonzero = u.0; many = u.1 }), tt)

  common-every : Every P (common_cube g l)
  unfolding common_cube
  common-every = pick (Every P) (leb 2 (length (monomials l))) (cube_at g l (best_cube g l)) [] (λ e. cube-at (best_cube g l) refl) (λ e. tt)

  absorb-every : Every P (absorption l)
  unfolding absorption absorb
  absorb-every = go (monomials l) refl
    where
      go : (k : List ℕ) → monomials l ≡ k → Every P (absorb (constant l) k)
      go [] e = tt
      go (m ∷ []) e = tt
      go (m ∷ o ∷ []) e =
          pick (Every P) (within m o) (atop (constant l) (AN (cube m) (NO (cube (o - m)))) ∷ []) [] (λ w. (h.absorbed m o e w, tt)) (λ w. tt)
      go (m ∷ o ∷ p ∷ k) e = tt

  contest-ind : P (contest g l)
  unfolding contest
  contest-ind =
      cheaper-ind P (partial_or g l ++ common_cube g l ++ absorption l) (raw_form l) h.raw
      (every_append P (partial_or g l ++ common_cube g l) (absorption l)
      (every_append P (partial_or g l) (common_cube g l) partial-every common-every) absorb-every)

  pub turn-ind : P (turn g l)
  unfolding turn is_family
  turn-ind =
      pick P (leb 1 (length (monomials l)))
      (elim (is_family l) [ true ↦ atop (constant l) (or_chain (singles l)) | false ↦ contest g l ]) (CO (constant l))
      (λ e. pick P (is_family l) (atop (constant l) (or_chain (singles l))) (contest g l)
      (λ w. h.whole (ltb-true 0 (singles l) (and-true-l _ (same (monomials l) (family (singles l))) w))
      (same_true (monomials l) (family (singles l)) (and_true_r (ltb 0 (singles l)) _ w)))
      (λ w. contest-ind))
      (λ e. h.none (empty (monomials l) (leb-false 1 (length (monomials l)) e)))
    where
      empty : (k : List ℕ) → length k < 1 → k ≡ []
      empty [] p = refl
      empty (x ∷ k) p = absurd (omega arith)
