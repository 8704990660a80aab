-- What a cleaned form costs at least, with its constant: the OR chain of the flags that occur, and 2 more for a constant 1, which every rule hands
-- down or pays for. It rests on the floor of a tree's cost (laws, Floor), on the unions of a form's parts (laws, Mentioned), on the cases of a turn
-- (laws, Turn) and on the costs of parts (laws, Cost).
--   constant-keep      == a part that keeps the mask 0 has the form's constant
--   literals-union     == a form has as many literals as flags that occur, or more
--   least-cleanup      == the cleaned form of a form in which a flag occurs costs at least that
use mathlib.Core.Bool.{Bool, true, false, not, ◌&&◌}
use mathlib.Core.List.{List, [], ◌∷◌}
use mathlib.Core.Path.{◌≡◌, refl, sym, ap, subst, ◌∙◌}
use mathlib.Mathlib.Data.Bool.Basic.{eq-false_of_not-eq-true}
use Prim.Native.Nat.{ℕ, ◌+◌, ◌-◌, ◌*◌, ◌≤◌, ◌<◌}
use native.Mathlib.Omega.{arith}
use lib.Bits.{bit_or, or_zero_r}
use lib.Count.{ones}
use lib.Dec.{ltb}
use lib.ListN.{length}
use borrow.Author.Tests.{ltb-true, ltb-false}
use Rattle.bits.specs.Bit.{digit, within}
use Rattle.bits.specs.Range.{keep, any, mem, Ascending}
use Rattle.bits.specs.Sum.{sum, union}
use Rattle.bits.proofs.Ascending.{ascending-keep}
use Rattle.bits.proofs.Bit.{digit-le}
use Rattle.bits.proofs.Fixed.{fixed-ind}
use Rattle.bits.proofs.Mask.{zero-ones, ones_pos, ones-sub, ones-or, zero-within, or-within}
use Rattle.bits.proofs.Range.{mem-keep}
use Rattle.rules.specs.Cleanup.{family, atop, singles, covered, stripped, with_rest, turn, cleanup}
use Rattle.rules.specs.Form.{cube, or_chain, raw_form, literals}
use Rattle.rules.specs.Monomial.{constant, monomials}
use Rattle.rules.specs.Tree.{Tree, AN, XO, NO, cost}
use Rattle.laws.proofs.cost.Cost.{cost-pos, cost-cube, cost-or_chain, cost-raw_form, term_cost-suc, raw-literals}
use Rattle.laws.proofs.form.Covered.{monomial-mem, pair-order, ascending-stripped}
use Rattle.laws.proofs.form.Family.{mem-family}
use Rattle.laws.proofs.cost.Floor.{floor, floor-le, floor-ge, floor-double, floor-or_chain, floor-cleanup}
use Rattle.laws.proofs.form.Literals.{literals-uncovered, literals-without}
use Rattle.laws.proofs.cost.Mentioned.{union-monomials, union-family, union-without, union-covered}
use Rattle.laws.proofs.value.Recursion.{cleanup-turn}
use Rattle.laws.proofs.value.Turn.{Partial, Common, turn-ind}

pub constant-keep : (p : ℕ → Bool) (l : List ℕ) → p 0 ≡ true → constant (keep p l) ≡ constant l
constant-keep p l h = mem-keep p l 0 ∙ go (mem 0 l) (p 0) h
  where
    go : (a b : Bool) → b ≡ true → (a && b) ≡ a
    go true b e = e
    go false b e = refl

pub literals-union : (l : List ℕ) → ones (union l) ≤ literals l
unfolding sum ones
literals-union [] = omega arith
literals-union (m ∷ l) = omega (arith, ones-or m (union l), literals-union l)

module _ (l : List ℕ) (a : Ascending l) (o : 0 < union l)
    (h : (x : List ℕ) → literals x < literals l → Ascending x → 0 < union x
    → floor (ones (union x)) + 2 * digit (constant x) ≤ cost (cleanup x)) where
  abbrev Least : Tree → Type 0
  Least t = floor (ones (union l)) + 2 * digit (constant l) ≤ cost t

  some : 0 < length l
  unfolding sum
  some = go l o
    where
      go : (k : List ℕ) → 0 < union k → 0 < length k
      go [] p = absurd (omega arith)
      go (m ∷ k) p = omega arith

  least-none : monomials l ≡ [] → ⊥
  unfolding sum
  least-none e = omega (arith, union-monomials l a, ap union e)

  least-raw : Least (raw_form l)
  least-raw =
      let k = ones (union l) in
      omega (arith, cost-raw_form l, raw-literals l a some, literals-union l, floor-double k (ones_pos (union l) o))

  -- a tree for the monomials, under the constant
  least-atop : (t : Tree) → floor (ones (union l)) ≤ cost t → Least (atop (constant l) t)
  unfolding cost atop
  least-atop t k = go (constant l)
    where
      go : (b : Bool) → floor (ones (union l)) + 2 * digit b ≤ cost (atop b t)
      go true = omega arith
      go false = omega arith

  least-whole : 0 < singles l → monomials l ≡ family (singles l) → Least (atop (constant l) (or_chain (singles l)))
  least-whole p e =
      let u : union l ≡ singles l = union-monomials l a ∙ ap union e ∙ union-family (singles l) p in
      least-atop (or_chain (singles l)) (omega (arith, ap (λ (m : ℕ). floor (ones m)) u, floor-or_chain (singles l)))

  -- a tree that names the flags of b, joined with the cleaned form of a part that keeps the constant
  least-joined : (t : Tree) (b : ℕ) (x : List ℕ) → ones b < cost t → literals x < literals l → Ascending x → constant x ≡ constant l
      → union l ≡ bit_or b (union x) → Least (XO t (cleanup x))
  unfolding cost
  least-joined t b x p less s e u =
      omega (arith, ap ones u, ones-or b (union x), floor-le (ones (union l)), go (ltb 0 (union x)) refl)
    where
      go : (z : Bool) → ltb 0 (union x) ≡ z → ones (union x) + 2 * digit (constant l) ≤ cost (cleanup x) + 1
      go true q = omega (arith, h x less s (ltb-true 0 (union x) q), ap digit e, floor-ge (ones (union x)))
      go false q = omega (arith, zero-ones (union x) (ltb-false 0 (union x) q), digit-le (constant l), cost-pos (cleanup x))

  least-part : (m : ℕ) → Partial l m → Least (XO (or_chain m) (cleanup (keep (λ x. not (mem x (family m))) l)))
  least-part m u =
      let less = literals-without m l u.nonzero (monomial-mem l m u.monomial).1 in
      least-joined (or_chain m) m (keep (λ x. not (mem x (family m))) l) (omega (arith, cost-or_chain m u.several)) less
      (ascending-keep (λ x. not (mem x (family m))) l a) (constant-keep (λ x. not (mem x (family m))) l (ap not (mem-family 0 m)))
      (union-without m l a u.nonzero u.subsets)

  least-common : (c : ℕ) → Common l c → Least (with_rest cleanup (AN (cube c) (cleanup (stripped c l))) (keep (λ m. not (within c m)) l))
  unfolding with_rest cost sum any
  least-common c u = go rest (literals-uncovered c l p q) (ascending-keep (λ m. not (within c m)) l a) kept (union-covered c l p q)
    where
      p : 0 < c
      p = u.nonzero

      q : 0 < length (covered c l)
      q = omega (arith, u.many)

      rest : List ℕ
      rest = keep (λ m. not (within c m)) l

      kept : constant rest ≡ constant l
      kept = constant-keep (λ m. not (within c m)) l (ap not (eq-false_of_not-eq-true (λ (e : within c 0 ≡ true). omega (arith, zero-within c e))))

      t : Tree
      t = AN (cube c) (cleanup (stripped c l))

      b : ℕ
      b = bit_or c (union (stripped c l))

      named : ones b < cost t
      named =
          omega (
            arith,
            ones-or c (union (stripped c l)),
            cost-cube c,
            term_cost-suc c p,
            ones_pos c p,
            floor-cleanup (stripped c l) (ascending-stripped c l a),
            floor-ge (ones (union (stripped c l))),
          )

      go : (x : List ℕ) → literals x < literals l → Ascending x → constant x ≡ constant l → union l ≡ bit_or b (union x) → Least
          (with_rest cleanup t x)
      go [] less s e w = omega (arith, named, ap digit e, ap ones (w ∙ or_zero_r b), floor-le (ones (union l)))
      go (m ∷ x) less s e w = least-joined t b (m ∷ x) named less s e w

  least-absorbed : (m o : ℕ) → monomials l ≡ m ∷ o ∷ [] → within m o ≡ true → Least (atop (constant l) (AN (cube m) (NO (cube (o - m)))))
  unfolding cost sum
  least-absorbed m n e w =
      let (p, up) = pair-order l a m n e in
      let u : union l ≡ n = union-monomials l a ∙ ap union e ∙ ap (bit_or m) (or_zero_r n) ∙ or-within m n w in
      least-atop (AN (cube m) (NO (cube (n - m))))
      (omega (
        arith,
        ap ones u,
        floor-le (ones (union l)),
        ones-sub m n w,
        ones_pos m p,
        cost-cube m,
        cost-cube (n - m),
        term_cost-suc m p,
        term_cost-suc (n - m) (omega arith),
      ))

  least-turn : Least (turn cleanup l)
  least-turn = turn-ind cleanup l Least (record {
    none = λ e. absurd (least-none e);
    raw = least-raw;
    whole = least-whole;
    part = least-part;
    common = least-common;
    absorbed = least-absorbed;
  })

pub least-cleanup : (l : List ℕ) → Ascending l → 0 < union l → cost (or_chain (union l)) + 2 * digit (constant l) ≤ cost (cleanup l)
least-cleanup l a o =
    subst (λ (n : ℕ). n + 2 * digit (constant l) ≤ cost (cleanup l)) (floor-or_chain (union l)) (go l a o)
  where
    go : (k : List ℕ) → Ascending k → 0 < union k → floor (ones (union k)) + 2 * digit (constant k) ≤ cost (cleanup k)
    go =
        fixed-ind literals (λ (k : List ℕ). Ascending k → 0 < union k → floor (ones (union k)) + 2 * digit (constant k) ≤ cost (cleanup k))
        (λ k ih s p. subst (λ (t : Tree). floor (ones (union k)) + 2 * digit (constant k) ≤ cost t) (sym (cleanup-turn k)) (least-turn k s p ih))
