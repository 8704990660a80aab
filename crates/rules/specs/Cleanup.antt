-- The cleanup of document 01: what the compiler writes for a form. Each rule is one definition; `turn g` is one turn of all of them, with g for
-- "the cleaned form of", and `cleanup` is its fixed point along the total literals, which fall at every call.
--   family u             == the nonempty subsets of the mask u, ascending
--   greatest f l         == the first element of l at which f is greatest, or 0 where f is 0 at all of them
--   covered c l          == the monomials that contain the whole cube c
--   stripped c l         == the covered monomials without the cube's flags; an emptied one is the mask 0, the constant 1
--   atop b t             == t, and with constant 1 the XO of CO 1 and t
use Rattle.std.specs.Prelude.{Bool, true, false, not, ◌&&◌, ◌||◌, ℕ, zero, suc, ◌-◌, ltb, leb, eqb, length}
use mathlib.Core.List.{List, [], ◌∷◌, ◌++◌, map, foldl}
use Rattle.std.specs.Int.Bits.{bit_and}
use Rattle.std.specs.Int.Count.{ones}
use Rattle.bits.specs.Bit.{within}
use Rattle.bits.specs.Fixed.{fixed}
use Rattle.bits.specs.Range.{from, keep, all, any, mem, same}
use Rattle.bits.specs.Sum.{union}
use Rattle.rules.specs.Form.{cube, or_chain, raw_form, raw_cost, literals}
use Rattle.rules.specs.Monomial.{constant, monomials}
use Rattle.rules.specs.Tree.{Tree, CO, AN, XO, NO, cost}

-- "the nonempty subsets of U"
unfoldable pub family : ℕ → List ℕ
family u = keep (λ m. within m u) (from 1 u)

-- "with constant 1, XO of CO 1 and that"
unfoldable pub atop : Bool → Tree → Tree
atop true t = XO (CO true) t
atop false t = t

-- ---- the greatest saving; "equal savings, the smallest": the candidates ascend, and only a strictly greater saving replaces the best

pub record Best : Type 0 where
  pub mask : ℕ
  pub saving : ℕ

unfoldable pub better : (ℕ → ℕ) → Best → ℕ → Best
better f b m = let s : ℕ = f m in elim (ltb b.saving s) [ true ↦ record { mask = m; saving = s } | false ↦ b ]

unfoldable pub greatest : (ℕ → ℕ) → List ℕ → ℕ
greatest f l = (foldl (better f) (record { mask = 0; saving = 0 }) l).mask

-- ---- "1. Whole OR family."

-- "Let U be all flags that occur as single-flag monomials."
unfoldable pub singles : List ℕ → ℕ
singles l = union (keep (λ m. eqb (ones m) 1) l)

-- "If U isn't empty and the monomials are exactly the nonempty subsets of U"
unfoldable pub is_family : List ℕ → Bool
is_family l = ltb 0 (singles l) && same (monomials l) (family (singles l))

-- ---- "2. Partial OR."

-- "monomials M of two or more flags, all of whose nonempty subsets are monomials and fewer than all"
unfoldable pub is_partial : List ℕ → ℕ → Bool
is_partial l m = leb 2 (ones m) && all (λ s. mem s l) (family m) && ltb (length (family m)) (length (monomials l))

-- "the greatest saving, raw cost of the family less the chain's cost"
unfoldable pub best_family : List ℕ → ℕ
best_family l = greatest (λ m. raw_cost (family m) - cost (or_chain m)) (keep (is_partial l) (monomials l))

-- "Candidate: XO of chain and cleaned remainder. The constant stays in the remainder."
unfoldable pub partial_at : (List ℕ → Tree) → List ℕ → ℕ → List Tree
partial_at g l zero = []
partial_at g l (suc m) = XO (or_chain (suc m)) (g (keep (λ x. not (mem x (family (suc m)))) l)) ∷ []

-- "At least 3 monomials."
unfoldable pub partial_or : (List ℕ → Tree) → List ℕ → List Tree
partial_or g l = elim (leb 3 (length (monomials l))) [ true ↦ partial_at g l (best_family l) | false ↦ [] ]

-- ---- "3. Common cube."

-- c is the intersection of two monomials of the list
unfoldable pub meets : List ℕ → ℕ → Bool
meets [] c = false
meets (a ∷ l) c = any (λ b. eqb (bit_and a b) c) l || meets l c

-- "The monomials that contain the whole cube, at least 2, are covered and are stripped of it; an emptied one becomes constant 1 of the stripped
-- form."
unfoldable pub covered : ℕ → List ℕ → List ℕ
covered c l = keep (λ m. within c m) (monomials l)

unfoldable pub stripped : ℕ → List ℕ → List ℕ
stripped c l = map (λ m. m - c) (covered c l)

-- "single flags that occur, and intersections of two monomials having two or more flags"; "at least 2, are covered"
unfoldable pub is_cube : List ℕ → ℕ → Bool
is_cube l c =
    (eqb (ones c) 1 && within c (union l) || leb 2 (ones c) && meets (monomials l) c) && leb 2 (length (covered c l))

-- "raw cost of the covered monomials, without the constant, less 1 less the cube's cost less the cleaned inner cost"; "it must be above 0",
-- which `greatest` sees to: a difference below 0 is 0 here, and a saving of 0 replaces nothing
unfoldable pub cube_saving : (List ℕ → Tree) → List ℕ → ℕ → ℕ
cube_saving g l c = raw_cost (covered c l) - 1 - cost (cube c) - cost (g (stripped c l))

-- "equal savings, the smallest cube"
unfoldable pub best_cube : (List ℕ → Tree) → List ℕ → ℕ
best_cube g l = greatest (cube_saving g l) (keep (is_cube l) (from 1 (union l)))

-- "in XO with the cleaned remainder .. unless that is empty with constant 0"
unfoldable pub with_rest : (List ℕ → Tree) → Tree → List ℕ → Tree
with_rest g t [] = t
with_rest g t (m ∷ l) = XO t (g (m ∷ l))

-- "Candidate: AN of cube and inner, in XO with the cleaned remainder (the monomials not covered, and the form's constant)"
unfoldable pub cube_at : (List ℕ → Tree) → List ℕ → ℕ → List Tree
cube_at g l zero = []
cube_at g l (suc c) =
    with_rest g (AN (cube (suc c)) (g (stripped (suc c) l))) (keep (λ m. not (within (suc c) m)) l) ∷ []

-- "At least 2 monomials."
unfoldable pub common_cube : (List ℕ → Tree) → List ℕ → List Tree
common_cube g l = elim (leb 2 (length (monomials l))) [ true ↦ cube_at g l (best_cube g l) | false ↦ [] ]

-- ---- "4. Absorption."

-- "Exactly 2 monomials, one a strict subset m of the other: AN of m and NO of the product of the other's remaining flags; with constant 1, XO
-- of CO 1 and that." The monomials ascend, so only the first can be the subset.
unfoldable pub absorb : Bool → List ℕ → List Tree
absorb k [] = []
absorb k (m ∷ []) = []
absorb k (m ∷ o ∷ []) = elim (within m o) [ true ↦ atop k (AN (cube m) (NO (cube (o - m)))) ∷ [] | false ↦ [] ]
absorb k (m ∷ o ∷ p ∷ l) = []

unfoldable pub absorption : List ℕ → List Tree
absorption l = absorb (constant l) (monomials l)

-- ---- the four together

-- "replace the best only if strictly cheaper"
unfoldable pub cheaper : Tree → Tree → Tree
cheaper best t = elim (ltb (cost t) (cost best)) [ true ↦ t | false ↦ best ]

-- "Start with the raw form. Candidates 2, 3, 4 in turn"
unfoldable pub contest : (List ℕ → Tree) → List ℕ → Tree
contest g l = foldl cheaper (raw_form l) (partial_or g l ++ common_cube g l ++ absorption l)

-- "No monomials: CO with the constant. Otherwise:" the whole family, or the contest
unfoldable pub turn : (List ℕ → Tree) → List ℕ → Tree
turn g l =
    elim (leb 1 (length (monomials l))) [
      | false ↦ CO (constant l)
      | true ↦ elim (is_family l) [ true ↦ atop (constant l) (or_chain (singles l)) | false ↦ contest g l ]
    ]

-- "total literals fall every time"
unfoldable pub cleanup : List ℕ → Tree
cleanup = fixed literals (CO false) turn
