-- Rows of the parts that the cleanup is put together from, computed with the definitions: products and chains, the balanced fold, raw costs,
-- and the tests and savings of each rule. The values are read from document 01's sentences, which the comments quote; nothing here came from a
-- program.
use mathlib.Core.Bool.{Bool, true, false, not, ◌&&◌}
use mathlib.Core.List.{List, [], ◌∷◌}
use Prim.Native.Nat.{◌-◌}
use Prim.Native.String.{String}
use lib.Dec.{T, eqb}
use Rattle.bits.specs.Range.{same}
use Rattle.rules.specs.Cleanup.{family, atop, greatest, singles, is_family, is_partial, best_family, covered, stripped, is_cube}
use Rattle.rules.specs.Cleanup.{partial_or, cube_saving, best_cube, cube_at, common_cube, absorption, cheaper, cleanup}
use Rattle.rules.specs.Form.{flags, cube, or_chain, folded, raw_form, term_cost, raw_cost, literals}
use Rattle.rules.specs.Tree.{Tree, VA, AN, NO}
use Rattle.rules.proofs.Answers.{is_tree}
use Rattle.rules.proofs.Computing.{computing}

-- the candidates of a rule: one or none
unfoldable pub is_candidate : String → List Tree → Bool
unfolding is_tree
is_candidate t [] = false
is_candidate t (u ∷ []) = is_tree t u
is_candidate t (u ∷ v ∷ l) = false

unfoldable pub is_none : List Tree → Bool
is_none [] = true
is_none (u ∷ l) = false

-- ---- products, chains, raw forms

-- "A product or an OR chain takes flags upwards, nested to the left."
pub chain-rows :
    T (
    same (flags 13) (0 ∷ 2 ∷ 3 ∷ [])
    && is_tree "VA0 VA2 AN VA3 AN" (cube 13)
    && is_tree "VA0 VA2 OR VA3 OR" (or_chain 13)
    && is_tree "VA3" (cube 8)
    && is_tree "VA3" (or_chain 8)
    )
unfolding computing is_tree
chain-rows = tt

-- the product of no flag is 1, and the OR of no flag 0
pub empty-rows : T (is_tree "CO1" (cube 0) && is_tree "CO0" (or_chain 0))
unfolding computing is_tree
empty-rows = tt

-- "a balanced fold splits t terms into t div 2 and the rest, each half folded the same way and joined by XO; no term gives CO 0"
pub fold-rows :
    T (
    is_tree "CO0" (folded [])
    && is_tree "VA0" (folded (VA 0 ∷ []))
    && is_tree "VA0 VA1 XO" (folded (VA 0 ∷ VA 1 ∷ []))
    && is_tree "VA0 VA1 VA2 XO XO" (folded (VA 0 ∷ VA 1 ∷ VA 2 ∷ []))
    && is_tree "VA0 VA1 XO VA2 VA3 XO XO" (folded (VA 0 ∷ VA 1 ∷ VA 2 ∷ VA 3 ∷ []))
    && is_tree "VA0 VA1 XO VA2 VA3 VA4 XO XO XO" (folded (VA 0 ∷ VA 1 ∷ VA 2 ∷ VA 3 ∷ VA 4 ∷ []))
    )
unfolding computing is_tree
fold-rows = tt

-- "The raw form's terms are constant 1 first, then monomials in list order"
pub raw-form-rows :
    T (
    is_tree "CO0" (raw_form [])
    && is_tree "CO1 VA2 VA0 VA1 AN XO XO" (raw_form (0 ∷ 3 ∷ 4 ∷ []))
    && is_tree "VA0 VA1 XO VA2 VA0 VA1 AN XO XO" (raw_form (1 ∷ 2 ∷ 3 ∷ 4 ∷ []))
    )
unfolding computing is_tree
raw-form-rows = tt

-- "Raw cost is 1 with no term; else the sum of 2k-1 for each monomial of k flags, 1 for a constant 1, and one less than the number of terms."
pub raw-cost-rows :
    T (
    eqb (term_cost 0) 1
    && eqb (term_cost 4) 1
    && eqb (term_cost 7) 5
    && eqb (raw_cost []) 1
    && eqb (raw_cost (0 ∷ [])) 1
    && eqb (raw_cost (7 ∷ [])) 5
    && eqb (raw_cost (0 ∷ 1 ∷ 3 ∷ [])) 7
    && eqb (raw_cost (1 ∷ 2 ∷ 3 ∷ [])) 7
    )
unfolding computing
raw-cost-rows = tt

-- "total literals": the flags of all monomials
pub literal-rows : T (eqb (literals []) 0 && eqb (literals (0 ∷ [])) 0 && eqb (literals (0 ∷ 1 ∷ 3 ∷ 7 ∷ [])) 6)
unfolding computing
literal-rows = tt

-- ---- "1. Whole OR family."

-- the nonempty subsets
pub family-rows : T (same (family 0) [] && same (family 4) (4 ∷ []) && same (family 3) (1 ∷ 2 ∷ 3 ∷ []) && same (family 5) (1 ∷ 4 ∷ 5 ∷ []))
unfolding computing
family-rows = tt

-- "all flags that occur as single-flag monomials"
pub singles-rows : T (eqb (singles (1 ∷ 2 ∷ 6 ∷ [])) 3 && eqb (singles (0 ∷ 3 ∷ 5 ∷ [])) 0 && eqb (singles (0 ∷ 3 ∷ 4 ∷ [])) 4)
unfolding computing
singles-rows = tt

-- "If U isn't empty and the monomials are exactly the nonempty subsets of U"
pub whole-family-rows :
    T (
    is_family (1 ∷ [])
    && is_family (1 ∷ 2 ∷ 3 ∷ [])
    && is_family (0 ∷ 1 ∷ 2 ∷ 3 ∷ [])
    && not (is_family (1 ∷ 2 ∷ []))
    && not (is_family (1 ∷ 2 ∷ 3 ∷ 4 ∷ []))
    && not (is_family (1 ∷ 3 ∷ []))
    && not (is_family (1 ∷ 2 ∷ 7 ∷ []))
    && not (is_family (0 ∷ []))
    )
unfolding computing
whole-family-rows = tt

-- "with constant 1, XO of CO 1 and that chain"
pub atop-rows : T (is_tree "CO1 VA0 XO" (atop true (VA 0)) && is_tree "VA0" (atop false (VA 0)))
unfolding computing is_tree
atop-rows = tt

-- ---- "2. Partial OR."

-- "monomials M of two or more flags, all of whose nonempty subsets are monomials and fewer than all"; in the last row ab is none of the eight
pub partial-rows :
    T (
    is_partial (1 ∷ 2 ∷ 3 ∷ 4 ∷ []) 3
    && not (is_partial (1 ∷ 2 ∷ 3 ∷ 4 ∷ []) 1)
    && not (is_partial (1 ∷ 2 ∷ 3 ∷ []) 3)
    && not (is_partial (0 ∷ 1 ∷ 2 ∷ 3 ∷ []) 3)
    && not (is_partial (1 ∷ 3 ∷ 4 ∷ 5 ∷ []) 3)
    && is_partial (1 ∷ 2 ∷ 3 ∷ 4 ∷ 5 ∷ 6 ∷ 7 ∷ 8 ∷ []) 7
    && not (is_partial (1 ∷ 2 ∷ 4 ∷ 5 ∷ 6 ∷ 7 ∷ 8 ∷ 9 ∷ []) 7)
    )
unfolding computing
partial-rows = tt

-- the greatest, of equals the first, and none where none is above 0
pub greatest-rows :
    T (
    eqb (greatest (λ m. 9 - m) (4 ∷ 7 ∷ [])) 4
    && eqb (greatest (λ m. m) (4 ∷ 7 ∷ 6 ∷ [])) 7
    && eqb (greatest (λ m. 1) (5 ∷ 6 ∷ [])) 5
    && eqb (greatest (λ m. 0) (5 ∷ 6 ∷ [])) 0
    && eqb (greatest (λ m. m) []) 0
    )
unfolding computing
greatest-rows = tt

-- "the greatest saving, raw cost of the family less the chain's cost; equal savings, the smallest M"
pub best-family-rows :
    T (
    eqb (best_family (1 ∷ 2 ∷ 3 ∷ 4 ∷ 5 ∷ 6 ∷ 7 ∷ 8 ∷ [])) 7
    && eqb (best_family (1 ∷ 2 ∷ 4 ∷ 5 ∷ 6 ∷ [])) 5
    && eqb (best_family (1 ∷ 3 ∷ 5 ∷ [])) 0
    )
unfolding computing
best-family-rows = tt

-- "Candidate: XO of chain and cleaned remainder. The constant stays in the remainder.": beside a, b and ab there are 1 and c, and c and cd
pub partial-or-rows :
    T (
    is_candidate "VA0 VA1 OR CO1 VA2 XO XO" (partial_or cleanup (0 ∷ 1 ∷ 2 ∷ 3 ∷ 4 ∷ []))
    && is_candidate "VA0 VA1 OR VA2 VA3 NO AN XO" (partial_or cleanup (1 ∷ 2 ∷ 3 ∷ 4 ∷ 12 ∷ []))
    && is_none (partial_or cleanup (0 ∷ 1 ∷ 2 ∷ 3 ∷ []))
    && is_none (partial_or cleanup (1 ∷ 2 ∷ 4 ∷ 7 ∷ []))
    )
unfolding computing is_candidate is_none
partial-or-rows = tt

-- ---- "3. Common cube."

-- "The monomials that contain the whole cube .. are covered and are stripped of it; an emptied one becomes constant 1 of the stripped form."
pub covered-rows :
    T (
    same (covered 3 (0 ∷ 1 ∷ 3 ∷ 5 ∷ 7 ∷ [])) (3 ∷ 7 ∷ [])
    && same (stripped 3 (0 ∷ 1 ∷ 3 ∷ 5 ∷ 7 ∷ [])) (0 ∷ 4 ∷ [])
    && same (stripped 1 (0 ∷ 3 ∷ 5 ∷ 6 ∷ [])) (2 ∷ 4 ∷ [])
    )
unfolding computing
covered-rows = tt

-- "single flags that occur, and intersections of two monomials having two or more flags"; "at least 2, are covered"
pub cube-tests :
    T (
    is_cube (3 ∷ 5 ∷ []) 1
    && not (is_cube (3 ∷ 5 ∷ []) 2)
    && not (is_cube (3 ∷ 5 ∷ []) 3)
    && is_cube (7 ∷ 11 ∷ []) 3
    && is_cube (3 ∷ 7 ∷ []) 3
    && is_cube (3 ∷ 5 ∷ 6 ∷ []) 4
    && not (is_cube (1 ∷ 2 ∷ []) 4)
    )
unfolding computing
cube-tests = tt

-- the monomials abxy, acxy and bcxy: bxy and cxy are intersections of two, and xy, which lies in all three, is not, also beside the monomial a
pub meeting-rows :
    T (
    is_cube (27 ∷ 29 ∷ 30 ∷ []) 26
    && is_cube (27 ∷ 29 ∷ 30 ∷ []) 28
    && not (is_cube (27 ∷ 29 ∷ 30 ∷ []) 24)
    && not (is_cube (1 ∷ 27 ∷ 29 ∷ 30 ∷ []) 24)
    && is_cube (27 ∷ 29 ∷ 30 ∷ []) 8
    )
unfolding computing
meeting-rows = tt

-- "raw cost of the covered monomials, without the constant, less 1 less the cube's cost less the cleaned inner cost": of ab and ac by a it is
-- 7 - 1 - 1 - 3, also beside the constant or d, of abc and abd by ab 11 - 1 - 3 - 3, of a and ab by a 5 - 1 - 1 - 3, and of ab, ac and abc by a
-- 13 - 1 - 1 - 3 with the inner form b or c
pub saving-rows :
    T (
    eqb (cube_saving cleanup (3 ∷ 5 ∷ []) 1) 2
    && eqb (cube_saving cleanup (0 ∷ 3 ∷ 5 ∷ []) 1) 2
    && eqb (cube_saving cleanup (3 ∷ 5 ∷ 8 ∷ []) 1) 2
    && eqb (cube_saving cleanup (7 ∷ 11 ∷ []) 3) 4
    && eqb (cube_saving cleanup (1 ∷ 3 ∷ []) 1) 0
    && eqb (cube_saving cleanup (3 ∷ 5 ∷ 7 ∷ []) 1) 8
    )
unfolding computing
saving-rows = tt

-- "it must be above 0; equal savings, the smallest cube": the cubes a, b and ab of abc and abd save 4 each
pub best-cube-rows :
    T (
    eqb (best_cube cleanup (7 ∷ 11 ∷ [])) 1
    && eqb (best_cube cleanup (5 ∷ 6 ∷ [])) 4
    && eqb (best_cube cleanup (1 ∷ 3 ∷ [])) 0
    )
unfolding computing
best-cube-rows = tt

-- "Candidate: AN of cube and inner, in XO with the cleaned remainder (the monomials not covered, and the form's constant) unless that is empty
-- with constant 0."; by ab, which covers abc and abd, the monomial a is left, though it has a flag of the cube
pub common-cube-rows :
    T (
    is_candidate "VA0 VA1 VA2 XO AN" (common_cube cleanup (3 ∷ 5 ∷ []))
    && is_candidate "VA0 VA1 VA2 XO AN CO1 XO" (common_cube cleanup (0 ∷ 3 ∷ 5 ∷ []))
    && is_candidate "VA0 VA1 AN VA2 VA3 XO AN CO1 VA0 XO XO" (cube_at cleanup (0 ∷ 1 ∷ 7 ∷ 11 ∷ []) 3)
    && is_none (common_cube cleanup (1 ∷ 3 ∷ []))
    && is_none (common_cube cleanup (0 ∷ 3 ∷ []))
    )
unfolding computing is_candidate is_none
common-cube-rows = tt

-- ---- "4. Absorption."

-- "Exactly 2 monomials, one a strict subset m of the other: AN of m and NO of the product of the other's remaining flags; with constant 1, XO of
-- CO 1 and that."
pub absorption-rows :
    T (
    is_candidate "VA1 VA0 VA2 AN NO AN" (absorption (2 ∷ 7 ∷ []))
    && is_candidate "CO1 VA0 VA1 NO AN XO" (absorption (0 ∷ 1 ∷ 3 ∷ []))
    && is_none (absorption (3 ∷ 5 ∷ []))
    && is_none (absorption (1 ∷ 3 ∷ 7 ∷ []))
    && is_none (absorption (0 ∷ 3 ∷ []))
    )
unfolding computing is_candidate is_none
absorption-rows = tt

-- ---- the contest

-- "replace the best only if strictly cheaper": the OR chain of three flags has five records and costs 4, their product 5, and the last row's AN 4
pub cheaper-rows :
    T (
    is_tree "VA0" (cheaper (NO (VA 1)) (VA 0))
    && is_tree "VA1" (cheaper (VA 1) (VA 0))
    && is_tree "VA1" (cheaper (VA 1) (NO (VA 0)))
    && is_tree "VA0 VA1 OR VA2 OR" (cheaper (cube 7) (or_chain 7))
    && is_tree "VA0 VA1 OR VA2 OR" (cheaper (or_chain 7) (AN (VA 0) (NO (VA 1))))
    )
unfolding computing is_tree
cheaper-rows = tt
