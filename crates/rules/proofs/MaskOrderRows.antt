-- Request 3 of document 02, computed with the definitions: the terms of a listing, and the raw cost added up in mask order and in list order. The
-- values are worked by hand from the documents' sentences; nothing here came from a program.
use mathlib.Core.Bool.{◌&&◌}
use mathlib.Core.List.{List, [], ◌∷◌}
use Prim.Native.Nat.{ℕ}
use lib.Dec.{T, eqb}
use Rattle.bits.specs.Bit.{bit}
use Rattle.bits.specs.Range.{same}
use Rattle.rules.specs.Calls.{listed, terms, raw_costing}
use Rattle.rules.specs.Coefficient.{packed}
use Rattle.rules.specs.Form.{raw_cost}
use Rattle.rules.specs.Monomial.{form}
use Rattle.rules.proofs.Answers.{is_number}
use Rattle.rules.proofs.Computing.{computing}

-- the masks of `01111000`, whose coefficient word is 30, and the same with constant 1
abbrev without-constant : List ℕ
without-constant = form 3 (bit 30)

abbrev with-constant : List ℕ
with-constant = form 3 (bit 31)

-- two masks of seven flags, which stand in two words
abbrev wide : List ℕ
wide = form 7 (packed (8 ∷ 1 ∷ []))

-- "The raw form's terms are constant 1 first, then monomials in list order"; "for `01111000` the order is 1, 2, 4, 3"
pub term_rows :
    T (
    same (terms (listed without-constant)) (1 ∷ 2 ∷ 4 ∷ 3 ∷ [])
    && same (terms (listed with-constant)) (0 ∷ 1 ∷ 2 ∷ 4 ∷ 3 ∷ [])
    && same (terms (listed wide)) (64 ∷ 3 ∷ [])
    && same (terms (listed (form 3 (bit 1)))) (0 ∷ [])
    && same (terms (listed (form 3 (bit 0)))) []
    )
unfolding computing
term_rows = tt

-- "Add up the same terms over the coefficient word, lowest mask first. For every n and word the whole sum must equal the one over the sorted list.":
-- 1 + 1 + 3 + 1 in mask order, 1 + 1 + 1 + 3 in list order, and with three joins 9 each; constant 1 adds its term and a join. Of seven flags 3 + 1
-- and 1 + 3 with one join.
pub mask-order-rows :
    T (
    same without-constant (1 ∷ 2 ∷ 3 ∷ 4 ∷ [])
    && is_number 9 (raw_costing 3 (30 ∷ []))
    && eqb (raw_cost (terms (listed without-constant))) 9
    && same with-constant (0 ∷ 1 ∷ 2 ∷ 3 ∷ 4 ∷ [])
    && is_number 11 (raw_costing 3 (31 ∷ []))
    && eqb (raw_cost (terms (listed with-constant))) 11
    && same wide (3 ∷ 64 ∷ [])
    && eqb (raw_cost wide) 5
    && eqb (raw_cost (terms (listed wide))) 5
    )
unfolding computing is_number
mask-order-rows = tt
