-- Rows of an expression's value, costs and bytes, computed with the definitions. The values are read from document 01's sentences, which
-- the comments quote; nothing here came from a program.
use mathlib.Core.Bool.{true, false, ◌&&◌}
use mathlib.Core.List.{List, [], ◌∷◌, map}
use Prim.Native.Nat.{ℕ, ◌+◌, ◌*◌, ◌/◌}
use native.Mathlib.Omega.{arith}
use lib.Dec.{T, eqb}
use Rattle.bits.specs.Bit.{digit}
use Rattle.bits.specs.Range.{same}
use Rattle.rules.specs.Ascii.{ascii}
use Rattle.rules.specs.Limits.{record_limit, byte_limit}
use Rattle.rules.specs.Table.{settings}
use Rattle.rules.specs.Tree.{Tree, CO, VA, AN, OR, XO, NO, value, cost, size, depth, write, FlagsBelow, mentioned}
use Rattle.rules.proofs.Answers.{entries_of}
use Rattle.rules.proofs.Computing.{computing}

-- a tree's values at the settings of two flags
unfoldable pub values : Tree → List ℕ
unfolding computing
values t = map (λ s. digit (value t s)) (settings 2)

-- "of CO its byte, of VA the setting's bit at its index, of AN, OR and XO the AND, OR and XOR of both operands' values; NO turns 0 into 1 and
-- 1 into 0"
pub value-rows :
    T (
    same (values (CO false)) (entries_of "0000")
    && same (values (CO true)) (entries_of "1111")
    && same (values (VA 0)) (entries_of "0101")
    && same (values (VA 1)) (entries_of "0011")
    && same (values (AN (VA 0) (VA 1))) (entries_of "0001")
    && same (values (OR (VA 0) (VA 1))) (entries_of "0111")
    && same (values (XO (VA 0) (VA 1))) (entries_of "0110")
    && same (values (NO (VA 1))) (entries_of "1100")
    )
unfolding computing values entries_of
value-rows = tt

-- "a leaf 1; NO 1 more than its operand; AN, XO and OR 1 more than both; an OR whose first operand is an OR is 1 less than that"
pub cost-rows :
    T (
    eqb (cost (CO true)) 1
    && eqb (cost (VA 5)) 1
    && eqb (cost (NO (VA 0))) 2
    && eqb (cost (AN (VA 0) (NO (VA 1)))) 4
    && eqb (cost (XO (NO (VA 0)) (VA 1))) 4
    && eqb (cost (OR (VA 0) (VA 1))) 3
    && eqb (cost (OR (OR (VA 0) (VA 1)) (VA 2))) 4
    && eqb (cost (OR (OR (OR (VA 0) (VA 1)) (VA 2)) (VA 3))) 5
    )
unfolding computing
cost-rows = tt

-- "Discounting an OR for its second operand" is a habit to unlearn; only an OR is discounted, and only for an OR
pub no-discount-rows :
    T (
    eqb (cost (OR (VA 0) (OR (VA 1) (VA 2)))) 5
    && eqb (cost (OR (CO true) (VA 0))) 3
    && eqb (cost (OR (AN (VA 0) (VA 1)) (VA 2))) 5
    && eqb (cost (OR (XO (VA 0) (VA 1)) (VA 2))) 5
    && eqb (cost (OR (NO (OR (VA 0) (VA 1))) (VA 2))) 6
    && eqb (cost (AN (OR (VA 0) (VA 1)) (VA 2))) 5
    && eqb (cost (XO (OR (VA 0) (VA 1)) (VA 2))) 5
    && eqb (cost (AN (VA 0) (OR (VA 1) (VA 2)))) 5
    && eqb (cost (XO (VA 0) (OR (VA 1) (VA 2)))) 5
    )
unfolding computing
no-discount-rows = tt

-- "size (all records)"
pub size-rows :
    T (
    eqb (size (CO false)) 1
    && eqb (size (VA 3)) 1
    && eqb (size (NO (VA 0))) 2
    && eqb (size (AN (VA 0) (NO (VA 1)))) 4
    && eqb (size (OR (OR (VA 0) (VA 1)) (VA 2))) 5
    && eqb (size (XO (CO true) (XO (VA 0) (VA 1)))) 5
    && eqb (size (AN (NO (VA 0)) (VA 1))) 4
    && eqb (size (OR (VA 0) (NO (VA 1)))) 4
    && eqb (size (XO (NO (VA 0)) (VA 1))) 4
    )
unfolding computing
size-rows = tt

-- "depth (a leaf 1, an operator 1 more than its deepest operand)"
pub depth-rows :
    T (
    eqb (depth (CO false)) 1
    && eqb (depth (VA 3)) 1
    && eqb (depth (NO (VA 0))) 2
    && eqb (depth (AN (VA 0) (NO (VA 1)))) 3
    && eqb (depth (OR (OR (VA 0) (VA 1)) (VA 2))) 3
    && eqb (depth (XO (VA 0) (XO (VA 1) (NO (VA 2))))) 4
    )
unfolding computing
depth-rows = tt

-- of operands of depths 3 and 2, in either order, the one of depth 3 is "its deepest operand"
pub deepest-rows :
    T (
    eqb (depth (AN (NO (NO (VA 0))) (NO (VA 1)))) 4
    && eqb (depth (AN (NO (VA 0)) (NO (NO (VA 1))))) 4
    && eqb (depth (OR (NO (NO (VA 0))) (NO (VA 1)))) 4
    && eqb (depth (OR (NO (VA 0)) (NO (NO (VA 1))))) 4
    && eqb (depth (XO (NO (NO (VA 0))) (NO (VA 1)))) 4
    && eqb (depth (XO (NO (VA 0)) (NO (NO (VA 1))))) 4
    )
unfolding computing
deepest-rows = tt

-- "Each record starts with a two-byte ASCII mark": C, O, V, A, N, R, X are 67, 79, 86, 65, 78, 82, 88
pub ascii-rows :
    T (
    same (ascii "CO") (67 ∷ 79 ∷ [])
    && same (ascii "VA") (86 ∷ 65 ∷ [])
    && same (ascii "AN") (65 ∷ 78 ∷ [])
    && same (ascii "OR") (79 ∷ 82 ∷ [])
    && same (ascii "XO") (88 ∷ 79 ∷ [])
    && same (ascii "NO") (78 ∷ 79 ∷ [])
    )
unfolding computing
ascii-rows = tt

-- "writing each node's operands, first to last, and then the node"; "`CO`, then one byte, 0 or 1", "`VA`, then one byte, a flag index"
pub write-rows :
    T (
    same (write (CO true)) (67 ∷ 79 ∷ 1 ∷ [])
    && same (write (VA 5)) (86 ∷ 65 ∷ 5 ∷ [])
    && same (write (AN (VA 0) (NO (VA 1)))) (86 ∷ 65 ∷ 0 ∷ 86 ∷ 65 ∷ 1 ∷ 78 ∷ 79 ∷ 65 ∷ 78 ∷ [])
    && same (write (OR (VA 2) (VA 1))) (86 ∷ 65 ∷ 2 ∷ 86 ∷ 65 ∷ 1 ∷ 79 ∷ 82 ∷ [])
    && same (write (XO (CO true) (VA 0))) (67 ∷ 79 ∷ 1 ∷ 86 ∷ 65 ∷ 0 ∷ 88 ∷ 79 ∷ [])
    )
unfolding computing
write-rows = tt

-- "963 bytes always suffice": 385 records have at most 193 leaves of three bytes, and then 192 operators of two
pub byte-limit : T (eqb byte_limit ((record_limit + 1) / 2 * 3 + record_limit / 2 * 2))
byte-limit = tt

-- the flags that stand in a tree, as a mask; flags 0 and 2 in one operand, 1 and 2 in the other
pub mentioned-rows :
    T (
    eqb (mentioned (CO true)) 0
    && eqb (mentioned (VA 3)) 8
    && eqb (mentioned (AN (VA 0) (NO (VA 2)))) 5
    && eqb (mentioned (OR (VA 1) (XO (VA 1) (VA 0)))) 3
    && eqb (mentioned (AN (OR (VA 0) (VA 2)) (OR (VA 1) (VA 2)))) 7
    && eqb (mentioned (OR (AN (VA 0) (VA 2)) (AN (VA 1) (VA 2)))) 7
    && eqb (mentioned (XO (AN (VA 0) (VA 2)) (AN (VA 1) (VA 2)))) 7
    )
unfolding computing
mentioned-rows = tt

-- "a flag index below n", of every flag that the tree names
pub flags-below : FlagsBelow 2 (AN (VA 0) (NO (VA 1)))
flags-below = (omega arith, omega arith)

pub flags-not-below : ¬ FlagsBelow 2 (AN (OR (VA 2) (VA 0)) (CO true))
flags-not-below h = omega (arith, h.0.0)

pub negated-flag-not-below : ¬ FlagsBelow 2 (XO (VA 1) (NO (VA 2)))
negated-flag-not-below h = omega (arith, h.1)

pub second-flag-not-below : ¬ FlagsBelow 2 (AN (VA 0) (VA 2))
second-flag-not-below h = omega (arith, h.1)

pub chained-flag-not-below : ¬ FlagsBelow 2 (OR (VA 0) (VA 2))
chained-flag-not-below h = omega (arith, h.1)

pub first-flag-not-below : ¬ FlagsBelow 2 (XO (VA 2) (VA 0))
first-flag-not-below h = omega (arith, h.0)

-- a constant names none
pub constant-below : FlagsBelow 0 (CO true)
constant-below = tt
