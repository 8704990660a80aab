-- What the calls answer where no row refuses, computed with the definitions: results, counts, and what a lent buffer holds afterwards. The
-- values are read from document 01's sentences, which the comments quote, and from its marked rules; nothing here came from a program.
use mathlib.Core.Bool.{Bool, true, false, ◌&&◌, false≢true}
use mathlib.Core.List.{List, [], ◌∷◌}
use mathlib.Core.Path.{refl, ap}
use Prim.Native.Nat.{ℕ, ◌+◌}
use Prim.Native.String.{String}
use native.Mathlib.Omega.{arith}
use lib.Dec.{T, eqb}
use lib.ListN.{length, get_or}
use Rattle.bits.specs.Range.{all, same}
use Rattle.rules.specs.Calls.{transform, way_back, raw_costing, compile, parse, evaluate, costing, cheaper_of_two, examine}
use Rattle.rules.specs.Outcome.{gives, refuses, refuse, ◌then◌, written, front, left}
use Rattle.rules.specs.Machine.{WellFormed}
use Rattle.rules.specs.Record.{Constant, Flag, And, Or, Xor, Not, FlagBelow, mark}
use Rattle.rules.specs.Tree.{VA, AN, NO}
use Rattle.rules.proofs.Answers.{entries_of, bytes_of, is_refusal, is_number, is_compilation, is_costs, is_parsed, is_given}
use Rattle.rules.proofs.Computing.{computing}
use Rattle.rules.proofs.Rows.{Row, marked-rows}

-- ---- lent buffers: "Output past the result is unchanged."; "A refusal gives the number and a place, and no lent buffer changes."

pub buffer-rows :
    T (
    same (written (7 ∷ 8 ∷ 9 ∷ []) (1 ∷ 2 ∷ [])) (1 ∷ 2 ∷ 9 ∷ [])
    && same (front 2 (7 ∷ 8 ∷ 9 ∷ [])) (7 ∷ 8 ∷ [])
    && same (left (7 ∷ 8 ∷ []) (transform 2 (entries_of "0111") 2)) (14 ∷ 8 ∷ [])
    && same (left (7 ∷ 8 ∷ []) (transform 2 (entries_of "011") 2)) (7 ∷ 8 ∷ [])
    && same (left (7 ∷ 8 ∷ []) (way_back 2 (14 ∷ []) 2)) (7 ∷ 8 ∷ [])
    )
unfolding computing entries_of
buffer-rows = tt

-- "Checks run down the table": of two rows that both apply the upper one refuses; a refusal stands through the calls above it, with its place
pub outcome-rows :
    T (
    is_refusal {A = ℕ} 2 5 (refuse true 2 5 (refuse true 3 6 (gives 0)))
    && is_refusal {A = ℕ} 3 6 (refuse false 2 5 (refuse true 3 6 (gives 0)))
    && is_number 9 (refuse false 2 5 (gives 9))
    && is_refusal {A = ℕ} 6 4 (◌then◌ {A = ℕ} (refuses 6 4) (λ a. gives a))
    && is_number 8 (◌then◌ {A = ℕ} (gives 7) (λ a. gives (a + 1)))
    )
unfolding is_refusal is_number
outcome-rows = tt

-- ---- raw costing, on the marked rules

unfoldable pub is_raw_costed : Row → Bool
unfolding computing is_number
is_raw_costed r = is_number r.raw (raw_costing r.flags (r.coefficients ∷ []))

pub raw-costing-rows : T (all is_raw_costed marked-rows)
unfolding computing is_raw_costed marked-rows
raw-costing-rows = tt

-- ---- the compiler, on the marked rules: "returns its count of bytes, its count of records, its cost and the raw cost"

-- the row's bytes fill a buffer of just their length
unfoldable pub is_compiled : Row → ℕ → Bool
unfolding computing entries_of bytes_of is_compilation
is_compiled r records =
    is_compilation (bytes_of r.text) records r.cost r.raw (compile r.flags (entries_of r.bits) (length (bytes_of r.text)))

-- the row's records, counted by hand
unfoldable pub are_compiled : List Row → List ℕ → Bool
unfolding is_compiled
are_compiled [] [] = true
are_compiled [] (k ∷ ks) = false
are_compiled (r ∷ l) [] = false
are_compiled (r ∷ l) (k ∷ ks) = is_compiled r k && are_compiled l ks

pub compile-rows : T (are_compiled marked-rows (1 ∷ 1 ∷ 3 ∷ 3 ∷ 3 ∷ 4 ∷ 6 ∷ 9 ∷ 5 ∷ 5 ∷ 7 ∷ []))
unfolding are_compiled marked-rows
compile-rows = tt

-- ---- reading (the reader's own rows are in ReadRows)

-- C and O are hex 43 and 4F
pub mark-rows : T (eqb (mark (bytes_of "CO1")) 0x434f)
unfolding computing bytes_of
mark-rows = tt

-- "two operands, first operand first": each expression is read as the tree that it was written for
unfoldable pub is_read_back : String → Bool
unfolding computing bytes_of is_parsed
is_read_back t = is_parsed t (parse 2 (bytes_of t))

pub parse-rows : T (is_read_back "VA0 VA1 NO AN" && is_read_back "VA1 VA0 OR CO1 XO" && is_read_back "CO0 VA0 VA1 XO OR")
unfolding is_read_back
parse-rows = tt

-- "It is well formed if .. no operator lacks operands, and one operand is left at the end."
pub well-formed : WellFormed 2 (bytes_of "VA0 VA1 NO AN")
unfolding computing WellFormed bytes_of
well-formed = (AN (VA 0) (NO (VA 1)), refl)

pub ill-formed : ¬ WellFormed 2 (bytes_of "VA0 VA2 AN")
unfolding computing WellFormed bytes_of is_given
ill-formed w = false≢true (ap is_given w.1)

-- a record of the kind names no flag at n or above
pub flag-below : FlagBelow 2 (Flag 1)
flag-below = omega arith

pub flag-not-below : ¬ FlagBelow 2 (Flag 2)
flag-not-below h = omega (arith, h)

pub no-flag-below : FlagBelow 0 (Constant true) × FlagBelow 0 And × FlagBelow 0 Or × FlagBelow 0 Xor × FlagBelow 0 Not
no-flag-below = (tt, tt, tt, tt, tt)

-- ---- evaluation and costing

-- an expression's values at the settings of two flags
unfoldable pub evaluates_to : String → String → Bool
unfolding computing entries_of bytes_of is_number
evaluates_to table t = all (λ s. is_number (get_or (entries_of table) s 0) (evaluate 2 (bytes_of t) s)) (0 ∷ 1 ∷ 2 ∷ 3 ∷ [])

pub evaluation-rows :
    T (
    evaluates_to "1111" "CO1"
    && evaluates_to "0011" "VA1"
    && evaluates_to "0001" "VA0 VA1 AN"
    && evaluates_to "0111" "VA0 VA1 OR"
    && evaluates_to "0110" "VA0 VA1 XO"
    && evaluates_to "1010" "VA0 NO"
    && evaluates_to "0100" "VA0 VA1 NO AN"
    )
unfolding computing evaluates_to
evaluation-rows = tt

-- cost, size and depth
pub costing-rows :
    T (
    is_costs 1 1 1 (costing 3 (bytes_of "CO1"))
    && is_costs 4 4 3 (costing 3 (bytes_of "VA0 VA1 NO AN"))
    && is_costs 4 5 3 (costing 3 (bytes_of "VA0 VA1 OR VA2 OR"))
    && is_costs 5 5 3 (costing 3 (bytes_of "VA0 VA1 VA2 OR OR"))
    && is_costs 6 6 4 (costing 3 (bytes_of "VA0 VA1 VA2 AN NO XO"))
    )
unfolding computing is_costs bytes_of
costing-rows = tt

-- ---- the cheaper of two: "hand back the second slice if its (size, depth) is smaller, else the first"

-- the answer to the expressions of a and b with four flags
unfoldable pub cheaper_is : String → String → String → Bool
unfolding computing bytes_of
cheaper_is t a b = same (bytes_of t) (cheaper_of_two 4 (bytes_of a) (bytes_of b))

-- sizes 1 and 3; equal sizes 7 with depths 4 and 3; equal sizes and depths, with costs 5 and 4; sizes 4 and 7 with depths 4 and 3
pub cheaper-rows :
    T (
    cheaper_is "VA1" "VA0 NO NO" "VA1"
    && cheaper_is "VA0" "VA0" "VA1 NO NO"
    && cheaper_is "VA0 VA1 XO VA2 VA3 XO XO" "VA0 VA1 XO VA2 XO VA3 XO" "VA0 VA1 XO VA2 VA3 XO XO"
    && cheaper_is "VA0 VA1 XO VA2 VA3 XO XO" "VA0 VA1 XO VA2 VA3 XO XO" "VA0 VA1 XO VA2 XO VA3 XO"
    && cheaper_is "VA0 VA1 VA2 OR OR" "VA0 VA1 VA2 OR OR" "VA0 VA1 OR VA2 OR"
    && cheaper_is "VA0 NO NO NO" "VA0 VA1 XO VA2 VA3 XO XO" "VA0 NO NO NO"
    && cheaper_is "VA0 NO NO NO" "VA0 NO NO NO" "VA0 VA1 XO VA2 VA3 XO XO"
    )
unfolding cheaper_is
cheaper-rows = tt

-- "if n or either expression is refused, an empty part of the first"
pub cheaper-refused-rows : T (cheaper_is "" "VA0" "VA4" && cheaper_is "" "AN" "VA0" && cheaper_is "" "" "")
unfolding cheaper_is
cheaper-refused-rows = tt

-- ---- the examiner: "accepts exactly if no row refuses, giving the cost"

-- the row's records for the row's table
unfoldable pub is_accepted : Row → Bool
unfolding computing entries_of bytes_of is_number
is_accepted r = is_number r.cost (examine r.flags (entries_of r.bits) (bytes_of r.text))

pub examine-rows : T (all is_accepted marked-rows)
unfolding computing is_accepted marked-rows
examine-rows = tt

-- what is dearer than the compiler's expression, 3, and no dearer than the raw form, 7; the last has nine records and costs 6
pub dearer-rows :
    T (
    is_number 5 (examine 2 (entries_of "0111") (bytes_of "VA0 VA1 OR NO NO"))
    && is_number 7 (examine 2 (entries_of "0111") (bytes_of "VA0 VA1 XO VA0 VA1 AN XO"))
    && is_number 6 (examine 2 (entries_of "0111") (bytes_of "VA0 VA1 OR VA0 OR VA1 OR VA0 OR"))
    )
unfolding computing is_number entries_of bytes_of
dearer-rows = tt
