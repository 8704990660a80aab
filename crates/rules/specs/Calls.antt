-- The calls of document 01, and of the requests of document 02 that are carried out, on paper, that is, as mathematics over lists and numbers: each
-- makes its checks "down the table", one line a row, and then gives its result. n is the flag count, room what the lent buffer has in its own
-- entries.
--   with_table limit n table rest         == rows 1 and 2, then the rest
--   with_coefficients limit n ws rest     == rows 1, 3 and 4, then the rest
--   with_room room l rest                 == row 5, then the rest; fill room l gives l itself
--   transform n table room, way_back n ws room      == the coefficient words of a table, and the table of coefficients
--   listing n ws room, terms a           == the constant and the monomials in their order, and the raw form's terms of such a listing
--   raw_costing n ws                      == the raw form's cost
--   compile n table room                 == the compiler: the bytes of `compiled n table` with their counts and costs
--   read n s place, parse n s            == the record at a place, with where its operands begin, and the tree of all records
--   evaluate n s at, costing n s         == the value at a setting, and cost, size and depth
--   evaluate_stars n ws s                 == the values for 64 stars
--   cheaper_of_two n a b                   == the cheaper of two expressions, or nothing; cheaper_of chooses alike of whatever stands for the two
--   examine n table s                    == the examiner: the cost, or the first refusal
use Rattle.std.specs.Prelude.{Bool, true, false, not, ◌&&◌, ◌||◌, List, [], ◌∷◌, map, ℕ, ◌^◌, ltb, leb, eqb, length}
use Rattle.std.proofs.Math.Option.{Option}
use Rattle.bits.specs.Bit.{◌⊕◌, digit}
use Rattle.bits.specs.Range.{keep}
use Rattle.rules.specs.Cleanup.{cleanup}
use Rattle.rules.specs.Coefficient.{coefficient, word_count, packed, stray, words}
use Rattle.rules.specs.Form.{raw_cost}
use Rattle.rules.specs.Limits.{form_flags, rule_flags, too_many_flags, short_table, short_coefficients, stray_coefficient, short_output}
use Rattle.rules.specs.Limits.{bad_setting, short_stars, differs, too_costly, record_limit}
use Rattle.rules.specs.Machine.{Node, made, node_from}
use Rattle.rules.specs.Monomial.{form, constant, monomials, on, ordered}
use Rattle.rules.specs.Outcome.{Outcome, gives, refuses, refuse, ◌then◌}
use Rattle.rules.specs.Stars.{star_values}
use Rattle.rules.specs.Table.{settings, entry, complete}
use Rattle.rules.specs.Tree.{Tree, value, cost, size, depth, write}

-- ---- rows that several calls share

-- rows 1 and 2
unfoldable pub with_table : {A : Type 0} → ℕ → ℕ → List ℕ → Outcome A → Outcome A
with_table limit n table rest =
    refuse (ltb limit n) too_many_flags 0
    (refuse (not (complete n table)) short_table 0 rest)

-- rows 1, 3 and 4
unfoldable pub with_coefficients : {A : Type 0} → ℕ → ℕ → List ℕ → Outcome A → Outcome A
with_coefficients limit n ws rest =
    refuse (ltb limit n) too_many_flags 0
    (refuse (ltb (length ws) (word_count n)) short_coefficients 0
    (refuse (stray n ws) stray_coefficient 0 rest))

-- row 5: room is what the buffer has in its own entries, l the result that it is to hold
unfoldable pub with_room : {A : Type 0} → ℕ → List ℕ → Outcome A → Outcome A
with_room room l rest = refuse (ltb room (length l)) short_output (length l) rest

unfoldable pub fill : ℕ → List ℕ → Outcome (List ℕ)
fill room l = with_room room l (gives l)

-- ---- transform and way back

-- `compute_anf`: the coefficient words of a table
unfoldable pub transform : ℕ → List ℕ → ℕ → Outcome (List ℕ)
transform n table room = with_table form_flags n table (fill room (words n (coefficient n (entry table))))

-- "The way back: coefficients to one 64-bit entry, 0 or 1, per setting, by the same XOR over subsets."
unfoldable pub way_back : ℕ → List ℕ → ℕ → Outcome (List ℕ)
way_back n ws room =
    with_coefficients form_flags n ws
    (fill room (map (λ s. digit (coefficient n (packed ws) s)) (settings n)))

-- ---- listing and raw costing

pub record Listing : Type 0 where
  pub constant : Bool
  pub masks : List ℕ

-- "the constant, and all monomials by (count of ones, then mask), each one time"
unfoldable pub listed : List ℕ → Listing
listed l = record { constant = constant l; masks = ordered (monomials l) }

-- "The buffer takes the monomials alone, one entry each; the constant and their number are the answer."
unfoldable pub listing : ℕ → List ℕ → ℕ → Outcome Listing
listing n ws room =
    with_coefficients form_flags n ws
    (with_room room (listed (form n (packed ws))).masks (gives (listed (form n (packed ws)))))

-- "The raw form's terms are constant 1 first, then monomials in list order": those of a listing
unfoldable pub terms : Listing → List ℕ
terms a = on a.constant a.masks

-- "raw costing takes n and coefficients"; "Raw cost equals the raw form's `anf_expr_cost`." Request 3: "Add up the same terms over the coefficient
-- word, lowest mask first.": a form's masks ascend. "For every n and word the whole sum must equal the one over the sorted list.": that is
-- `raw_cost (terms (listed ..))`, and `raw_cost-terms` says so (laws, MaskOrder).
unfoldable pub raw_costing : ℕ → List ℕ → Outcome ℕ
raw_costing n ws = with_coefficients rule_flags n ws (gives (raw_cost (form n (packed ws))))

-- ---- the compiler

-- the form of a table
unfoldable pub table_form : ℕ → List ℕ → List ℕ
table_form n table = form n (coefficient n (entry table))

-- "`build_anf_expr` on the coefficients that `compute_anf` gives for its table": the tree that the compiler writes
unfoldable pub compiled : ℕ → List ℕ → Tree
compiled n table = cleanup (table_form n table)

-- "writes the best and returns its count of bytes, its count of records, its cost and the raw cost": the count of bytes is their length
pub record Compilation : Type 0 where
  pub bytes : List ℕ
  pub records : ℕ
  pub cost : ℕ
  pub raw : ℕ

unfoldable pub compilation : Tree → List ℕ → Compilation
compilation t l = record { bytes = write t; records = size t; cost = cost t; raw = raw_cost l }

unfoldable pub compile : ℕ → List ℕ → ℕ → Outcome Compilation
compile n table room =
    with_table rule_flags n table
    (with_room room (write (compiled n table)) (gives (compilation (compiled n table) (table_form n table))))

-- ---- reading, evaluation, costing

-- "The reader takes n, bytes and a place and answers one record: its kind with payload and the next place, or a refusal"; "if no byte is left at
-- that place, it answers the end", which is none. Request 5 adds "the first byte of each operand" and has the records read "from byte 0 by rows 9, 6,
-- 7, 8".
unfoldable pub read : ℕ → List ℕ → ℕ → Outcome (Option Node)
read n s place = refuse (ltb rule_flags n) too_many_flags 0 (node_from record_limit n s place 0 [])

-- an expression's tree
unfoldable pub parse : ℕ → List ℕ → Outcome Tree
parse n s = refuse (ltb rule_flags n) too_many_flags 0 (made n s)

-- "Evaluation takes one setting."
unfoldable pub evaluate : ℕ → List ℕ → ℕ → Outcome ℕ
evaluate n s at =
    refuse (ltb rule_flags n) too_many_flags 0
    (refuse (leb (2 ^ n) at) bad_setting 0
    (made n s then (λ t. gives (digit (value t at)))))

-- Request 1: "a second one shall take n, such words (word i for flag i) and bytes"; "It refuses with 14, after number 1 and before the records are
-- read, when fewer than n words are lent, place 0."
unfoldable pub evaluate_stars : ℕ → List ℕ → List ℕ → Outcome ℕ
evaluate_stars n ws s =
    refuse (ltb rule_flags n) too_many_flags 0
    (refuse (ltb (length ws) n) short_stars 0
    (made n s then (λ t. gives (star_values n ws t))))

pub record Costs : Type 0 where
  pub cost : ℕ
  pub size : ℕ
  pub depth : ℕ

-- "costing takes n and bytes, and answers cost, size and depth"
unfoldable pub costing : ℕ → List ℕ → Outcome Costs
costing n s = parse n s then (λ t. gives (record { cost = cost t; size = size t; depth = depth t }))

-- "hand back the second slice if its (size, depth) is smaller, else the first"
unfoldable pub smaller : Tree → Tree → Bool
smaller t u = ltb (size t) (size u) || eqb (size t) (size u) && ltb (depth t) (depth u)

-- "if n or either expression is refused, an empty part of the first", which is e; of slices as lists, or as the references that the call answers
unfoldable pub cheaper_of : {A : Type 0} → A → A → A → Outcome Tree → Outcome Tree → A
cheaper_of e a b (refuses k p) u = e
cheaper_of e a b (gives t) (refuses k p) = e
cheaper_of e a b (gives t) (gives u) = elim (smaller u t) [ true ↦ b | false ↦ a ]

unfoldable pub cheaper_of_two : ℕ → List ℕ → List ℕ → List ℕ
cheaper_of_two n a b = cheaper_of [] a b (parse n a) (parse n b)

-- ---- the examiner

-- the settings at which the tree's value is not the table's bit, ascending
unfoldable pub differences : ℕ → List ℕ → Tree → List ℕ
differences n table t = keep (λ s. value t s ⊕ entry table s) (settings n)

-- rows 12 and 13: "differs from the table" at the "smallest such setting"; "cost above raw cost", place "the cost"
unfoldable pub judged : ℕ → Tree → List ℕ → Outcome ℕ
judged raw t (s ∷ l) = refuses differs s
judged raw t [] = refuse (ltb raw (cost t)) too_costly (cost t) (gives (cost t))

-- "The examiner takes n, table and bytes, compares every setting, and accepts exactly if no row refuses, giving the cost."
unfoldable pub examine : ℕ → List ℕ → List ℕ → Outcome ℕ
examine n table s =
    with_table rule_flags n table
    (made n s then (λ t. judged (raw_cost (table_form n table)) t (differences n table t)))
