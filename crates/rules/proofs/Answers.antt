-- How the rows beside this file are written and compared: tables and records as document 01 prints them, and tests that an answer is the
-- expected one. Nothing here says what is right.
--   entries_of "0111"         == the entries of a table, digit i for setting i
--   bytes_of "VA0 VA1 OR"     == the bytes of records: a digit stands for a payload, and a space for nothing
--   is_tree "VA0 VA1 OR" t    == the tree t has these records
use mathlib.Core.Bool.{Bool, true, false, not, ◌&&◌}
use mathlib.Core.List.{List, [], ◌∷◌, ◌++◌, map}
use mathlib.Core.Option.{Option, none, some}
use Prim.Native.Nat.{ℕ, ◌-◌}
use Prim.Native.String.{String}
use lib.Dec.{ltb, eqb}
use Rattle.bits.specs.Bit.{◌⊕◌, digit}
use Rattle.bits.specs.Range.{keep, same}
use Rattle.rules.specs.Ascii.{ascii}
use Rattle.rules.specs.Calls.{Listing, Compilation, Costs}
use Rattle.rules.specs.Machine.{Node}
use Rattle.rules.specs.Outcome.{Outcome, gives, refuses}
use Rattle.rules.specs.Record.{Kind, Constant, Flag, And, Or, Xor, Not}
use Rattle.rules.specs.Text.{records}
use Rattle.rules.specs.Tree.{Tree}
use Rattle.rules.proofs.Computing.{computing}

unfoldable pub entries_of : String → List ℕ
unfolding computing
entries_of t = map (λ b. b - 48) (ascii t)

unfoldable pub byte_of : ℕ → ℕ
byte_of b = elim (ltb b 58) [ true ↦ b - 48 | false ↦ b ]

unfoldable pub bytes_of : String → List ℕ
unfolding computing byte_of
bytes_of t = map byte_of (keep (λ b. not (eqb b 32)) (ascii t))

unfoldable pub is_tree : String → Tree → Bool
unfolding computing
is_tree t u = same (ascii t) (records u)

-- ---- answers

unfoldable pub is_refusal : {A : Type 0} → ℕ → ℕ → Outcome A → Bool
is_refusal k p (gives a) = false
is_refusal k p (refuses l q) = eqb l k && eqb q p

unfoldable pub is_given : {A : Type 0} → Outcome A → Bool
is_given (gives a) = true
is_given (refuses k p) = false

unfoldable pub is_number : ℕ → Outcome ℕ → Bool
is_number a (gives b) = eqb a b
is_number a (refuses k p) = false

unfoldable pub is_list : List ℕ → Outcome (List ℕ) → Bool
unfolding computing
is_list l (gives k) = same l k
is_list l (refuses k p) = false

-- a tree of these records
unfoldable pub is_parsed : String → Outcome Tree → Bool
unfolding is_tree
is_parsed t (gives u) = is_tree t u
is_parsed t (refuses k p) = false

-- the constant and the monomials
unfoldable pub is_listing : Bool → List ℕ → Outcome Listing → Bool
unfolding computing
is_listing b l (gives a) = not (b ⊕ a.constant) && same l a.masks
is_listing b l (refuses k p) = false

-- bytes, number of records, cost, raw cost
unfoldable pub is_compilation : List ℕ → ℕ → ℕ → ℕ → Outcome Compilation → Bool
unfolding computing
is_compilation s size cost raw (gives a) = same s a.bytes && eqb size a.records && eqb cost a.cost && eqb raw a.raw
is_compilation s size cost raw (refuses k p) = false

unfoldable pub is_costs : ℕ → ℕ → ℕ → Outcome Costs → Bool
is_costs cost size depth (gives a) = eqb cost a.cost && eqb size a.size && eqb depth a.depth
is_costs cost size depth (refuses k p) = false

-- a record as the records themselves write it
unfoldable pub kind_bytes : Kind → List ℕ
unfolding computing
kind_bytes (Constant b) = ascii "CO" ++ digit b ∷ []
kind_bytes (Flag i) = ascii "VA" ++ i ∷ []
kind_bytes And = ascii "AN"
kind_bytes Or = ascii "OR"
kind_bytes Xor = ascii "XO"
kind_bytes Not = ascii "NO"

-- the record of these letters and this payload, with where its operands begin, 0 for none, and the next place
unfoldable pub is_record : String → ℕ → ℕ → ℕ → Outcome (Option Node) → Bool
unfolding computing bytes_of kind_bytes
is_record t a b p (gives none) = false
is_record t a b p (gives (some r)) = same (bytes_of t) (kind_bytes r.kind) && eqb a r.first && eqb b r.second && eqb p r.next
is_record t a b p (refuses k q) = false

unfoldable pub is_end : Outcome (Option Node) → Bool
is_end (gives none) = true
is_end (gives (some r)) = false
is_end (refuses k p) = false
