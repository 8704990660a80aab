-- The postfix machine: it reads records in turn over a stack of operands, and the tree of the one that it leaves is the expression's. Every call
-- that takes an expression refuses by it, and the reader answers one of its turns.
--   Operand              == an operand on the stack: its tree, and its first byte
--   Node                 == a record that was read: its kind with payload, the first byte of its first and of its second operand, each 0 where there
--                           is none, and the next place
--   Left, push k p os    == what a record of kind k that begins at byte p leaves of the stack os: where the operands that it takes begin, and the
--                           stack after it, or none where an operand is lacking
--   Turn, record_turn n s p os == a node and the stack after it: the record that begins at byte p of s with n flags, or its refusal by rows 6, 7, 8
--   turn k n s p os      == the same when at most k more records may begin, and so by row 9 too; none where no byte is left
--   finish, onward       == what is answered at the end of the records; and what there and after a record
--   run, made n s        == the tree of the bytes s with n flags, or the refusal by rows 9, 6, 7, 8 record by record and then 10
--   WellFormed n s       == s is an expression of n flags
--   node_from k n s at p os == what the reader answers for the place at, where it has read up to byte p with the stack os and at most k more records
--                           may begin
use Rattle.std.specs.Prelude.{true, false, List, [], ◌∷◌, ◌≡◌, ℕ, zero, suc, ltb, eqb, length}
use Rattle.std.proofs.Math.Option.{Option, none, some}
use Rattle.rules.specs.Limits.{record_limit, few_operands, many_records, bad_end}
use Rattle.rules.specs.Outcome.{Outcome, gives, refuses, refuse, ◌then◌}
use Rattle.rules.specs.Record.{Kind, Constant, Flag, And, Or, Xor, Not, record_at}
use Rattle.rules.specs.Tree.{Tree, CO, VA, AN, OR, XO, NO}

pub record Operand : Type 0 where
  pub tree : Tree
  pub start : ℕ

-- request 5: "The record reader shall give, for each operator, the first byte of each operand besides the next place."
pub record Node : Type 0 where
  pub kind : Kind
  pub first : ℕ
  pub second : ℕ
  pub next : ℕ

-- ---- one record

pub record Left : Type 0 where
  pub first : ℕ
  pub second : ℕ
  pub stack : List Operand

-- a record that takes no operand leaves one that begins at the record's own first byte
unfoldable pub leaf : Tree → ℕ → List Operand → Option Left
leaf t p os = some (record { first = 0; second = 0; stack = record { tree = t; start = p } ∷ os })

-- "two operands, first operand first": the second is on top, and the bytes begin with those of the first
unfoldable pub binary : (Tree → Tree → Tree) → List Operand → Option Left
binary op [] = none
binary op (y ∷ []) = none
binary op (y ∷ x ∷ os) =
    some (record { first = x.start; second = y.start; stack = record { tree = op x.tree y.tree; start = x.start } ∷ os })

-- "one operand"
unfoldable pub unary : (Tree → Tree) → List Operand → Option Left
unary op [] = none
unary op (x ∷ os) = some (record { first = x.start; second = 0; stack = record { tree = op x.tree; start = x.start } ∷ os })

unfoldable pub push : Kind → ℕ → List Operand → Option Left
push (Constant b) p os = leaf (CO b) p os
push (Flag i) p os = leaf (VA i) p os
push And p os = binary AN os
push Or p os = binary OR os
push Xor p os = binary XO os
push Not p os = unary NO os

-- "too few" operands are refused at the record's first byte
unfoldable pub operands : ℕ → Option Left → Outcome Left
operands p none = refuses few_operands p
operands p (some l) = gives l

pub record Turn : Type 0 where
  pub node : Node
  pub stack : List Operand

-- rows 6, 7 and 8
unfoldable pub record_turn : ℕ → List ℕ → ℕ → List Operand → Outcome Turn
record_turn n s p os =
    record_at n s p then (λ r.
    operands p (push r.kind p os) then (λ l.
    gives (record { node = record { kind = r.kind; first = l.first; second = l.second; next = r.next }; stack = l.stack })))

-- "Rows 9, 6, 7, 8 run record by record": "a 386th record begins" is refused at its first byte
unfoldable pub turn : ℕ → ℕ → List ℕ → ℕ → List Operand → Outcome (Option Turn)
turn zero n s p os = elim (ltb p (length s)) [ true ↦ refuses many_records p | false ↦ gives none ]
turn (suc k) n s p os = elim (ltb p (length s)) [ true ↦ record_turn n s p os then (λ t. gives (some t)) | false ↦ gives none ]

-- ---- all records

-- "no bytes, or more than one operand left": with no bytes there is no operand
unfoldable pub finish : ℕ → List Operand → Outcome Tree
finish len [] = refuses bad_end len
finish len (o ∷ []) = gives o.tree
finish len (o ∷ u ∷ os) = refuses bad_end len

-- what is answered at the end of the bytes, and what after a record
abbrev pub onward : {A : Type 0} → A → (Turn → A) → Option Turn → A
onward end more none = end
onward end more (some t) = more t

-- from byte p with the stack os, when at most k more records may begin; where none may, the turn gives none or refuses
unfoldable pub run : ℕ → ℕ → List ℕ → ℕ → List Operand → Outcome Tree
run zero n s p os = turn zero n s p os then (λ o. finish (length s) os)
run (suc k) n s p os = turn (suc k) n s p os then onward (finish (length s) os) (λ t. run k n s t.node.next t.stack)

unfoldable pub made : ℕ → List ℕ → Outcome Tree
made n s = run record_limit n s 0 []

-- "It is well formed if it has 1 to 385 records, no operator lacks operands, and one operand is left at the end."
unfoldable pub WellFormed : ℕ → List ℕ → Type 0
WellFormed n s = (t : Tree) × (made n s ≡ gives t)

-- ---- the record at a place

-- request 5: "it reads the records from byte 0 by rows 9, 6, 7, 8, and the refusal of a record that begins before the place comes first. Number 8
-- also meets, and gives, a place below the byte length that is not the first byte of a record; at or past the length is the end, unless an earlier
-- record is refused.": records are read up to byte p, so that a place before p that was not found is inside the record that ends at p
unfoldable pub node_from : ℕ → ℕ → List ℕ → ℕ → ℕ → List Operand → Outcome (Option Node)
node_from zero n s at p os = refuse (ltb at p) few_operands at (turn zero n s p os then (λ o. gives none))
node_from (suc k) n s at p os =
    refuse (ltb at p) few_operands at
    (turn (suc k) n s p os then onward (gives none)
    (λ t. elim (eqb at p) [ true ↦ gives (some t.node) | false ↦ node_from k n s at t.node.next t.stack ]))
