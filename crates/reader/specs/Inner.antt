-- Walks over an expression's records, for the contracts of inner functions: what a walk knows of the records that it has read, and what it answers.
--   join k x y           == the tree of a record of kind k over the trees x and y, of which it takes as many as the kind has
--   operand os i         == the stack's operand at place i, counted from the bottom
--   Image e os a         == the array a holds e of the stack's operands, bottom first; above them it holds anything
--   Reached n s starts depth place count
--                        == a walk has read count records of s up to a place: what the reader answers from there on goes by the stack that they
--                           leave, of depth operands, whose first bytes are starts
--   start_at a d i        == entry i of the array a, 0 where i is not among its first d
--   node_over r a d       == the record r over d operands, whose first bytes are the array a
--   begun k p x          == where the operand that a record of kind k at place p leaves begins, if its first operand begins at x
--   ended d len o        == the answer o at the end of len bytes, where d operands are left
--   Stacks entries ors starts
--                        == the arrays ors and starts have as many entries as the stack that they stand beside, one at least
--   Within entries o a   == over a stack of that many entries a walk answers o; it may be full, which is none, only if it has no more entries than
--                           there may be records
use Rattle.std.specs.Prelude.{Bool, true, false, not, List, [], ◌∷◌, ◌≡◌, ℕ, zero, suc, ◌+◌, ◌-◌, ◌≤◌, ◌<◌, eqb, ltb, length, get_or}
use Rattle.std.proofs.Math.Option.{Option, none, some}
use Rattle.rules.specs.Calls.{read}
use Rattle.rules.specs.Limits.{bad_end, record_limit}
use Rattle.rules.specs.Machine.{Operand, Node, node_from}
use Rattle.rules.specs.Outcome.{Outcome, refuse}
use Rattle.rules.specs.Record.{Kind, Constant, Flag, And, Or, Xor, Not, Found, operand_count}
use Rattle.rules.specs.Tree.{Tree, CO, VA, AN, OR, XO, NO}

abbrev pub join : Kind → Tree → Tree → Tree
join (Constant b) x y = CO b
join (Flag i) x y = VA i
join And x y = AN x y
join Or x y = OR x y
join Xor x y = XO x y
join Not x y = NO x

unfoldable pub operand : List Operand → ℕ → Operand
operand [] i = record { tree = CO false; start = 0 }
operand (o ∷ os) i = elim (eqb i (length os)) [ true ↦ o | false ↦ operand os i ]

abbrev pub Image : {A : Type 0} → (Operand → A) → List Operand → List A → Type 0
Image {A} e os a = (d : A) (i : ℕ) → i < length os → get_or a i d ≡ e (operand os i)

pub record Reached (n : ℕ) (s starts : List ℕ) (depth place count : ℕ) : Type 0 where
  pub stack : List Operand
  pub finds : (at : ℕ) → place ≤ at → read n s at ≡ node_from (record_limit - count) n s at place stack
  pub deep : length stack ≡ depth
  pub begins : Image (λ o. o.start) stack starts
  pub room : depth ≤ length starts

unfoldable pub start_at : List ℕ → ℕ → ℕ → ℕ
start_at a d i = elim (ltb i d) [ true ↦ get_or a i 0 | false ↦ 0 ]

abbrev pub node_over : Found → List ℕ → ℕ → Node
node_over r a d = record {
  kind = r.kind;
  first = start_at a d (d - operand_count r.kind);
  second = start_at a d (d - operand_count r.kind + 1);
  next = r.next;
}

-- the operand of a record with no operand begins with the record, and any other with the record's first operand
abbrev pub begun : Kind → ℕ → ℕ → ℕ
begun k p x = begin (operand_count k)
  where
    begin : ℕ → ℕ
    begin zero = p
    begin (suc c) = x

-- "no bytes, or more than one operand left" is refused at the byte length
abbrev pub ended : {A : Type 0} → ℕ → ℕ → Outcome A → Outcome A
ended depth len o = refuse (not (eqb depth 1)) bad_end len o

abbrev pub Stacks : ℕ → List Bool → List ℕ → Type 0
Stacks entries ors starts = (0 < entries) × (length ors ≡ entries) × (length starts ≡ entries)

-- "1 to 385 records": no more operands than records stand on a stack, so one with more entries is never full
abbrev pub Within : {A : Type 0} → ℕ → Outcome A → Option (Outcome A) → Type 0
Within entries o (some a) = a ≡ o
Within entries o none = entries ≤ record_limit
