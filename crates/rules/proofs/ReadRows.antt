-- Rows of the reader, computed with the definitions: the record at every place of small expressions, with where its operands begin, and each
-- refusal at a place before, inside and behind the record that is refused; and of what the theorems say of it, the records of small trees with their
-- places, the one sought among them, and operands as parts of the bytes. The values are worked by hand from document 01's sentences and from
-- request 5, which the comments quote; nothing here came from a program.
use mathlib.Core.Bool.{Bool, true, false, ◌&&◌}
use mathlib.Core.List.{List, [], ◌∷◌}
use mathlib.Core.Option.{none, some}
use mathlib.Core.Path.{◌≡◌, refl}
use Prim.Native.Nat.{ℕ}
use native.Mathlib.Omega.{arith}
use Prim.Native.String.{String}
use lib.Dec.{T, eqb, lit<}
use Rattle.bits.specs.Range.{all}
use Rattle.rules.specs.Ascii.{ascii}
use Rattle.rules.specs.Calls.{read}
use Rattle.rules.specs.Machine.{node_from}
use Rattle.rules.specs.Nodes.{Placed, Spanned, Whole, nodes, sought}
use Rattle.rules.specs.Outcome.{gives, refuses}
use Rattle.rules.specs.Record.{Constant, Flag, And, Or, Xor, Not, operand_count}
use Rattle.rules.specs.Tree.{Tree, CO, VA, AN, OR, XO, NO}
use Rattle.rules.proofs.Answers.{bytes_of, is_refusal, is_record, is_end}
use Rattle.rules.proofs.Computing.{computing}
use Rattle.rules.proofs.RefusalRows.{flag_first}

-- "its kind with payload and the next place"; a leaf has no operand
pub leaf-rows :
    T (
    is_record "CO0" 0 0 3 (read 2 (bytes_of "CO0") 0)
    && is_record "CO1" 0 0 3 (read 2 (bytes_of "CO1") 0)
    && is_record "VA0" 0 0 3 (read 2 (bytes_of "VA0 VA1 AN") 0)
    && is_record "VA1" 0 0 6 (read 2 (bytes_of "VA0 VA1 AN") 3)
    )
unfolding computing is_record bytes_of
leaf-rows = tt

-- "for each operator, the first byte of each operand besides the next place": operands that are one record, that are several, and with others below
-- them on the stack
pub operator-rows :
    T (
    is_record "AN" 0 3 8 (read 2 (bytes_of "VA0 VA1 AN") 6)
    && is_record "OR" 0 3 8 (read 2 (bytes_of "VA0 VA1 OR") 6)
    && is_record "XO" 0 3 8 (read 2 (bytes_of "VA0 VA1 XO") 6)
    && is_record "XO" 0 3 8 (read 2 (bytes_of "VA0 CO1 XO") 6)
    && is_record "NO" 0 0 5 (read 2 (bytes_of "VA0 NO CO1") 3)
    && is_record "NO" 8 0 13 (read 2 (bytes_of "VA0 VA1 XO VA0 NO OR") 11)
    && is_record "OR" 0 8 15 (read 2 (bytes_of "VA0 VA1 XO VA0 NO OR") 13)
    && is_record "AN" 3 6 11 (read 2 (bytes_of "CO1 VA0 VA1 AN VA1 OR XO") 9)
    && is_record "OR" 3 11 16 (read 2 (bytes_of "CO1 VA0 VA1 AN VA1 OR XO") 14)
    && is_record "XO" 0 3 18 (read 2 (bytes_of "CO1 VA0 VA1 AN VA1 OR XO") 16)
    )
unfolding computing is_record bytes_of
operator-rows = tt

-- all these places of the bytes s are refused by number k at place p
unfoldable pub refused_at : ℕ → ℕ → List ℕ → List ℕ → Bool
unfolding computing is_refusal
refused_at k p s places = all (λ at. is_refusal k p (read 2 s at)) places

-- "Number 8 also meets, and gives, a place below the byte length that is not the first byte of a record"
pub inside-rows :
    T (
    refused_at 8 1 (bytes_of "VA0 VA1 AN") (1 ∷ [])
    && refused_at 8 2 (bytes_of "VA0 VA1 AN") (2 ∷ [])
    && refused_at 8 5 (bytes_of "VA0 VA1 AN") (5 ∷ [])
    && refused_at 8 7 (bytes_of "VA0 VA1 AN") (7 ∷ [])
    && refused_at 8 1 (bytes_of "VA0 V") (1 ∷ [])
    )
unfolding computing refused_at bytes_of
inside-rows = tt

-- "at or past the length is the end", whatever is left on the stack
pub end-rows :
    T (
    is_end (read 2 [] 0)
    && is_end (read 2 [] 9)
    && is_end (read 2 (bytes_of "VA0") 3)
    && is_end (read 2 (bytes_of "VA0") 4)
    && is_end (read 2 (bytes_of "VA0 VA1") 6)
    && is_end (read 2 (bytes_of "VA0 VA1 AN") 1000)
    )
unfolding computing is_end bytes_of
end-rows = tt

-- "the refusal of a record that begins before the place comes first", also inside that record, behind it and at the end; the record at the place is
-- refused by its own row, and what stands behind the place is not asked for
pub refused-rows :
    T (
    refused_at 6 3 (bytes_of "VA0 V") (3 ∷ 4 ∷ 5 ∷ [])
    && refused_at 6 3 (bytes_of "VA0 ?? VA1") (3 ∷ 4 ∷ 5 ∷ 6 ∷ 8 ∷ 9 ∷ [])
    && refused_at 7 3 (bytes_of "VA0 VA2") (3 ∷ 4 ∷ 5 ∷ 6 ∷ 7 ∷ [])
    && refused_at 7 0 (ascii "CO") (0 ∷ 1 ∷ 2 ∷ [])
    && refused_at 8 0 (bytes_of "AN") (0 ∷ 1 ∷ 2 ∷ 3 ∷ [])
    && refused_at 8 3 (bytes_of "VA0 AN CO1") (3 ∷ 4 ∷ 5 ∷ 6 ∷ 8 ∷ [])
    && refused_at 8 0 (bytes_of "NO VA9") (0 ∷ 2 ∷ 5 ∷ [])
    && is_record "VA0" 0 0 3 (read 2 (bytes_of "VA0 ??") 0)
    && is_record "AN" 0 3 8 (read 2 (bytes_of "VA0 VA1 AN OR") 6)
    )
unfolding computing refused_at is_record bytes_of
refused-rows = tt

-- row 1 comes first, at place 0, whatever the bytes and the place
pub flag-rows : T (is_refusal 1 0 (read 7 (ascii "?") 3) && is_refusal 1 0 (read 7 (bytes_of "VA0") 3) && is_refusal 1 0 (read 7 (bytes_of "VA0") 1))
unfolding computing is_refusal bytes_of
flag-rows = tt

-- "by rows 9, 6, 7, 8": where no more records may begin, one that does is refused, also where it is no record and from behind it; the end is still
-- the end, and a place inside the last record is still no record. The 385th and the 386th record are in laws' LongRows.
pub many-rows :
    T (
    is_refusal 9 3 (node_from 0 1 (bytes_of "VA0 NO") 3 3 flag_first)
    && is_refusal 9 3 (node_from 0 1 (bytes_of "VA0 ?") 4 3 flag_first)
    && is_refusal 9 3 (node_from 0 1 (bytes_of "VA0 NO") 5 3 flag_first)
    && is_record "NO" 0 0 5 (node_from 1 1 (bytes_of "VA0 NO") 3 3 flag_first)
    && is_refusal 9 5 (node_from 1 1 (bytes_of "VA0 NO NO") 5 3 flag_first)
    && is_end (node_from 0 1 (bytes_of "VA0") 3 3 flag_first)
    && is_refusal 8 2 (node_from 0 1 (bytes_of "VA0") 2 3 flag_first)
    && is_refusal 8 2 (node_from 0 1 (bytes_of "VA0 NO") 2 3 flag_first)
    )
unfolding computing is_refusal is_record is_end bytes_of
many-rows = tt

-- "`AN`, `OR`, `XO`: two operands"; "`NO`: one operand"
pub operand_rows :
    T (
    eqb (operand_count (Constant true)) 0
    && eqb (operand_count (Flag 3)) 0
    && eqb (operand_count And) 2
    && eqb (operand_count Or) 2
    && eqb (operand_count Xor) 2
    && eqb (operand_count Not) 1
    )
operand_rows = tt

-- ---- the records of a tree

-- the record of these letters begins at byte at
unfoldable pub is_placed : ℕ → String → ℕ → ℕ → ℕ → Placed → Bool
unfolding is_record
is_placed at t a b p m = eqb at m.place && is_record t a b p (gives (some m.node))

-- as many records as tests, and each passes its own
unfoldable pub in_turn : List (Placed → Bool) → List Placed → Bool
in_turn [] [] = true
in_turn [] (m ∷ l) = false
in_turn (f ∷ fs) [] = false
in_turn (f ∷ fs) (m ∷ l) = f m && in_turn fs l

-- "VA0 VA1 XO VA0 NO OR"
unfoldable pub example_tree : Tree
example_tree = OR (XO (VA 0) (VA 1)) (NO (VA 0))

-- "writing each node's operands, first to last, and then the node", with each record's place: "VA0 VA1 XO VA0 NO OR" from byte 0, and "CO1 NO CO0 AN"
-- and "CO1 VA0 CO0 OR XO" from byte 13
pub nodes-rows :
    T (
    in_turn (
    is_placed 0 "VA0" 0 0 3 ∷ is_placed 3 "VA1" 0 0 6 ∷ is_placed 6 "XO" 0 3 8
    ∷ is_placed 8 "VA0" 0 0 11 ∷ is_placed 11 "NO" 8 0 13 ∷ is_placed 13 "OR" 0 8 15 ∷ [])
    (nodes 0 example_tree)
    && in_turn (is_placed 13 "CO1" 0 0 16 ∷ is_placed 16 "NO" 13 0 18 ∷ is_placed 18 "CO0" 0 0 21 ∷ is_placed 21 "AN" 13 18 23 ∷ [])
    (nodes 13 (AN (NO (CO true)) (CO false)))
    && in_turn (
    is_placed 13 "CO1" 0 0 16 ∷ is_placed 16 "VA0" 0 0 19 ∷ is_placed 19 "CO0" 0 0 22 ∷ is_placed 22 "OR" 16 19 24 ∷ is_placed 24 "XO" 13 16 26 ∷ [])
    (nodes 13 (XO (CO true) (OR (VA 0) (CO false))))
    )
unfolding computing in_turn is_placed example_tree
nodes-rows = tt

-- "a place .. that is not the first byte of a record": inside a record that another follows it is refused, and so before the first; inside the last
-- and behind it the answer is the one that is given for it
pub sought-rows :
    T (
    is_record "VA0" 0 0 3 (sought 0 (nodes 0 example_tree) (gives none))
    && is_record "XO" 0 3 8 (sought 6 (nodes 0 example_tree) (gives none))
    && is_record "OR" 0 8 15 (sought 13 (nodes 0 example_tree) (gives none))
    && is_refusal 8 1 (sought 1 (nodes 0 example_tree) (gives none))
    && is_refusal 8 7 (sought 7 (nodes 0 example_tree) (gives none))
    && is_refusal 8 12 (sought 12 (nodes 13 example_tree) (gives none))
    && is_refusal 4 5 (sought 14 (nodes 0 example_tree) (refuses 4 5))
    && is_refusal 4 5 (sought 15 (nodes 0 example_tree) (refuses 4 5))
    && is_end (sought 15 (nodes 0 example_tree) (gives none))
    && is_end (sought 0 [] (gives none))
    )
unfolding computing is_record is_refusal is_end example_tree
sought-rows = tt

-- ---- operands as parts of the bytes

-- "The bytes between the two starts are the first operand whole.": VA0 before VA1
pub spanned-row : Spanned 2 (bytes_of "VA0 VA1 AN") 6 And 0 3
unfolding computing bytes_of
spanned-row = record {
  one = VA 0;
  other = VA 1;
  one-whole = record { nonempty = lit< tt; written = refl; formed = refl };
  other-whole = record { nonempty = lit< tt; written = refl; formed = refl };
}

-- operands of several records: VA0 VA1 XO before VA0 NO
pub spanned-several : Spanned 2 (bytes_of "VA0 VA1 XO VA0 NO OR") 13 Or 0 8
unfolding computing bytes_of
spanned-several = record {
  one = XO (VA 0) (VA 1);
  other = NO (VA 0);
  one-whole = record { nonempty = lit< tt; written = refl; formed = refl };
  other-whole = record { nonempty = lit< tt; written = refl; formed = refl };
}

-- VA0 VA1 OR, with another operand before it
pub spanned-not : Spanned 2 (bytes_of "CO1 VA0 VA1 OR NO XO") 11 Not 3 0
unfolding computing bytes_of
spanned-not = record {
  operand = OR (VA 0) (VA 1);
  whole = record { nonempty = lit< tt; written = refl; formed = refl };
  no_other = refl;
}

pub spanned-xor : Spanned 2 (bytes_of "CO1 VA0 VA1 XO AN") 9 Xor 3 6
unfolding computing bytes_of
spanned-xor = record {
  one = VA 0;
  other = VA 1;
  one-whole = record { nonempty = lit< tt; written = refl; formed = refl };
  other-whole = record { nonempty = lit< tt; written = refl; formed = refl };
}

-- bytes that no tree writes are no operand, a leaf and NO have no second one, and a leaf no first
pub cut-operand : ¬ Spanned 2 (bytes_of "VA0 VA1 AN") 6 And 0 2
unfolding computing bytes_of
cut-operand h =
    let e : refuses 7 0 ≡ gives h.one = h.one-whole.formed in
    let z : ◌≡◌ {A = ℕ} 0 1 = cc in
    omega arith

pub flag-not-below : ¬ Whole 1 (bytes_of "VA1") 0 3 (VA 1)
unfolding computing bytes_of
flag-not-below h =
    let e : refuses 7 0 ≡ gives (VA 1) = h.formed in
    let z : ◌≡◌ {A = ℕ} 0 1 = cc in
    omega arith

pub leaf-operand : ¬ Spanned 2 (bytes_of "VA0 VA1 AN") 3 (Flag 1) 3 0
leaf-operand h = omega (arith, h.0)

pub leaf-second : ¬ Spanned 2 (bytes_of "VA0 VA1 AN") 3 (Flag 1) 0 3
leaf-second h = omega (arith, h.1)

pub negation-second : ¬ Spanned 2 (bytes_of "VA0 NO") 3 Not 0 3
negation-second h = omega (arith, h.no_other)
