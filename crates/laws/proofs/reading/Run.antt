-- Turns of the postfix machine: one ends, refuses, or reads a record, and several follow one another up to a place. What the machine makes of the
-- bytes, and what the reader finds at a place, goes by these turns. It rests on the machine's definition.
--   turn_of r l                       == the turn that reads the record r, which leaves l
--   turn_node o                         == the node of a turn, none where it reads none
--   turn_end, turn-full              == no byte is left; a record too many is refused
--   turn-bad, turn-few, turn-read    == a bad record is refused, and so is one that lacks operands; a good one is read
--   Taken, turn-taken                == a record that a turn gives was read so
--   turn-none                        == where a turn gives none no byte is left
--   Turns n s k p os l j q us        == the turns that read the records l lead from byte p with the stack os to byte q with us; k records may begin
--                                       before them, and j after them
--   turns_same, turns-append         == turns by equal numbers; turns one after another
--   run_end, run-refused, run-turn, run-turns
--                                    == what the machine makes at the end, where a turn refuses, and after turns
--   run-gives                        == a result before the end came by a turn
--   node-before, node-here, node-after, node-turns
--                                    == what the reader finds at a place before the next record, at its first byte, behind it, and after turns
--   node-refused, node_end           == and where the next record is refused, and no byte is left
use mathlib.Core.Bool.{true, false}
use mathlib.Core.List.{List, [], ◌∷◌, ◌++◌}
use mathlib.Core.Option.{Option, none, some}
use mathlib.Core.Path.{◌≡◌, refl, sym, ap, ◌∙◌}
use Prim.Native.Nat.{ℕ, zero, suc, ◌≤◌, ◌<◌}
use native.Mathlib.Decide.{dec_lt}
use native.Mathlib.Nat.{le_refl}
use native.Mathlib.Omega.{arith}
use lib.Dec.{eqb}
use lib.ListN.{length}
use borrow.Author.Tests.{lt-ltb, le-ltb, eq-eqb, ne_eqb}
use Rattle.rules.specs.Limits.{few_operands, many_records}
use Rattle.rules.specs.Machine.{Operand, Node, Left, Turn, push, operands, record_turn, turn, onward, finish, run, node_from}
use Rattle.rules.specs.Nodes.{Placed, sought}
use Rattle.rules.specs.Outcome.{Outcome, gives, refuses, ◌then◌}
use Rattle.rules.specs.Record.{Found, record_at}
use Rattle.rules.specs.Tree.{Tree}
use Rattle.laws.proofs.calls.Outcome.{not-both, none-some, then-gives}

abbrev pub turn_of : Found → Left → Turn
turn_of r l = record { node = record { kind = r.kind; first = l.first; second = l.second; next = r.next }; stack = l.stack }

-- the node that a turn reads
abbrev pub turn_node : Option Turn → Option Node
turn_node none = none
turn_node (some t) = some t.node

-- ---- one turn

pub turn_end : (k n : ℕ) (s : List ℕ) (p : ℕ) (os : List Operand) → length s ≤ p → turn k n s p os ≡ gives none
unfolding turn
turn_end zero n s p os h = rw (le-ltb p (length s) h, turn)
turn_end (suc k) n s p os h = rw (le-ltb p (length s) h, turn)

pub record Taken (n : ℕ) (s : List ℕ) (p : ℕ) (os : List Operand) (t : Turn) : Type 0 where
  pub found : Found
  pub left : Left
  pub reads : record_at n s p ≡ gives found
  pub pushes : push found.kind p os ≡ some left
  pub is : turn_of found left ≡ t

operands-gives : (p : ℕ) (o : Option Left) (l : Left) → operands p o ≡ gives l → o ≡ some l
unfolding operands
operands-gives p none l e = absurd (not-both (sym e))
operands-gives p (some m) l e = cc

module _ (n : ℕ) (s : List ℕ) (p : ℕ) (os : List Operand) where
  module _ (h : p < length s) where
    pub turn-full : turn zero n s p os ≡ refuses many_records p
    unfolding turn
    turn-full = rw (lt-ltb p (length s) h, turn)

    module _ (k : ℕ) where
      turn-record : turn (suc k) n s p os ≡ record_turn n s p os then (λ t. gives (some t))
      unfolding turn
      turn-record = rw (lt-ltb p (length s) h, turn)

      pub turn-bad : (j q : ℕ) → record_at n s p ≡ refuses j q → turn (suc k) n s p os ≡ refuses j q
      unfolding record_turn
      turn-bad j q e = turn-record ∙ rw e

      pub turn-few : (r : Found) → record_at n s p ≡ gives r → push r.kind p os ≡ none → turn (suc k) n s p os ≡ refuses few_operands p
      unfolding record_turn operands
      turn-few r e f = turn-record ∙ rw (e, f)

      pub turn-read : (r : Found) (l : Left) → record_at n s p ≡ gives r → push r.kind p os ≡ some l
          → turn (suc k) n s p os ≡ gives (some (turn_of r l))
      unfolding record_turn operands
      turn-read r l e f = turn-record ∙ rw (e, f)

      pub turn-taken : (t : Turn) → turn (suc k) n s p os ≡ gives (some t) → Taken n s p os t
      unfolding record_turn
      turn-taken t e =
          let c = then-gives (record_turn n s p os) _ (some t) (sym turn-record ∙ e) in
          let a = then-gives (record_at n s p) _ c.0 c.1 in
          let b = then-gives (operands p (push a.0.kind p os)) _ c.0 a.2 in
          record { found = a.0; left = b.0; reads = a.1; pushes = operands-gives p _ b.0 b.1; is = cc (b.2, c.2) }

  pub turn-none : (k : ℕ) → turn k n s p os ≡ gives none → length s ≤ p
  turn-none zero e = elim (dec_lt p (length s)) [ yes h ↦ absurd (not-both (sym e ∙ turn-full h)) | no h ↦ omega arith ]
  turn-none (suc k) e = elim (dec_lt p (length s)) [
    | yes h ↦ absurd (none-some (sym (then-gives (record_turn n s p os) _ none (sym (turn-record h k) ∙ e)).2))
    | no h ↦ omega arith
  ]

-- ---- what the machine makes

pub run-refused : (k n : ℕ) (s : List ℕ) (p : ℕ) (os : List Operand) (j q : ℕ) → turn k n s p os ≡ refuses j q → run k n s p os ≡ refuses j q
unfolding run
run-refused zero n s p os j q e = rw e
run-refused (suc k) n s p os j q e = rw e

pub run_end : (k n : ℕ) (s : List ℕ) (p : ℕ) (os : List Operand) → length s ≤ p → run k n s p os ≡ finish (length s) os
unfolding run
run_end zero n s p os h = rw (turn_end zero n s p os h)
run_end (suc k) n s p os h = rw (turn_end (suc k) n s p os h)

pub run-turn : (k n : ℕ) (s : List ℕ) (p : ℕ) (os : List Operand) (t : Turn) → turn (suc k) n s p os ≡ gives (some t)
    → run (suc k) n s p os ≡ run k n s t.node.next t.stack
unfolding run
run-turn k n s p os t e = rw e

pub run-gives : (k n : ℕ) (s : List ℕ) (p : ℕ) (os : List Operand) (t : Tree) → p < length s → run k n s p os ≡ gives t
    → (j : ℕ) × (k ≡ suc j) × ((u : Turn) × (turn k n s p os ≡ gives (some u)) × (run j n s u.node.next u.stack ≡ gives t))
unfolding run
run-gives zero n s p os t h e = absurd (not-both (sym e ∙ run-refused zero n s p os _ _ (turn-full n s p os h)))
run-gives (suc k) n s p os t h e = let a = then-gives (turn (suc k) n s p os) _ t e in go a.0 a.1 a.2
  where
    go : (o : Option Turn) → turn (suc k) n s p os ≡ gives o → onward (finish (length s) os) (λ u. run k n s u.node.next u.stack) o ≡ gives t
        → (j : ℕ) × (suc k ≡ suc j) × ((u : Turn) × (turn (suc k) n s p os ≡ gives (some u)) × (run j n s u.node.next u.stack ≡ gives t))
    go none f g = absurd (omega (arith, turn-none n s p os (suc k) f))
    go (some u) f g = (k, refl, (u, f, g))

-- ---- what the reader finds

module _ (n : ℕ) (s : List ℕ) (at p : ℕ) (os : List Operand) where
  pub node-before : (k : ℕ) → at < p → node_from k n s at p os ≡ refuses few_operands at
  unfolding node_from
  node-before zero h = rw (lt-ltb at p h)
  node-before (suc k) h = rw (lt-ltb at p h)

  module _ (h : p ≤ at) where
    pub node-refused : (k j q : ℕ) → turn k n s p os ≡ refuses j q → node_from k n s at p os ≡ refuses j q
    unfolding node_from
    node-refused zero j q e = rw (le-ltb at p h, e)
    node-refused (suc k) j q e = rw (le-ltb at p h, e)

    pub node_end : (k : ℕ) → length s ≤ p → node_from k n s at p os ≡ gives none
    unfolding node_from
    node_end zero l = rw (le-ltb at p h, turn_end zero n s p os l)
    node_end (suc k) l = rw (le-ltb at p h, turn_end (suc k) n s p os l)

  pub node-after : (k : ℕ) (t : Turn) → turn (suc k) n s p os ≡ gives (some t) → p < at
      → node_from (suc k) n s at p os ≡ node_from k n s at t.node.next t.stack
  unfolding node_from
  node-after k t e h =
      let le : p ≤ at = omega arith in
      rw (le-ltb at p le, e, ne_eqb at p (λ q. omega arith))

pub node-here : (k n : ℕ) (s : List ℕ) (p : ℕ) (os : List Operand) → node_from k n s p p os ≡ turn k n s p os then (λ o. gives (turn_node o))
unfolding node_from
node-here zero n s p os = rw (le-ltb p p (le_refl p)) (elim (dec_lt p (length s)) [
  | yes h ↦ rw (turn-full n s p os h)
  | no h ↦ let past : length s ≤ p = omega arith in rw (turn_end zero n s p os past)
])
node-here (suc k) n s p os = rw (le-ltb p p (le_refl p)) (go (turn (suc k) n s p os))
  where
    go : (o : Outcome (Option Turn))
        → (o then onward (gives none) (λ t. elim (eqb p p) [ true ↦ gives (some t.node) | false ↦ node_from k n s p t.node.next t.stack ]))
        ≡ (o then (λ u. gives (turn_node u)))
    go (gives none) = refl
    go (gives (some t)) = rw (eq-eqb p p refl)
    go (refuses j q) = refl

-- ---- turns one after another

pub data Turns (n : ℕ) (s : List ℕ) : ℕ → ℕ → List Operand → List Placed → ℕ → ℕ → List Operand → Type 0 where
  stay : {k p : ℕ} {os : List Operand} → Turns n s k p os [] k p os
  more : {k p j q : ℕ} {os us : List Operand} {l : List Placed} (t : Turn) → turn (suc k) n s p os ≡ gives (some t)
      → Turns n s k t.node.next t.stack l j q us
      → Turns n s (suc k) p os (record { place = p; node = t.node } ∷ l) j q us

pub turns_same : {n : ℕ} {s : List ℕ} {k m p j q r : ℕ} {os us : List Operand} {l i : List Placed} → k ≡ m → l ≡ i → q ≡ r
    → Turns n s k p os l j q us → Turns n s m p os i j r us
turns_same e f g a = rw (← e, ← f, ← g) a

pub turns-append : {n : ℕ} {s : List ℕ} {k p j q i r : ℕ} {os us vs : List Operand} {l m : List Placed}
    → Turns n s k p os l j q us → Turns n s j q us m i r vs → Turns n s k p os (l ++ m) i r vs
turns-append stay b = b
turns-append (more t e a) b = more t e (turns-append a b)

module _ {n : ℕ} {s : List ℕ} where
  pub run-turns : {k p j q : ℕ} {os us : List Operand} {l : List Placed} → Turns n s k p os l j q us → run k n s p os ≡ run j n s q us
  run-turns stay = refl
  run-turns (more {k = k} {p = p} {os = os} t e a) = run-turn k n s p os t e ∙ run-turns a

  pub node-turns : (at : ℕ) {k p j q : ℕ} {os us : List Operand} {l : List Placed} → Turns n s k p os l j q us
      → node_from k n s at p os ≡ sought at l (node_from j n s at q us)
  unfolding sought
  node-turns at stay = refl
  node-turns at (more {k = k} {p = p} {j = j} {q = q} {os = os} {us = us} {l = l} t e a) = elim (dec_lt at p) [
    | yes h ↦ node-before n s at p os (suc k) h ∙ rw (lt-ltb at p h)
    | no h ↦
        let le : p ≤ at = omega arith in
        elim (dec_lt p at) [
          | yes g ↦ node-after n s at p os k t e g ∙ node-turns at a ∙ rw (le-ltb at p le, ne_eqb at p (λ i. omega arith), sought)
          | no g ↦
              let same : at ≡ p = omega arith in
              ap (λ (i : ℕ). node_from (suc k) n s i p os) same ∙ node-here (suc k) n s p os ∙ rw (e, le-ltb at p le, eq-eqb at p same, sought)
        ]
  ]
