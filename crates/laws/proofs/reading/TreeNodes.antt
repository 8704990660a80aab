-- What the reader answers at every place of a well-formed expression: the records of its tree, each at its first byte, and nothing else. It rests on
-- the machine's turns over a tree's bytes (ReadBack), on the reader's answers after turns (Run), and on what is well formed (WellFormed).
--   read-tree        == the reader's answer at any place, as one equation: the record of the tree that begins there, else refusal 8 or the end
--   read-node        == at the first byte of a record of the tree it is that record
--   only-nodes        == a record that it answers is a record of the tree, at that byte
--   length-nodes     == the records of a tree are as many as its size
use mathlib.Core.Bool.{Bool, true, false}
use mathlib.Core.List.{List, [], ◌∷◌, ◌++◌, append-nil}
use mathlib.Core.List.Memᴰ
use mathlib.Core.List.{Memᴰ}
use mathlib.Core.Logic.{inl, inr}
use mathlib.Core.Option.{Option, none, some}
use mathlib.Core.Path.{◌≡◌, refl, sym, ap, ap₂, ◌∙◌}
use Prim.Native.Nat.{ℕ, suc, ◌+◌, ◌-◌, ◌≤◌, ◌<◌}
use native.Mathlib.Decide.{dec_lt}
use native.Mathlib.Nat.{le_refl, le_trans}
use native.Mathlib.Omega.{arith}
use lib.Dec.{ltb, eqb, lit<}
use lib.ListN.{length, length-append}
use borrow.Author.Tests.{lt-ltb, le-ltb, eq-eqb, ne_eqb, eqb-true}
use Rattle.bits.specs.Range.{Below}
use Rattle.rules.specs.Ascii.{ascii}
use Rattle.rules.specs.Calls.{read}
use Rattle.rules.specs.Limits.{rule_flags, record_limit, few_operands}
use Rattle.rules.specs.Machine.{Node, Operand, made, node_from}
use Rattle.rules.specs.Nodes.{Placed, placed, behind, nodes, sought}
use Rattle.rules.specs.Outcome.{Outcome, gives, refuse}
use Rattle.rules.specs.Record.{Kind, Constant, Flag, And, Or, Xor, Not}
use Rattle.rules.specs.Tree.{Tree, CO, VA, AN, OR, XO, NO, size, write}
use Rattle.laws.proofs.calls.Outcome.{none-some, refuse-gives}
use Rattle.laws.proofs.reading.ReadBack.{turns-tree}
use Rattle.laws.proofs.reading.Run.{node-before, node_end, node-turns}
use Rattle.laws.proofs.reading.WellFormed.{made-is}

-- ---- as many as the size

pub length-nodes : (p : ℕ) (t : Tree) → length (nodes p t) ≡ size t
unfolding nodes size
length-nodes p (CO b) = refl
length-nodes p (VA i) = refl
length-nodes p (AN x y) = simp length-append (omega (arith, length-nodes p x, length-nodes (behind p x) y))
length-nodes p (OR x y) = simp length-append (omega (arith, length-nodes p x, length-nodes (behind p x) y))
length-nodes p (XO x y) = simp length-append (omega (arith, length-nodes p x, length-nodes (behind p x) y))
length-nodes p (NO x) = simp length-append (omega (arith, length-nodes p x))

-- ---- records in the order of their places

-- the places of the records ascend, from p up to below q
data Ascending : ℕ → ℕ → List Placed → Type 0 where
  done : {p q : ℕ} → p ≤ q → Ascending p q []
  next : {p q : ℕ} {m : Placed} {l : List Placed} → p ≤ m.place → Ascending (suc m.place) q l → Ascending p q (m ∷ l)

ascending-from : {o p q : ℕ} {l : List Placed} → o ≤ p → Ascending p q l → Ascending o q l
ascending-from h (done g) = done (le_trans h g)
ascending-from h (next g w) = next (le_trans h g) w

ascending-append : {p q r : ℕ} {l k : List Placed} → Ascending p q l → Ascending q r k → Ascending p r (l ++ k)
ascending-append (done g) w = ascending-from g w
ascending-append (next g v) w = next g (ascending-append v w)

ascending-last : {p q r : ℕ} {l : List Placed} (m : Placed) → Ascending p q l → q ≤ m.place → m.place < r → Ascending p r (l ++ m ∷ [])
ascending-last m v h g = ascending-append v (next h (done g))

-- the records of two operands, and then their operator of some bytes c
ascending-two : (p : ℕ) (k : Kind) (x y : Tree) (c : List ℕ) → 0 < length c → Ascending p (behind p x) (nodes p x)
    → Ascending (behind p x) (behind (behind p x) y) (nodes (behind p x) y)
    → Ascending p (p + length (write x ++ write y ++ c))
    (nodes p x ++ nodes (behind p x) y ++ placed (behind (behind p x) y) k p (behind p x) 2 ∷ [])
ascending-two p k x y c h v w =
    ascending-last (placed (behind (behind p x) y) k p (behind p x) 2) (ascending-append v w) (omega arith) (simp length-append (omega arith))

nodes-ascending : (p : ℕ) (t : Tree) → Ascending p (behind p t) (nodes p t)
unfolding nodes write ascii
nodes-ascending p (CO b) = ascending-last (placed p (Constant b) 0 0 3) (done (le_refl p)) (omega arith) (omega arith)
nodes-ascending p (VA i) = ascending-last (placed p (Flag i) 0 0 3) (done (le_refl p)) (omega arith) (omega arith)
nodes-ascending p (AN x y) = ascending-two p And x y (ascii "AN") (lit< tt) (nodes-ascending p x) (nodes-ascending (behind p x) y)
nodes-ascending p (OR x y) = ascending-two p Or x y (ascii "OR") (lit< tt) (nodes-ascending p x) (nodes-ascending (behind p x) y)
nodes-ascending p (XO x y) = ascending-two p Xor x y (ascii "XO") (lit< tt) (nodes-ascending p x) (nodes-ascending (behind p x) y)
nodes-ascending p (NO x) =
    ascending-last (placed (behind p x) Not p 0 2) (nodes-ascending p x) (omega arith) (simp length-append (omega arith))

ascending-place : {p q : ℕ} {l : List Placed} {m : Placed} → Ascending p q l → Memᴰ m l → p ≤ m.place
ascending-place (done g) i = absurd (Memᴰ.not-nil i)
ascending-place (next g w) i = elim (Memᴰ.cases_cons i) [
  | inl e ↦ omega (arith, ap (λ (a : Placed). a.place) e)
  | inr j ↦ omega (arith, ascending-place w j)
]

module _ (end : Outcome (Option Node)) where
  sought-here : (at : ℕ) (m : Placed) (l : List Placed) → at ≡ m.place → sought at (m ∷ l) end ≡ gives (some m.node)
  unfolding sought
  sought-here at m l e = let le : m.place ≤ at = omega arith in rw (le-ltb at m.place le, eq-eqb at m.place e, sought)

  sought-behind : (at : ℕ) (m : Placed) (l : List Placed) → m.place < at → sought at (m ∷ l) end ≡ sought at l end
  unfolding sought
  sought-behind at m l h =
      let le : m.place ≤ at = omega arith in
      rw (le-ltb at m.place le, ne_eqb at m.place (λ e. omega arith), sought)

  sought-member : {p q : ℕ} {l : List Placed} (m : Placed) → Ascending p q l → Memᴰ m l → sought m.place l end ≡ gives (some m.node)
  sought-member m (done g) i = absurd (Memᴰ.not-nil i)
  sought-member m (next {m = x} {l = l} g w) i = elim (Memᴰ.cases_cons i) [
    | inl e ↦ sought-here m.place x l (ap (λ (a : Placed). a.place) e) ∙ rw e
    | inr j ↦ sought-behind m.place x l (ascending-place w j) ∙ sought-member m w j
  ]

  member-sought : (l : List Placed) (at : ℕ) (r : Node) → ¬ (end ≡ gives (some r)) → sought at l end ≡ gives (some r)
      → Memᴰ (record { place = at; node = r }) l
  unfolding sought
  member-sought [] at r other e = absurd (other e)
  member-sought (x ∷ l) at r other e =
      go (eqb at x.place) refl (refuse-gives (ltb at x.place) few_operands at _ (some r) e).1 (member-sought l at r other)
    where
      go : (b : Bool) → eqb at x.place ≡ b → elim b [ true ↦ gives (some x.node) | false ↦ sought at l end ] ≡ gives (some r)
          → (sought at l end ≡ gives (some r) → Memᴰ (record { place = at; node = r }) l)
          → Memᴰ (record { place = at; node = r }) (x ∷ l)
      go true f g rest =
          let same : r ≡ x.node = cc in
          Memᴰ.head (ap₂ (λ (p : ℕ) (m : Node). record { place = p; node = m }) (eqb-true at x.place f) same)
      go false f g rest = Memᴰ.tail (rest g)

-- ---- the reader

-- behind the last record
at-end : (k n : ℕ) (s : List ℕ) (at : ℕ) (os : List Operand)
    → node_from k n s at (length s) os ≡ refuse (ltb at (length s)) few_operands at (gives none)
at-end k n s at os = elim (dec_lt at (length s)) [
  | yes h ↦ node-before n s at (length s) os k h ∙ rw (lt-ltb at (length s) h)
  | no h ↦
      let le : length s ≤ at = omega arith in
      node_end n s at (length s) os le k (le_refl (length s)) ∙ rw (le-ltb at (length s) le)
]

module _ (n : ℕ) (s : List ℕ) (t : Tree) (few : n ≤ rule_flags) (small : Below 256 s) (e : made n s ≡ gives t) where
  pub read-tree : (at : ℕ) → read n s at ≡ sought at (nodes 0 t) (refuse (ltb at (length s)) few_operands at (gives none))
  unfolding read
  read-tree at =
      let w = made-is n s t small e in
      let whole : behind 0 t ≡ length s = omega (arith, ap length w.bytes) in
      let turns = turns-tree n s t w.flags record_limit 0 [] [] w.records (w.bytes ∙ sym (append-nil (write t))) in
      rw (le-ltb rule_flags n few, node-turns at turns, whole)
      (ap (sought at (nodes 0 t)) (at-end (record_limit - size t) n s at (record { tree = t; start = 0 } ∷ [])))

  pub read-node : (m : Placed) → Memᴰ m (nodes 0 t) → read n s m.place ≡ gives (some m.node)
  read-node m i = read-tree m.place ∙ sought-member _ m (nodes-ascending 0 t) i

  pub only-nodes : (at : ℕ) (r : Node) → read n s at ≡ gives (some r) → Memᴰ (record { place = at; node = r }) (nodes 0 t)
  only-nodes at r g =
      member-sought (refuse (ltb at (length s)) few_operands at (gives none)) (nodes 0 t) at r
      (λ f. none-some (refuse-gives (ltb at (length s)) few_operands at (gives none) (some r) f).1) (sym (read-tree at) ∙ g)
