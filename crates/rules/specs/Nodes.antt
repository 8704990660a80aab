-- What the reader's answers are shown to be: the records of a tree as its bytes hold them, and the operands of a record as parts of the bytes. They
-- are in no call's definition; the theorems are in laws (reading/TreeNodes and reading/Operands).
--   Placed           == a record with the byte at which it begins
--   placed, behind   == a record of so many bytes at a place; the byte behind a tree that begins at a place
--   nodes p t        == the records of the tree t, first to last, where its bytes begin at byte p
--   sought at l end  == of records l in the order of their places the one that begins at byte at; a place before the next of them is refused, and
--                       behind them all the answer is end
--   Whole n s a b t  == the bytes of s from a up to b are the tree t whole: they are what t writes, and well formed by themselves
--   Two, One, Spanned n s p k a b == a record of kind k at byte p has operands that begin at bytes a and b, as many as the kind has, each whole, and
--                       0 stands for one that it has not
use Rattle.std.specs.Prelude.{true, false, List, [], ◌∷◌, ◌++◌, ◌≡◌, ℕ, ◌+◌, ◌-◌, ◌<◌, ltb, eqb, length}
use Rattle.std.proofs.Math.Option.{Option, some}
use Rattle.bits.specs.Part.{part}
use Rattle.rules.specs.Limits.{few_operands}
use Rattle.rules.specs.Machine.{Node, made}
use Rattle.rules.specs.Outcome.{Outcome, gives, refuse}
use Rattle.rules.specs.Record.{Kind, Constant, Flag, And, Or, Xor, Not}
use Rattle.rules.specs.Tree.{Tree, CO, VA, AN, OR, XO, NO, write}

pub record Placed : Type 0 where
  pub place : ℕ
  pub node : Node

-- a record of so many bytes that begins at byte p
abbrev pub placed : ℕ → Kind → ℕ → ℕ → ℕ → Placed
placed p k first second bytes = record { place = p; node = record { kind = k; first = first; second = second; next = p + bytes } }

-- the byte behind the tree t that begins at byte p
abbrev pub behind : ℕ → Tree → ℕ
behind p t = p + length (write t)

-- "writing each node's operands, first to last, and then the node": the first operand begins where the tree does
unfoldable pub nodes : ℕ → Tree → List Placed
nodes p (CO b) = placed p (Constant b) 0 0 3 ∷ []
nodes p (VA i) = placed p (Flag i) 0 0 3 ∷ []
nodes p (AN x y) = nodes p x ++ nodes (behind p x) y ++ placed (behind (behind p x) y) And p (behind p x) 2 ∷ []
nodes p (OR x y) = nodes p x ++ nodes (behind p x) y ++ placed (behind (behind p x) y) Or p (behind p x) 2 ∷ []
nodes p (XO x y) = nodes p x ++ nodes (behind p x) y ++ placed (behind (behind p x) y) Xor p (behind p x) 2 ∷ []
nodes p (NO x) = nodes p x ++ placed (behind p x) Not p 0 2 ∷ []

-- "a place .. that is not the first byte of a record" is refused by 8
unfoldable pub sought : ℕ → List Placed → Outcome (Option Node) → Outcome (Option Node)
sought at [] end = end
sought at (m ∷ l) end =
    refuse (ltb at m.place) few_operands at
    (elim (eqb at m.place) [ true ↦ gives (some m.node) | false ↦ sought at l end ])

-- ---- operands as parts of the bytes

pub record Whole (n : ℕ) (s : List ℕ) (a b : ℕ) (t : Tree) : Type 0 where
  pub nonempty : a < b
  pub written : part s a (b - a) ≡ write t
  pub formed : made n (part s a (b - a)) ≡ gives t

-- request 5: "The bytes between the two starts are the first operand whole.": those from the second start up to the record are the second
pub record Two (n : ℕ) (s : List ℕ) (p first second : ℕ) : Type 0 where
  pub one : Tree
  pub other : Tree
  pub one-whole : Whole n s first second one
  pub other-whole : Whole n s second p other

pub record One (n : ℕ) (s : List ℕ) (p first second : ℕ) : Type 0 where
  pub operand : Tree
  pub whole : Whole n s first p operand
  pub no_other : second ≡ 0

abbrev pub Spanned : ℕ → List ℕ → ℕ → Kind → ℕ → ℕ → Type 0
Spanned n s p (Constant b) first second = (first ≡ 0) × (second ≡ 0)
Spanned n s p (Flag i) first second = (first ≡ 0) × (second ≡ 0)
Spanned n s p And first second = Two n s p first second
Spanned n s p Or first second = Two n s p first second
Spanned n s p Xor first second = Two n s p first second
Spanned n s p Not first second = One n s p first second
