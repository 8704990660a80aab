-- A walk that makes what it keeps of a record's tree from what it keeps of the operands' trees: what it makes is that of the tree, and one record
-- more. No proof of a function needs these laws today: `walk` asks it of the operation at the trees themselves. They rest on the laws of Costed.
--   Folds e f      == f k gives e of a record's tree from e of its operands, of those that the kind k has
--   costed-fold    == what a fold makes of the array's entries is e of the record's tree
--   folded-step    == one record more
use mathlib.Core.Bool.{Bool, false, ◌&&◌}
use mathlib.Core.List.{List}
use mathlib.Core.Path.{◌≡◌, ◌∙◌}
use Prim.Native.Nat.{ℕ, ◌+◌, ◌≤◌, ◌<◌}
use native.Mathlib.Omega.{arith}
use lib.ListN.{get_or, set}
use mir.Val.{bool_byte}
use Rattle.rules.specs.Record.{Kind, Found, operand_count}
use Rattle.rules.specs.Tree.{Tree}
use Rattle.expr.specs.Inner.{or_of}
use Rattle.reader.specs.Inner.{join, begun}
use Rattle.reader.proofs.Costed.{Costed, costed-step}
use Rattle.reader.proofs.Turn.{Stepped}
use Rattle.reader.proofs.Walk.{held, grown}

abbrev pub Folds : {A : Type 0} → (Tree → A) → (Kind → A → A → A) → Type 0
Folds {A} e f = (k : Kind) (x y : Tree) (a b : A) → (1 ≤ operand_count k → a ≡ e x) → (2 ≤ operand_count k → b ≡ e y) → f k a b ≡ e (join k x y)

module _ {A : Type 0} {e : Tree → A} {n : ℕ} {s : List ℕ} {entries count place depth less : ℕ} {a : List A} {ors : List Bool} {starts : List ℕ}
    (w : Costed e n s entries count place depth a ors starts less) {f : Kind → A → A → A} (law : Folds e f) (d : A) where
  pub costed-fold : (k : Kind) (base : ℕ) → base + operand_count k ≡ depth → f k (get_or a base d) (get_or a (base + 1) d) ≡ e (grown
      w.walk k base).tree
  costed-fold k base h =
      let deep = w.walk.deep in
      law k (held w.walk base).tree (held w.walk (base + 1)).tree (get_or a base d) (get_or a (base + 1) d)
      (λ q. w.image d base (omega arith)) (λ q. w.image d (base + 1) (omega arith))

  pub folded-step : {r : Found} → Stepped n s depth place count r → (base : ℕ) → base + operand_count r.kind ≡ depth → base < entries
      → (v : A) → v ≡ f r.kind (get_or a base d) (get_or a (base + 1) d) → (o : Bool) → o ≡ or_of r.kind
      → Costed e n s entries (count + 1) r.next (base + 1) (set a base v) (set ors base o)
      (set starts base (begun r.kind place (get_or starts base 0))) (less + bool_byte (o && get_or ors base false))
  folded-step {r} g base h below v is o or = costed-step w g base h below v (is ∙ costed-fold r.kind base h) o or
