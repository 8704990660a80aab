-- A record that a walk reads stands over the trees on its stack, and the walk's answer where the bytes are refused, and at their end. From the laws
-- of reader's Costed, Turn and Walk.
--   applied              == the operands of the record are those on the stack, and their values are there
--   walked-refused, walked_end == what the walk answers
use mathlib.Core.Bool.{Bool}
use mathlib.Core.List.{List}
use mathlib.Core.Path.{◌≡◌, ap}
use Prim.Native.Nat.{ℕ, ◌+◌, ◌-◌, ◌≤◌}
use native.Mathlib.Omega.{arith}
use lib.ListN.{length, get_or}
use Rattle.rules.specs.Machine.{made}
use Rattle.rules.specs.Outcome.{Outcome, gives, refuses, ◌then◌}
use Rattle.rules.specs.Record.{Found, operand_count}
use Rattle.rules.specs.Tree.{Tree, size, cost}
use Rattle.expr.proofs.ReadRecord.{read-index}
use Rattle.reader.specs.Inner.{ended}
use Rattle.reader.proofs.Costed.{Costed, costed-end}
use Rattle.reader.proofs.Turn.{Stepped}
use Rattle.reader.proofs.Walk.{held, walk-size}
use Rattle.walk.specs.Walked.{Applied, walked}
use Rattle.walk.specs.declared.Seen.{Seen}

module _ {A : Type 0} {e : Tree → A} {n : ℕ} {s : List ℕ} {entries count place depth : ℕ} {a : List A} {ors : List Bool} {starts : List ℕ} {less : ℕ}
    (w : Costed e n s entries count place depth a ors starts less) where
  pub applied : {r : Found} → Stepped n s depth place count r → (base : ℕ) → base + operand_count r.kind ≡ depth → (m : ℕ) → n ≤ m → (d q : A)
      → Applied e m r.kind (get_or a base d) (get_or a (base + 1) q) (held w.walk base).tree (held w.walk (base + 1)).tree
  applied {r} f base h m l d q =
      let deep = w.walk.deep in
      record {
        first = λ o. w.image d base (omega arith);
        second = λ o. w.image q (base + 1) (omega arith);
        flag = read-index f.stands m l;
        few = omega (arith, walk-size w.walk f.stands f.more base h, f.more);
      }

  pub walked_end : length s ≤ place → (d : A)
      → walked e n s ≡ ended depth (length s) (gives (record { value = get_or a 0 d; size = count; cost = count - less }))
  unfolding walked
  walked_end h d = costed-end w h d {B = Seen A} (λ v c z. gives (record { value = v; size = z; cost = c }))

pub walked-refused : {A : Type 0} (e : Tree → A) (n : ℕ) (s : List ℕ) {k p : ℕ} → made n s ≡ refuses k p → walked e n s ≡ refuses k p
unfolding walked
walked-refused e n s r = ap (λ (o : Outcome Tree). o then (λ t. gives (record { value = e t; size = size t; cost = cost t }))) r
