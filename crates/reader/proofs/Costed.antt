-- Laws of a walk that keeps arrays beside the stack of what it computes: which trees are ORs, so that it counts what the OR discount saves, and where
-- the operands begin. The cost of the expression is the number of its records less what was saved. They hold whatever `e` the walk keeps of a tree
-- besides, and rest on the laws of Walk and Stack and of Saved.
--   saved_of o, is_or_of o                   == what an operand's tree saves, and whether it is an OR
--   saved-push                            == a record saves one where it is an OR and its first operand is an OR
--   Costed e n s entries count place depth a ors starts less
--                                         == a walk, where ors says which trees are ORs, starts where they begin, and less is what they save; all
--                                            arrays have that many entries
--   costed-start, costed-step             == before the first record; one record more
--   costed-reached                        == the reader's step can be asked
--   costed-less, costed-more, costed-fits == no more is saved than records are read, nor with the next record, and so it fits
--   costed-end                            == at the end of the bytes, where one operand must be left
use mathlib.Core.Bool.{Bool, true, false, ◌&&◌}
use mathlib.Core.List.{List}
use mathlib.Core.Path.{◌≡◌, refl, sym, ap, ap₂, ◌∙◌}
use Prim.Native.Nat.{ℕ, ◌+◌, ◌-◌, ◌^◌, ◌≤◌, ◌<◌}
use native.Mathlib.Omega.{arith}
use lib.ListN.{length, get_or, set, length-set}
use mir.Val.{bool_byte}
use Rattle.bits.specs.Bit.{digit}
use Rattle.bits.specs.Sum.{sum, total}
use Rattle.bits.proofs.Total.{total_mono}
use Rattle.rules.specs.Limits.{rule_flags}
use Rattle.rules.specs.Machine.{Operand, made}
use Rattle.rules.specs.Outcome.{Outcome, ◌then◌}
use Rattle.rules.specs.Record.{Kind, Constant, Flag, And, Or, Xor, Not, Found, operand_count}
use Rattle.rules.specs.Tree.{Tree, cost, size}
use Rattle.laws.proofs.cost.Saved.{is_or, saved, cost-saved}
use Rattle.expr.specs.Inner.{or_of}
use Rattle.reader.specs.Inner.{join, operand, Image, Reached, begun, ended}
use Rattle.reader.proofs.Stack.{left_by, total-two, total-one, total-single, image-empty, size_of}
use Rattle.reader.proofs.Turn.{Stepped}
use Rattle.bits.proofs.Bit.{byte-digit}
use Rattle.reader.proofs.Walk.{Walk, walk_start, walk_step, walk-stack, walk-image, walk_begins, walk-reached, walk_end, held, grown}

-- ---- one record

or-join : (k : Kind) (x y : Tree) → or_of k ≡ is_or (join k x y)
or-join (Constant b) x y = refl
or-join (Flag i) x y = refl
or-join And x y = refl
or-join Or x y = refl
or-join Xor x y = refl
or-join Not x y = refl

-- what an operand's tree saves, and whether it is an OR
abbrev pub saved_of : Operand → ℕ
saved_of o = saved o.tree

abbrev pub is_or_of : Operand → Bool
is_or_of o = is_or o.tree

pub saved-push : (k : Kind) (p : ℕ) (ts : List Operand) (base : ℕ) (b : Bool) → base + operand_count k ≡ length ts
    → (2 ≤ operand_count k → b ≡ is_or_of (operand ts base))
    → total saved_of (left_by k p ts base).stack ≡ total saved_of ts + digit (or_of k && b)
unfolding sum saved
saved-push (Constant c) p ts base b h is = omega arith
saved-push (Flag i) p ts base b h is = omega arith
saved-push And p ts base b h is = omega (arith, total-two saved_of ts base h)
saved-push Or p ts base b h is = omega (arith, total-two saved_of ts base h, ap digit (is (omega arith)))
saved-push Xor p ts base b h is = omega (arith, total-two saved_of ts base h)
saved-push Not p ts base b h is = omega (arith, total-one saved_of ts base h)

-- ---- the walk

pub record Costed {A : Type 0} (e : Tree → A) (n : ℕ) (s : List ℕ) (entries count place depth : ℕ) (a : List A) (ors : List Bool) (starts : List ℕ)
    (less : ℕ) : Type 0 where
  pub walk : Walk n s count place depth
  pub image : Image (λ o. e o.tree) walk.stack a
  pub kinds : Image is_or_of walk.stack ors
  pub begins : Image (λ o. o.start) walk.stack starts
  pub saves : total saved_of walk.stack ≡ less
  pub low : depth ≤ entries
  pub room : length a ≡ entries
  pub space : length ors ≡ entries
  pub lines : length starts ≡ entries

pub costed-start : {A : Type 0} (e : Tree → A) (n : ℕ) (s : List ℕ) (entries : ℕ) (a : List A) (ors : List Bool) (starts : List ℕ)
    → length a ≡ entries → length ors ≡ entries → length starts ≡ entries → Costed e n s entries 0 0 0 a ors starts 0
unfolding walk_start sum
costed-start e n s entries a ors starts h k l = record {
  walk = walk_start n s;
  image = image-empty (λ o. e o.tree) a;
  kinds = image-empty is_or_of ors;
  begins = image-empty (λ o. o.start) starts;
  saves = refl;
  low = omega arith;
  room = h;
  space = k;
  lines = l;
}

module _ {A : Type 0} {e : Tree → A} {n : ℕ} {s : List ℕ} {entries count place depth less : ℕ} {a : List A} {ors : List Bool} {starts : List ℕ}
    (w : Costed e n s entries count place depth a ors starts less) where
  pub costed-reached : n ≤ rule_flags → Reached n s starts depth place count
  costed-reached l = walk-reached w.walk l starts w.begins (omega (arith, w.low, w.lines))

  pub costed-less : less ≤ count
  costed-less =
      omega (arith, total_mono saved_of size_of w.walk.stack (λ o. omega (arith, cost-saved o.tree)), w.saves, w.walk.sizes)

  pub costed-more : (b : Bool) → less + bool_byte b ≤ count + 1
  costed-more true = omega (arith, costed-less)
  costed-more false = omega (arith, costed-less)

  pub costed-fits : (b : Bool) → less + bool_byte b < 2 ^ 64
  costed-fits b = omega (arith, costed-more b, w.walk.few)

  pub costed-step : {r : Found} → Stepped n s depth place count r → (base : ℕ) → base + operand_count r.kind ≡ depth → base < entries
      → (v : A) → v ≡ e (grown w.walk r.kind base).tree → (o : Bool) → o ≡ or_of r.kind
      → Costed e n s entries (count + 1) r.next (base + 1) (set a base v) (set ors base o)
      (set starts base (begun r.kind place (get_or starts base 0))) (less + bool_byte (o && get_or ors base false))
  costed-step {r} g base h below v is o or =
      let deep = w.walk.deep in
      let first = get_or ors base false in
      record {
        walk = walk_step w.walk g.stands g.more base h;
        image = walk-image w.walk g.stands g.more base h (λ x. e x.tree) a v (omega arith) is w.image;
        kinds = walk-image w.walk g.stands g.more base h is_or_of ors o (omega arith) (or ∙ or-join r.kind _ _) w.kinds;
        begins = walk_begins w.walk g.stands g.more base h starts (omega arith) w.begins;
        saves = ap (total saved_of) (walk-stack w.walk g.stands g.more base h)
            ∙ saved-push r.kind place w.walk.stack base first (omega arith) (λ q. w.kinds false base (omega arith))
            ∙ ap₂ ◌+◌ w.saves (ap (λ (b : Bool). digit (b && first)) (sym or) ∙ sym (byte-digit (o && first)));
        low = omega arith;
        room = simp length-set w.room;
        space = simp length-set w.space;
        lines = simp length-set w.lines;
      }

  pub costed-end : length s ≤ place → (d : A) → {B : Type 0} (g : A → ℕ → ℕ → Outcome B)
      → made n s then (λ t. g (e t) (cost t) (size t)) ≡ ended depth (length s) (g (get_or a 0 d) (count - less) count)
  costed-end h d {B} g =
      walk_end w.walk (λ t. g (e t) (cost t) (size t)) (g (get_or a 0 d) (count - less) count) h
      (λ one.
      let t : Tree = (held w.walk 0).tree in
      let many : size t ≡ count = sym (total-single size_of w.walk.stack one) ∙ w.walk.sizes in
      let few : saved t ≡ less = sym (total-single saved_of w.walk.stack one) ∙ w.saves in
      let left : cost t ≡ count - less = omega (arith, cost-saved t) in
      let kept : get_or a 0 d ≡ e t = w.image d 0 (omega arith) in
      rw (kept, left, many))
