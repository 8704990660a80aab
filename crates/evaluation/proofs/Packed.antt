-- A stack of truth values as one number, and the walk over an expression that keeps it so: what a record makes of the number, what is known at each
-- record, and that the answer at the end is evaluation's. No proof of a function needs these laws today: the code keeps its truth values as the walk
-- of `walk` keeps any values. They rest on `packed` of the definitions and on the laws of reader's Stack, Walk and Turn.
--   packed-deep                      == the number of a stack has a bit more than the stack has operands
--   packed-leaf, packed-unary, packed-binary
--                                    == the number that a record leaves, by what it makes of the number before it
--   and-table, or-table, xor-table   == an operator's values as the bits of its table
--   Packing n s at count place stack starts depth
--                                    == a walk, where stack is the number of the machine's stack at the setting, and starts where its operands begin
--   packing-start, packing-step      == before the first record; one record more
--   packing-low, packing-reached     == a stack that is not full has few operands; so the reader's step can be asked
--   packing-end                      == at the end of the bytes one operand must be left, and it is the lowest bit
use mathlib.Core.Bool.{Bool, true, false, not, ◌&&◌, ◌||◌}
use mathlib.Core.List.{List, [], ◌∷◌}
use mathlib.Core.Option.{Option, some}
use mathlib.Core.Path.{◌≡◌, refl, sym, ap, ◌∙◌, subst}
use Prim.Native.Nat.{ℕ, ◌+◌, ◌-◌, ◌*◌, ◌/◌, ◌%◌, ◌^◌, ◌≤◌, ◌<◌}
use native.Mathlib.Decide.{dec_lt}
use native.Mathlib.Nat.{pow-suc}
use native.Mathlib.Omega.{arith}
use lib.Dec.{eqb}
use lib.ListN.{length, get_or, set, length-set}
use lib.Pow.{pow_mono}
use Rattle.bits.specs.Bit.{◌⊕◌, bit, digit}
use Rattle.bits.proofs.Bit.{bit-first, digit-bit, digit-le}
use Rattle.rules.specs.Limits.{rule_flags}
use Rattle.rules.specs.Machine.{Operand, Left, push, leaf, binary, unary}
use Rattle.rules.specs.Outcome.{gives}
use Rattle.rules.specs.Record.{Found, operand_count}
use Rattle.rules.specs.Tree.{Tree, value}
use Rattle.laws.proofs.reading.Stack.{no-left, some_left}
use Rattle.reader.specs.Inner.{operand, Image, Reached, begun, ended}
use Rattle.reader.proofs.Stack.{left_by, push-enough, image-empty}
use Rattle.reader.proofs.Turn.{Stepped}
use Rattle.reader.proofs.Walk.{Walk, walk_start, walk_step, walk-stack, walk_begins, walk-reached, walk_end}
use Rattle.evaluation.specs.inner.Packed.{packed}
use Rattle.evaluation.specs.inner.OneSetting.{evaluated}

-- ---- tables

pub and-table : (x y : Bool) → bit 0b1000 (2 * digit x + digit y) ≡ (x && y)
unfolding bit
and-table true true = refl
and-table true false = refl
and-table false true = refl
and-table false false = refl

pub or-table : (x y : Bool) → bit 0b1110 (2 * digit x + digit y) ≡ (x || y)
unfolding bit
or-table true true = refl
or-table true false = refl
or-table false true = refl
or-table false false = refl

pub xor-table : (x y : Bool) → bit 0b0110 (2 * digit x + digit y) ≡ (x ⊕ y)
unfolding bit
xor-table true true = refl
xor-table true false = refl
xor-table false true = refl
xor-table false false = refl

digit_not : (b : Bool) → 1 - digit b ≡ digit (not b)
digit_not true = refl
digit_not false = refl

-- ---- one record

module _ (at : ℕ) where
  pub packed-deep : (os : List Operand) → 2 ^ length os ≤ packed at os
  unfolding packed
  packed-deep [] = omega arith
  packed-deep (o ∷ os) = omega (arith, packed-deep os, pow-suc 2 (length os))

  -- the number of the stack that a record leaves
  left-packed : {l m : Left} → ◌≡◌ {A = Option Left} (some l) (some m) → packed at l.stack ≡ packed at m.stack
  left-packed e = ap (λ (l : Left). packed at l.stack) (some_left e)

  pub packed-leaf : (t : Tree) → {stack r : ℕ} → r ≡ 2 * stack + digit (value t at)
      → (os : List Operand) (p : ℕ) (l : Left) → packed at os ≡ stack → leaf t p os ≡ some l → r ≡ packed at l.stack
  unfolding packed leaf
  packed-leaf t is os p l e f = omega (arith, left-packed f)

  pub packed-unary : (op : Tree → Tree) → ((x : Tree) → value (op x) at ≡ not (value x at)) → {stack r : ℕ} → r ≡ 2 * (stack / 2) + (1 - stack % 2)
      → (os : List Operand) (l : Left) → packed at os ≡ stack → unary op os ≡ some l → r ≡ packed at l.stack
  unfolding packed unary
  packed-unary op law is [] l e f = no-left l f
  packed-unary op law {stack} is (x ∷ os) l e f =
      let v = value x.tree at in
      let small = digit-le v in
      let low : stack % 2 ≡ digit v = omega arith in
      let high : stack / 2 ≡ packed at os = omega arith in
      is ∙ rw (low, high, digit_not v, ← law x.tree) (left-packed f)

  pub packed-binary : (op : Tree → Tree → Tree) (f : Bool → Bool → Bool) → ((x y : Tree) → value (op x y) at ≡ f (value x at) (value y at))
      → (values : ℕ) → ((x y : Bool) → bit values (2 * digit x + digit y) ≡ f x y)
      → {stack r : ℕ} → r ≡ 2 * (stack / 4) + digit (bit values (stack % 4))
      → (os : List Operand) (l : Left) → packed at os ≡ stack → binary op os ≡ some l → r ≡ packed at l.stack
  unfolding packed binary
  packed-binary op f law values table is [] l e g = no-left l g
  packed-binary op f law values table is (y ∷ []) l e g = no-left l g
  packed-binary op f law values table {stack} is (y ∷ x ∷ os) l e g =
      let v = value x.tree at in
      let w = value y.tree at in
      let small = digit-le v in
      let least = digit-le w in
      let low : stack % 4 ≡ 2 * digit v + digit w = omega arith in
      let high : stack / 4 ≡ packed at os = omega arith in
      is ∙ rw (low, high, table v w, ← law x.tree y.tree) (left-packed g)

-- ---- the walk

pub record Packing (n : ℕ) (s : List ℕ) (at count place stack : ℕ) (starts : List ℕ) (depth : ℕ) : Type 0 where
  pub walk : Walk n s count place depth
  pub packs : packed at walk.stack ≡ stack
  pub begins : Image (λ o. o.start) walk.stack starts
  pub room : length starts ≡ 64

pub packing-start : (n : ℕ) (s : List ℕ) (at : ℕ) (starts : List ℕ) → length starts ≡ 64 → Packing n s at 0 0 1 starts 0
unfolding walk_start packed
packing-start n s at starts h = record { walk = walk_start n s; packs = refl; begins = image-empty (λ o. o.start) starts; room = h }

module _ {n : ℕ} {s : List ℕ} {at count place stack : ℕ} {starts : List ℕ} {depth : ℕ} (w : Packing n s at count place stack starts depth) where
  pub packing-low : stack < 2 ^ 63 → depth < 63
  packing-low h = elim (dec_lt depth 63) [
    | yes l ↦ l
    | no l ↦
        let most : 2 ^ 63 ≤ 2 ^ depth = pow_mono {i = 63} {j = depth} (omega arith) in
        let deep : 2 ^ depth ≤ stack = subst (λ (k : ℕ). 2 ^ k ≤ stack) w.walk.deep (omega (arith, packed-deep at w.walk.stack, w.packs)) in
        absurd (omega arith)
  ]

  pub packing-reached : n ≤ rule_flags → stack < 2 ^ 63 → Reached n s starts depth place count
  packing-reached l h = walk-reached w.walk l starts w.begins (omega (arith, packing-low h, w.room))

  pub packing-step : stack < 2 ^ 63 → {r : Found} → Stepped n s depth place count r → (base : ℕ) → base + operand_count r.kind ≡ depth
      → (next : ℕ) → ((os : List Operand) (p : ℕ) (l : Left) → packed at os ≡ stack → push r.kind p os ≡ some l → next ≡ packed at l.stack)
      → Packing n s at (count + 1) r.next next (set starts base (begun r.kind place (get_or starts base 0))) (base + 1)
  packing-step low {r} f base h next is =
      let fits : base < length starts = omega (arith, packing-low low, w.room) in
      record {
        walk = walk_step w.walk f.stands f.more base h;
        packs = ap (packed at) (walk-stack w.walk f.stands f.more base h)
            ∙ sym (is w.walk.stack place (left_by r.kind place w.walk.stack base) w.packs
            (push-enough r.kind place w.walk.stack base (omega (arith, w.walk.deep))));
        begins = walk_begins w.walk f.stands f.more base h starts fits w.begins;
        room = simp length-set w.room;
      }

  -- the value of the one operand of a stack is its lowest bit
  lowest : (os : List Operand) → length os ≡ 1 → packed at os ≡ stack → digit (value (operand os 0).tree at) ≡ digit (eqb (stack % 2) 1)
  unfolding packed operand
  lowest [] e p = absurd (omega arith)
  lowest (o ∷ []) e p =
      let small = digit-le (value o.tree at) in
      omega (arith, ap digit (sym (bit-first stack)), digit-bit stack 0)
  lowest (o ∷ u ∷ os) e p = absurd (omega arith)

  pub packing-end : length s ≤ place → evaluated n s at ≡ ended depth (length s) (gives (digit (eqb (stack % 2) 1)))
  unfolding evaluated
  packing-end h =
      walk_end w.walk (λ t. gives (digit (value t at))) (gives (digit (eqb (stack % 2) 1))) h
      (λ one. ap gives (lowest w.walk.stack one w.packs))
