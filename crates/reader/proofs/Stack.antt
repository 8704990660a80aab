-- Laws of the machine's stack of operands: what a record does to it, and an array that holds the images of its operands, bottom first. It rests on
-- `push` of rules' Machine alone.
--   built p k x y             == the operand that a record of kind k over the operands x and y leaves, where it begins at byte p
--   begun-none, begun-some   == a record with no operand begins its own, and any other with its first operand
--   first_of k x, second_of k y == where its operands begin, 0 for none
--   left_by k p ts base       == what such a record leaves of the stack ts, where its operands are those from place base on
--   push-enough, push-few    == what a record does to the stack, where it finds its operands and where it does not
--   total-two, total-one     == what the operands of a record add to a total over the stack
--   total-single             == the total over a stack of one operand
--   size_of o, size-push      == the records of an operand; a record adds one to the stack's size
--   image-empty, image-push  == the image of no operand; one store keeps the image up with a record
use mathlib.Core.Bool.{Bool, true, false}
use mathlib.Core.List.{List, [], ◌∷◌}
use mathlib.Core.Option.{none, some}
use mathlib.Core.Path.{◌≡◌, refl, sym, ap, ◌∙◌}
use Prim.Native.Nat.{ℕ, zero, suc, ◌+◌, ◌<◌}
use native.Mathlib.Nat.{add-zero}
use native.Mathlib.Omega.{arith}
use lib.Dec.{eqb}
use lib.ListN.{length, get_or, drop, set, length-drop}
use lib.Seq.{get_or-set_same, get_or-set_other}
use borrow.Author.Tests.{eq-eqb, ne_eqb, eqb-true, eqb-false}
use Rattle.bits.specs.Sum.{sum, total}
use Rattle.rules.specs.Machine.{Operand, Left, push, leaf, binary, unary}
use Rattle.rules.specs.Record.{Kind, Constant, Flag, And, Or, Xor, Not, operand_count}
use Rattle.rules.specs.Tree.{Tree, AN, OR, XO, size}
use Rattle.reader.specs.Inner.{join, operand, Image, begun}

abbrev pub built : ℕ → Kind → Operand → Operand → Operand
built p k x y = record { tree = join k x.tree y.tree; start = begun k p x.start }

abbrev pub first_of : Kind → Operand → ℕ
first_of (Constant b) x = 0
first_of (Flag i) x = 0
first_of And x = x.start
first_of Or x = x.start
first_of Xor x = x.start
first_of Not x = x.start

abbrev pub second_of : Kind → Operand → ℕ
second_of (Constant b) y = 0
second_of (Flag i) y = 0
second_of And y = y.start
second_of Or y = y.start
second_of Xor y = y.start
second_of Not y = 0

pub begun-none : (k : Kind) (p x : ℕ) → operand_count k ≡ 0 → begun k p x ≡ p
begun-none (Constant b) p x e = refl
begun-none (Flag i) p x e = refl
begun-none And p x e = absurd (omega arith)
begun-none Or p x e = absurd (omega arith)
begun-none Xor p x e = absurd (omega arith)
begun-none Not p x e = absurd (omega arith)

pub begun-some : (k : Kind) (p x : ℕ) → 0 < operand_count k → begun k p x ≡ x
begun-some (Constant b) p x h = absurd (omega arith)
begun-some (Flag i) p x h = absurd (omega arith)
begun-some And p x h = refl
begun-some Or p x h = refl
begun-some Xor p x h = refl
begun-some Not p x h = refl

-- ---- places on the stack

operand-top : (t : Operand) (ts : List Operand) (i : ℕ) → i ≡ length ts → operand (t ∷ ts) i ≡ t
unfolding operand
operand-top t ts i h = rw (eq-eqb i (length ts) h, operand)

operand_below : (t : Operand) (ts : List Operand) (i : ℕ) → i < length ts → operand (t ∷ ts) i ≡ operand ts i
unfolding operand
operand_below t ts i h = rw (ne_eqb i (length ts) (λ e. omega arith), operand)

operand-drop : (k : ℕ) (ts : List Operand) (i : ℕ) → i + k < length ts → operand (drop k ts) i ≡ operand ts i
operand-drop zero ts i h = refl
operand-drop (suc k) [] i h = refl
operand-drop (suc k) (t ∷ ts) i h = operand-drop k ts i (omega arith) ∙ sym (operand_below t ts i (omega arith))

-- ---- what a record does

-- what a record of kind k at byte p leaves of a stack that has its operands from place base on
abbrev pub left_by : Kind → ℕ → List Operand → ℕ → Left
left_by k p ts base = record {
  first = first_of k (operand ts base);
  second = second_of k (operand ts (base + 1));
  stack = built p k (operand ts base) (operand ts (base + 1)) ∷ drop (operand_count k) ts;
}

binary-enough : (k : Kind) (op : Tree → Tree → Tree) (p : ℕ) → ((x y : Operand) (ts : List Operand)
    → binary op (y ∷ x ∷ ts) ≡ some (record { first = first_of k x; second = second_of k y; stack = built p k x y ∷ ts }))
    → operand_count k ≡ 2 → (ts : List Operand) (base : ℕ) → base + 2 ≡ length ts → binary op ts ≡ some (left_by k p ts base)
binary-enough k op p law c [] base h = absurd (omega arith)
binary-enough k op p law c (y ∷ []) base h = absurd (omega arith)
binary-enough k op p law c (y ∷ x ∷ ts) base h =
    law x y ts
    ∙ rw (c, operand_below y (x ∷ ts) base (omega arith), operand-top x ts base (omega arith), operand-top y (x ∷ ts) (base + 1) (omega arith))

pub push-enough : (k : Kind) (p : ℕ) (ts : List Operand) (base : ℕ) → base + operand_count k ≡ length ts → push k p ts ≡ some (left_by k p ts base)
unfolding push leaf binary unary
push-enough (Constant b) p ts base h = refl
push-enough (Flag i) p ts base h = refl
push-enough And p ts base h = binary-enough And AN p (λ x y us. refl) refl ts base h
push-enough Or p ts base h = binary-enough Or OR p (λ x y us. refl) refl ts base h
push-enough Xor p ts base h = binary-enough Xor XO p (λ x y us. refl) refl ts base h
push-enough Not p [] base h = absurd (omega arith)
push-enough Not p (x ∷ ts) base h = rw (operand-top x ts base (omega arith))

binary-few : (op : Tree → Tree → Tree) (ts : List Operand) → length ts < 2 → binary op ts ≡ none
unfolding binary
binary-few op [] h = refl
binary-few op (y ∷ []) h = refl
binary-few op (y ∷ x ∷ ts) h = absurd (omega arith)

pub push-few : (k : Kind) (p : ℕ) (ts : List Operand) → length ts < operand_count k → push k p ts ≡ none
unfolding push unary
push-few (Constant b) p ts h = absurd (omega arith)
push-few (Flag i) p ts h = absurd (omega arith)
push-few And p ts h = binary-few AN ts h
push-few Or p ts h = binary-few OR ts h
push-few Xor p ts h = binary-few XO ts h
push-few Not p [] h = refl
push-few Not p (x ∷ ts) h = absurd (omega arith)

-- ---- totals

module _ (f : Operand → ℕ) where
  pub total-two : (ts : List Operand) (base : ℕ) → base + 2 ≡ length ts
      → f (operand ts base) + f (operand ts (base + 1)) + total f (drop 2 ts) ≡ total f ts
  unfolding sum
  total-two [] base h = absurd (omega arith)
  total-two (y ∷ []) base h = absurd (omega arith)
  total-two (y ∷ x ∷ ts) base h =
      rw (operand_below y (x ∷ ts) base (omega arith), operand-top x ts base (omega arith), operand-top y (x ∷ ts) (base + 1) (omega arith))
      (omega arith)

  pub total-one : (ts : List Operand) (base : ℕ) → base + 1 ≡ length ts → f (operand ts base) + total f (drop 1 ts) ≡ total f ts
  unfolding sum
  total-one [] base h = absurd (omega arith)
  total-one (x ∷ ts) base h = rw (operand-top x ts base (omega arith))

  pub total-single : (ts : List Operand) → length ts ≡ 1 → total f ts ≡ f (operand ts 0)
  unfolding sum operand
  total-single [] h = absurd (omega arith)
  total-single (t ∷ []) h = add-zero (f t)
  total-single (t ∷ u ∷ ts) h = absurd (omega arith)

-- ---- sizes

abbrev pub size_of : Operand → ℕ
size_of o = size o.tree

pub size-push : (k : Kind) (p : ℕ) (ts : List Operand) (base : ℕ) → base + operand_count k ≡ length ts
    → total size_of (left_by k p ts base).stack ≡ total size_of ts + 1
unfolding sum size
size-push (Constant b) p ts base h = omega arith
size-push (Flag i) p ts base h = omega arith
size-push And p ts base h = omega (arith, total-two size_of ts base h)
size-push Or p ts base h = omega (arith, total-two size_of ts base h)
size-push Xor p ts base h = omega (arith, total-two size_of ts base h)
size-push Not p ts base h = omega (arith, total-one size_of ts base h)

-- ---- images

module _ {A : Type 0} (e : Operand → A) where
  pub image-empty : (a : List A) → Image e [] a
  image-empty a d i h = absurd (omega arith)

  pub image-push : (t : Operand) (ts : List Operand) (k base : ℕ) (a : List A) (v : A) → base + k ≡ length ts → base < length a → v ≡ e t
      → Image e ts a → Image e (t ∷ drop k ts) (set a base v)
  image-push t ts k base a v h room is old d i l = go (eqb i base) refl
    where
      deep : length (drop k ts) ≡ base
      deep = omega (arith, length-drop k ts)

      go : (b : Bool) → eqb i base ≡ b → get_or (set a base v) i d ≡ e (operand (t ∷ drop k ts) i)
      go true q =
          let same : i ≡ base = eqb-true i base q in
          rw (operand-top t (drop k ts) i (omega (arith, deep)), same) (get_or-set_same a base v d room ∙ is)
      go false q =
          let below : i < base = omega (arith, deep, eqb-false i base q) in
          get_or-set_other a base i v d (eqb-false i base q) ∙ old d i (omega arith)
          ∙ ap e (sym (operand_below t (drop k ts) i (omega (arith, deep)) ∙ operand-drop k ts i (omega arith)))
