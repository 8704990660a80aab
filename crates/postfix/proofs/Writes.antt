-- Trees written at a cursor: an operator's tree is its operands' records and its mark. It rests on the laws of runs (Put) and on the definitions of
-- `write`, `size` and `atop`.
--   size-write                           == each record has at least two bytes
--   write-constant                       == a constant's record, from its digit
--   atop-zero, atop-one                  == a tree with constant 0 and with constant 1, the constant being a digit
--   room_of, writes-of                   == room and records of an equal tree
--   Joins, an, or, xo                    == an operator of two operands and its mark; the three
--   room-left, room-right, room-mark     == room for the joined tree is room for each part, where the parts before it are written
--   writes-join                          == both operands and the mark are the joined tree
--   room-operand, room-no, writes-no     == so for NO
use mathlib.Core.Bool.{true}
use mathlib.Core.List.{List, [], ◌∷◌, ◌++◌}
use mathlib.Core.Path.{◌≡◌, refl, sym, ap}
use Prim.Native.Nat.{ℕ, zero, suc, ◌+◌, ◌*◌, ◌≤◌, ◌<◌}
use native.Mathlib.Omega.{arith}
use lib.Dec.{eqb}
use lib.ListN.{length, length-append}
use Rattle.rules.specs.Ascii.{ascii}
use Rattle.rules.specs.Cleanup.{atop}
use Rattle.rules.specs.Tree.{Tree, CO, VA, AN, OR, XO, NO, size, write}
use Rattle.postfix.specs.Put.{Room, Put, Writes}
use Rattle.postfix.specs.declared.cursor.Cursor.{Cursor}
use Rattle.postfix.proofs.Put.{put-append, put-eq, room-first, room_next, room-eq}

pub size-write : (t : Tree) → 2 * size t ≤ length (write t)
unfolding write size ascii
size-write (CO b) = omega arith
size-write (VA i) = omega arith
size-write (AN x y) = simp length-append (omega (arith, size-write x, size-write y))
size-write (OR x y) = simp length-append (omega (arith, size-write x, size-write y))
size-write (XO x y) = simp length-append (omega (arith, size-write x, size-write y))
size-write (NO x) = simp length-append (omega (arith, size-write x))

pub write-constant : (b : ℕ) → b < 2 → write (CO (eqb b 1)) ≡ 67 ∷ 79 ∷ b ∷ []
unfolding write ascii
write-constant zero h = refl
write-constant (suc zero) h = refl
write-constant (suc (suc b)) h = absurd (omega arith)

pub atop-zero : (k : ℕ) (t : Tree) → k ≡ 0 → atop (eqb k 1) t ≡ t
unfolding atop
atop-zero k t e = ap (λ (b : ℕ). atop (eqb b 1) t) e

pub atop-one : (k : ℕ) (t : Tree) → k < 2 → (k ≡ 0 → ⊥) → atop (eqb k 1) t ≡ XO (CO true) t
unfolding atop
atop-one k t h n = let e : k ≡ 1 = omega arith in ap (λ (b : ℕ). atop (eqb b 1) t) e

module _ {x y : Tree} {a : Cursor} {out : List ℕ} (e : x ≡ y) where
  pub room_of : Room (write x) a out → Room (write y) a out
  room_of r = room-eq (ap write e) r

  pub writes-of : {b : Cursor} {after : List ℕ} → Writes x a b out after → Writes y a b out after
  writes-of w = put-eq (ap write e) (ap size e) w

pub record Joins (op : Tree → Tree → Tree) (mark : List ℕ) : Type 0 where
  pub bytes : (x y : Tree) → write (op x y) ≡ write x ++ write y ++ mark
  pub records : (x y : Tree) → size (op x y) ≡ 1 + size x + size y

pub an : Joins AN (65 ∷ 78 ∷ [])
unfolding write size ascii
an = record { bytes = λ x y. refl; records = λ x y. refl }

pub or : Joins OR (79 ∷ 82 ∷ [])
unfolding write size ascii
or = record { bytes = λ x y. refl; records = λ x y. refl }

pub xo : Joins XO (88 ∷ 79 ∷ [])
unfolding write size ascii
xo = record { bytes = λ x y. refl; records = λ x y. refl }

module _ {op : Tree → Tree → Tree} {mark : List ℕ} (o : Joins op mark) (x y : Tree) {a : Cursor} {out : List ℕ} where
  pub room-left : Room (write (op x y)) a out → Room (write x) a out
  room-left h = room-first (write y) (room-first mark (room-eq (o.bytes x y) h))

  module _ {b : Cursor} {mid : List ℕ} (p : Writes x a b out mid) where
    pub room-right : Room (write (op x y)) a out → Room (write y) b mid
    room-right h = room_next (write y) (omega (arith, size-write x)) (room-first mark (room-eq (o.bytes x y) h)) p

    module _ {c : Cursor} {last : List ℕ} (q : Writes y b c mid last) where
      pub room-mark : Room (write (op x y)) a out → Room mark c last
      room-mark h =
          room_next mark (simp length-append (omega (arith, size-write x, size-write y))) (room-eq (o.bytes x y) h) (put-append p q)

      pub writes-join : {d : Cursor} {after : List ℕ} → Put mark 1 c d last after → Writes (op x y) a d out after
      writes-join r = put-eq (sym (o.bytes x y)) (omega (arith, o.records x y)) (put-append (put-append p q) r)

module _ (x : Tree) {a : Cursor} {out : List ℕ} where
  pub room-operand : Room (write (NO x)) a out → Room (write x) a out
  unfolding write
  room-operand h = room-first (ascii "NO") h

  module _ {b : Cursor} {mid : List ℕ} (p : Writes x a b out mid) where
    pub room-no : Room (write (NO x)) a out → Room (78 ∷ 79 ∷ []) b mid
    unfolding write ascii
    room-no h = room_next (78 ∷ 79 ∷ []) (omega (arith, size-write x)) h p

    pub writes-no : {c : Cursor} {after : List ℕ} → Put (78 ∷ 79 ∷ []) 1 b c mid after → Writes (NO x) a c out after
    unfolding write size ascii
    writes-no q = put-eq refl (omega arith) (put-append p q)
