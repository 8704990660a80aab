-- The machine's stack, top first, as what has been read: its bytes, its records, its flags, and what a push adds to them. It rests on the
-- machine's definition.
--   trees os         == the trees of the stack's operands
--   writes ts        == the bytes of the trees, the lowest first
--   sizes ts         == their records
--   after p ts       == the byte behind the trees, of which the lowest begins at byte p
--   laid p ts        == the trees as operands, each with its first byte, where the lowest begins at byte p
--   after-writes     == that byte is behind the bytes of the trees
--   no-left, some_left
--                    == a push that leaves something lacked no operand, and what it leaves is one
--   Pushed, pushed   == a push adds one record's bytes, one record, and no flag but its own
use mathlib.Core.List.{List, [], ◌∷◌, ◌++◌, append_assoc, append-nil}
use mathlib.Core.Option.{Option, none, some}
use mathlib.Core.Path.{◌≡◌, refl, sym, ap, ◌∙◌, subst}
use Prim.Native.Nat.{ℕ, suc, ◌+◌}
use native.Mathlib.Omega.{arith}
use lib.ListN.{length, length-append}
use Rattle.bits.proofs.Every.{Every, every-left, every-right}
use Rattle.rules.specs.Machine.{Operand, Left, leaf, binary, unary, push}
use Rattle.rules.specs.Record.{Kind, Constant, Flag, And, Or, Xor, Not, FlagBelow}
use Rattle.rules.specs.Tree.{Tree, CO, VA, AN, OR, XO, NO, size, write, FlagsBelow}
use Rattle.laws.proofs.reading.RecordAt.{bytes_of}

abbrev pub trees : List Operand → List Tree
trees [] = []
trees (o ∷ os) = o.tree ∷ trees os

abbrev pub writes : List Tree → List ℕ
writes [] = []
writes (t ∷ ts) = writes ts ++ write t

abbrev pub sizes : List Tree → ℕ
sizes [] = 0
sizes (t ∷ ts) = sizes ts + size t

abbrev pub after : ℕ → List Tree → ℕ
after p [] = p
after p (t ∷ ts) = after p ts + length (write t)

abbrev pub laid : ℕ → List Tree → List Operand
laid p [] = []
laid p (t ∷ ts) = record { tree = t; start = after p ts } ∷ laid p ts

pub after-writes : (p : ℕ) (ts : List Tree) → after p ts ≡ p + length (writes ts)
after-writes p [] = omega arith
after-writes p (t ∷ ts) = omega (arith, after-writes p ts, length-append (writes ts) (write t))

pub record Pushed (k : Kind) (ts us : List Tree) : Type 0 where
  pub bytes : writes us ≡ writes ts ++ bytes_of k
  pub records : sizes us ≡ suc (sizes ts)
  pub flags : (n : ℕ) → FlagBelow n k → Every (FlagsBelow n) ts → Every (FlagsBelow n) us

writes-append : (xs ts : List Tree) → writes (xs ++ ts) ≡ writes ts ++ writes xs
writes-append [] ts = sym (append-nil (writes ts))
writes-append (x ∷ xs) ts = rw (writes-append xs ts, append_assoc)

sizes-append : (xs ts : List Tree) → sizes (xs ++ ts) ≡ sizes ts + sizes xs
sizes-append [] ts = omega arith
sizes-append (x ∷ xs) ts = omega (arith, sizes-append xs ts)

-- what makes t of the operands xs makes it of them on any stack
module _ (k : Kind) (xs : List Tree) (t : Tree) (ts : List Tree) (d : Pushed k xs (t ∷ [])) where
  on : Pushed k (xs ++ ts) (t ∷ ts)
  on = record {
    bytes = ap (λ (l : List ℕ). writes ts ++ l) d.bytes ∙ rw (writes-append xs ts, append_assoc);
    records = omega (arith, sizes-append xs ts);
    flags = λ n f h. ((d.flags n f (every-left (FlagsBelow n) xs ts h)).0, every-right (FlagsBelow n) xs ts h);
  }

  on_some : (us : List Tree) → t ∷ ts ≡ us → Pushed k (xs ++ ts) us
  on_some us e = subst (Pushed k (xs ++ ts)) e on

pub no-left : {P : Type 0} (l : Left) → ◌≡◌ {A = Option Left} none (some l) → P
no-left l e = let z : ◌≡◌ {A = ℕ} 0 1 = cc in absurd (omega arith)

pub some_left : {l m : Left} → ◌≡◌ {A = Option Left} (some l) (some m) → l ≡ m
some_left e = cc

-- the trees on the stack that a push leaves
left-trees : {l m : Left} → ◌≡◌ {A = Option Left} (some l) (some m) → trees l.stack ≡ trees m.stack
left-trees e = ap (λ (l : Left). trees l.stack) (some_left e)

none-taken : (k : Kind) (t : Tree) → Pushed k [] (t ∷ []) → (p : ℕ) (os : List Operand) (l : Left) → leaf t p os ≡ some l
    → Pushed k (trees os) (trees l.stack)
unfolding leaf
none-taken k t d p os l e = on_some k [] t (trees os) d (trees l.stack) (left-trees e)

two : (k : Kind) (op : Tree → Tree → Tree) → ((x y : Tree) → Pushed k (y ∷ x ∷ []) (op x y ∷ [])) → (os : List Operand) (l : Left)
    → binary op os ≡ some l → Pushed k (trees os) (trees l.stack)
unfolding binary
two k op d [] l e = no-left l e
two k op d (y ∷ []) l e = no-left l e
two k op d (y ∷ x ∷ os) l e =
    on_some k (y.tree ∷ x.tree ∷ []) (op x.tree y.tree) (trees os) (d x.tree y.tree) (trees l.stack) (left-trees e)

one : (k : Kind) (op : Tree → Tree) → ((x : Tree) → Pushed k (x ∷ []) (op x ∷ [])) → (os : List Operand) (l : Left) → unary op os ≡ some l
    → Pushed k (trees os) (trees l.stack)
unfolding unary
one k op d [] l e = no-left l e
one k op d (x ∷ os) l e = on_some k (x.tree ∷ []) (op x.tree) (trees os) (d x.tree) (trees l.stack) (left-trees e)

pub pushed : (k : Kind) (p : ℕ) (os : List Operand) (l : Left) → push k p os ≡ some l → Pushed k (trees os) (trees l.stack)
unfolding push bytes_of write size
pushed (Constant b) p os l e =
    none-taken (Constant b) (CO b) (record { bytes = refl; records = refl; flags = λ n f h. (tt, tt) }) p os l e
pushed (Flag i) p os l e = none-taken (Flag i) (VA i) (record { bytes = refl; records = refl; flags = λ n f h. (f, tt) }) p os l e
pushed And p os l e = two And AN (λ x y. record { bytes = refl; records = omega arith; flags = λ n f h. ((h.1.0, h.0), tt) }) os l e
pushed Or p os l e = two Or OR (λ x y. record { bytes = refl; records = omega arith; flags = λ n f h. ((h.1.0, h.0), tt) }) os l e
pushed Xor p os l e = two Xor XO (λ x y. record { bytes = refl; records = omega arith; flags = λ n f h. ((h.1.0, h.0), tt) }) os l e
pushed Not p os l e = one Not NO (λ x. record { bytes = refl; records = omega arith; flags = λ n f h. (h.0, tt) }) os l e
