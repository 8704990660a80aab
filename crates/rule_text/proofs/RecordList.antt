-- A tree as the list of its records, in the order in which they are written: its bytes and its printed text are those of the records in turn. It
-- rests on the definitions of `write` and `records`.
--   kinds t                      == the records of the tree, postfix
--   each f ks                    == f of each record, one after another
--   spaced k                     == a space and the record's text
--   write-kinds, records-kinds   == the tree's bytes, and its text after a space
--   flags-kinds                  == the records name the tree's flags
--   length-records               == the text has a byte for each byte of the tree and one for each record but the first
use mathlib.Core.List.{List, [], ◌∷◌, ◌++◌, append_assoc, append-nil}
use mathlib.Core.Path.{◌≡◌, refl, sym, ap, ap₂, ◌∙◌}
use Prim.Native.Nat.{ℕ, ◌+◌}
use native.Mathlib.Omega.{arith}
use lib.ListN.{length, length-append}
use lib.Seq.{append_snoc}
use Rattle.bits.proofs.Every.{Every, every_append}
use Rattle.rules.specs.Ascii.{ascii}
use Rattle.rules.specs.Record.{Kind, Constant, Flag, And, Or, Xor, Not, FlagBelow}
use Rattle.rules.specs.Text.{records}
use Rattle.rules.specs.Tree.{Tree, CO, VA, AN, OR, XO, NO, size, write, FlagsBelow}
use Rattle.laws.proofs.reading.RecordAt.{bytes_of}
use Rattle.rule_text.specs.inner.Parts.{kind_text}

unfoldable pub kinds : Tree → List Kind
kinds (CO b) = Constant b ∷ []
kinds (VA i) = Flag i ∷ []
kinds (AN x y) = kinds x ++ kinds y ++ And ∷ []
kinds (OR x y) = kinds x ++ kinds y ++ Or ∷ []
kinds (XO x y) = kinds x ++ kinds y ++ Xor ∷ []
kinds (NO x) = kinds x ++ Not ∷ []

abbrev pub spaced : Kind → List ℕ
spaced k = ascii " " ++ kind_text k

module _ (f : Kind → List ℕ) where
  abbrev pub each : List Kind → List ℕ
  each [] = []
  each (k ∷ ks) = f k ++ each ks

  each_append : (a b : List Kind) → each (a ++ b) ≡ each a ++ each b
  each_append [] b = refl
  each_append (k ∷ a) b = ap (λ (l : List ℕ). f k ++ l) (each_append a b) ∙ sym (append_assoc (f k) (each a) (each b))

  -- an operator's records after those of its operands
  each-one : (a : List Kind) (k : Kind) → each (a ++ k ∷ []) ≡ each a ++ f k
  each-one a k = each_append a (k ∷ []) ∙ ap (λ (l : List ℕ). each a ++ l) (append-nil (f k))

  each_two : (a b : List Kind) (k : Kind) → each (a ++ b ++ k ∷ []) ≡ each a ++ each b ++ f k
  each_two a b k = each-one (a ++ b) k ∙ ap (λ (l : List ℕ). l ++ f k) (each_append a b)

-- ---- bytes

write_two : (x y : Tree) (k : Kind) → write x ≡ each bytes_of (kinds x) → write y ≡ each bytes_of (kinds y)
    → write x ++ write y ++ bytes_of k ≡ each bytes_of (kinds x ++ kinds y ++ k ∷ [])
write_two x y k p q = ap₂ (λ (a b : List ℕ). a ++ b ++ bytes_of k) p q ∙ sym (each_two bytes_of (kinds x) (kinds y) k)

pub write-kinds : (t : Tree) → write t ≡ each bytes_of (kinds t)
unfolding write kinds bytes_of ascii
write-kinds (CO b) = refl
write-kinds (VA i) = refl
write-kinds (AN x y) = write_two x y And (write-kinds x) (write-kinds y)
write-kinds (OR x y) = write_two x y Or (write-kinds x) (write-kinds y)
write-kinds (XO x y) = write_two x y Xor (write-kinds x) (write-kinds y)
write-kinds (NO x) = ap (λ (a : List ℕ). a ++ bytes_of Not) (write-kinds x) ∙ sym (each-one bytes_of (kinds x) Not)

-- ---- text

records-two : (x y : Tree) (k : Kind) → 32 ∷ records x ≡ each spaced (kinds x) → 32 ∷ records y ≡ each spaced (kinds y)
    → 32 ∷ (records x ++ (32 ∷ []) ++ records y ++ spaced k) ≡ each spaced (kinds x ++ kinds y ++ k ∷ [])
records-two x y k p q =
    ap {B = List ℕ} (λ l. 32 ∷ (l ++ spaced k)) (append_snoc (records x) 32 (records y))
    ∙ ap₂ (λ (a b : List ℕ). a ++ b ++ spaced k) p q ∙ sym (each_two spaced (kinds x) (kinds y) k)

pub records-kinds : (t : Tree) → 32 ∷ records t ≡ each spaced (kinds t)
unfolding records kinds kind_text ascii
records-kinds (CO b) = refl
records-kinds (VA i) = refl
records-kinds (AN x y) = records-two x y And (records-kinds x) (records-kinds y)
records-kinds (OR x y) = records-two x y Or (records-kinds x) (records-kinds y)
records-kinds (XO x y) = records-two x y Xor (records-kinds x) (records-kinds y)
records-kinds (NO x) = ap (λ (a : List ℕ). a ++ spaced Not) (records-kinds x) ∙ sym (each-one spaced (kinds x) Not)

-- ---- flags

flags-two : (n : ℕ) (x y : Tree) (k : Kind) → FlagBelow n k → Every (FlagBelow n) (kinds x) → Every (FlagBelow n) (kinds y)
    → Every (FlagBelow n) (kinds x ++ kinds y ++ k ∷ [])
flags-two n x y k h f g =
    every_append (FlagBelow n) (kinds x ++ kinds y) (k ∷ []) (every_append (FlagBelow n) (kinds x) (kinds y) f g) (h, tt)

pub flags-kinds : (n : ℕ) (t : Tree) → FlagsBelow n t → Every (FlagBelow n) (kinds t)
unfolding kinds
flags-kinds n (CO b) h = (tt, tt)
flags-kinds n (VA i) h = (h, tt)
flags-kinds n (AN x y) h = flags-two n x y And tt (flags-kinds n x h.0) (flags-kinds n y h.1)
flags-kinds n (OR x y) h = flags-two n x y Or tt (flags-kinds n x h.0) (flags-kinds n y h.1)
flags-kinds n (XO x y) h = flags-two n x y Xor tt (flags-kinds n x h.0) (flags-kinds n y h.1)
flags-kinds n (NO x) h = every_append (FlagBelow n) (kinds x) (Not ∷ []) (flags-kinds n x h) (tt, tt)

-- ---- length

pub length-records : (t : Tree) → 1 + length (records t) ≡ length (write t) + size t
unfolding records write size ascii
length-records (CO b) = omega arith
length-records (VA i) = omega arith
length-records (AN x y) = simp length-append (omega (arith, length-records x, length-records y))
length-records (OR x y) = simp length-append (omega (arith, length-records x, length-records y))
length-records (XO x y) = simp length-append (omega (arith, length-records x, length-records y))
length-records (NO x) = simp length-append (omega (arith, length-records x))
