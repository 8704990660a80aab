-- Bytes that pass a test one after another, and the entries that digits stand for. It rests on the definition of `all` and on runs in a buffer (bits,
-- Stored and Stores).
--   all-listed               == the library's word for it
--   all-first, all-at        == the first and the others pass, each passes
--   all-stop                 == one byte that does not pass
--   digit-byte               == a digit is the byte 48 or 49
--   length-values            == there are as many entries as digits
--   entries-more             == one more of them is stored
--   entries-front            == they stand at the front where they are stored
use mathlib.Core.Bool.{Bool, true, false, ◌||◌, ◌&&◌}
use mathlib.Core.List.{List, [], ◌∷◌}
use mathlib.Core.Path.{◌≡◌, refl, sym, ap, ap₂, ◌∙◌}
use Prim.Native.Nat.{ℕ, zero, suc, ◌+◌, ◌-◌, ◌≤◌, ◌<◌}
use native.Mathlib.Nat.{zero-add}
use native.Mathlib.Omega.{arith}
use lib.Dec.{eqb}
use lib.ListN.{length, get_or, take, set, length-map, get_or-map}
use lib.Seq.{sets}
use borrow.Author.Tests.{eqb-true}
use Rattle.std.specs.List.{list_all}
use Rattle.bits.specs.Range.{all}
use Rattle.bits.proofs.Stored.{stores-more}
use Rattle.bits.proofs.Stores.{take-sets-front}
use Rattle.bits.proofs.Truth.{and-true-l, and_true_r}
use Rattle.text.specs.TableDigits.{is_digit, values}

module _ {A : Type 0} (p : A → Bool) where
  pub all-listed : (l : List A) → list_all p l ≡ all p l
  unfolding all
  all-listed [] = refl
  all-listed (x ∷ l) = ap (λ (b : Bool). p x && b) (all-listed l)

  pub all-first : (x : A) (l : List A) → all p (x ∷ l) ≡ true → (p x ≡ true) × (all p l ≡ true)
  unfolding all
  all-first x l e = (and-true-l (p x) (all p l) e, and_true_r (p x) (all p l) e)

pub all-at : (p : ℕ → Bool) (l : List ℕ) (i : ℕ) → i < length l → all p l ≡ true → p (get_or l i 0) ≡ true
all-at p [] i h e = absurd (omega arith)
all-at p (x ∷ l) zero h e = (all-first p x l e).0
all-at p (x ∷ l) (suc i) h e = all-at p l i (omega arith) (all-first p x l e).1

pub all-stop : (p : ℕ → Bool) (l : List ℕ) (i : ℕ) → i < length l → p (get_or l i 0) ≡ false → all p l ≡ false
all-stop p l i h q = go (all p l) refl
  where
    go : (b : Bool) → all p l ≡ b → all p l ≡ false
    go true e = let z = sym (all-at p l i h e) ∙ q in cc
    go false e = e

pub digit-byte : (b : ℕ) → is_digit b ≡ true → (48 ≤ b) × (b ≤ 49)
digit-byte b e = go (eqb b 48) refl e
  where
    go : (t : Bool) → eqb b 48 ≡ t → (t || eqb b 49) ≡ true → (48 ≤ b) × (b ≤ 49)
    go true q e = omega (arith, eqb-true b 48 q)
    go false q e = omega (arith, eqb-true b 49 e)

pub length-values : (l : List ℕ) → length (values l) ≡ length l
length-values l = length-map l (λ b. b - 48)

pub entries-more : (table l : List ℕ) (i : ℕ) → i < length l
    → set (sets table 0 (take i (values l))) i (get_or l i 0 - 48) ≡ sets table 0 (take (i + 1) (values l))
entries-more table l i h =
    ap₂ (λ (j v : ℕ). set (sets table 0 (take i (values l))) j v) (sym (zero-add i)) (sym (get_or-map (λ b. b - 48) l i 0))
    ∙ stores-more table (values l) 0 i 0 (omega (arith, length-values l))

pub entries-front : (l table after : List ℕ) → length l ≤ length table → after ≡ sets table 0 (values l) → take (length l) after ≡ values l
entries-front l table after h e =
    ap₂ take (sym (length-values l)) e ∙ take-sets-front (values l) table (omega (arith, length-values l))
