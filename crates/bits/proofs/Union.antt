-- The union of a list of masks: its bits, its bound, and the union of the masks that have one bit alone.
-- It rests on the laws of bits, masks and membership (Bit, Mask, Range) and on lib.Bits.
--   bit-union          == the bits of a union
--   union-within, union-mem == it is within m where all its members are; its members are within it
--   union-lt           == masks of k bits have a union of k bits
--   single-bit         == a mask of one bit is the power of that bit
--   bit-union-singles  == the bits of the union of a list's masks of one bit
use mathlib.Core.Bool.{Bool, true, ◌&&◌, ◌||◌}
use mathlib.Core.List.{List, [], ◌∷◌}
use mathlib.Core.Path.{◌≡◌, refl, sym, ap, ◌∙◌}
use Prim.Native.Nat.{ℕ, ◌^◌, ◌<◌}
use lib.Bits.{or_lt}
use lib.Count.{ones}
use lib.Dec.{eqb}
use lib.Pow.{pow_pos}
use borrow.Author.Tests.{eqb-true, eq-eqb}
use Rattle.bits.specs.Bit.{bit, within}
use Rattle.bits.specs.Range.{keep, all, any, mem, Below}
use Rattle.bits.specs.Sum.{sum, union}
use Rattle.bits.proofs.Truth.{and_intro, and-true-l, and_true_r, bool-ext}
use Rattle.bits.proofs.Bit.{bit-or, bit-zero, bit-pow}
use Rattle.bits.proofs.Mask.{within-zero, within-or, within-refl, ones-pow, one-is-pow}
use Rattle.bits.proofs.Range.{all-mem, any-keep, any-ext}

pub bit-union : (l : List ℕ) (i : ℕ) → bit (union l) i ≡ any (λ m. bit m i) l
unfolding sum any
bit-union [] i = bit-zero i
bit-union (m ∷ l) i = bit-or m (union l) i ∙ ap (λ (b : Bool). bit m i || b) (bit-union l i)

pub union-within : (l : List ℕ) (m : ℕ) → within (union l) m ≡ all (λ x. within x m) l
unfolding sum all
union-within [] m = within-zero m
union-within (x ∷ l) m = within-or x (union l) m ∙ ap (λ (b : Bool). within x m && b) (union-within l m)

pub union-mem : (l : List ℕ) (m : ℕ) → mem m l ≡ true → within m (union l) ≡ true
union-mem l m h = all-mem (λ x. within x (union l)) l m (sym (union-within l (union l)) ∙ within-refl (union l)) h

pub union-lt : (k : ℕ) (l : List ℕ) → Below (2 ^ k) l → union l < 2 ^ k
unfolding sum
union-lt k [] h = pow_pos k
union-lt k (m ∷ l) h = or_lt k m (union l) h.0 (union-lt k l h.1)

pub single-bit : (m i : ℕ) → (eqb (ones m) 1 && bit m i) ≡ eqb (2 ^ i) m
single-bit m i = bool-ext _ _ power back
  where
    power : (eqb (ones m) 1 && bit m i) ≡ true → eqb (2 ^ i) m ≡ true
    power e =
        let t = one-is-pow m (eqb-true (ones m) 1 (and-true-l (eqb (ones m) 1) (bit m i) e)) in
        let b = sym (bit-pow t.0 i) ∙ ap (λ (x : ℕ). bit x i) (sym t.1) ∙ and_true_r (eqb (ones m) 1) (bit m i) e in
        eq-eqb (2 ^ i) m (ap (λ (x : ℕ). 2 ^ x) (eqb-true i t.0 b) ∙ sym t.1)

    back : eqb (2 ^ i) m ≡ true → (eqb (ones m) 1 && bit m i) ≡ true
    back e =
        let q = eqb-true (2 ^ i) m e in
        and_intro (eqb (ones m) 1) (bit m i) (eq-eqb (ones m) 1 (ap ones (sym q) ∙ ones-pow i))
        (ap (λ (x : ℕ). bit x i) (sym q) ∙ bit-pow i i ∙ eq-eqb i i refl)

pub bit-union-singles : (l : List ℕ) (i : ℕ) → bit (union (keep (λ m. eqb (ones m) 1) l)) i ≡ mem (2 ^ i) l
bit-union-singles l i =
    bit-union (keep (λ m. eqb (ones m) 1) l) i ∙ any-keep (λ m. bit m i) (λ m. eqb (ones m) 1) l
    ∙ any-ext (λ m. eqb (ones m) 1 && bit m i) (eqb (2 ^ i)) l (λ m e. single-bit m i)
