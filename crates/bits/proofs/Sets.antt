-- Words as sets of places: what an operation on words does to the list of a word's places, and tests of words as tests of their places.
-- It rests on the laws of a word's places (Word, Places), of bits and masks (Bit, Mask) and of choices from a list (Range, Ascending).
--   mem-bit                                    == a bit is membership
--   places-and-not                             == the places of w & !v
--   without_zero k w                            == w & !1, the word without its place 0
--   places-without_zero                         == its places are those of w but 0
--   without_zero-even, without_zero-lt           == it is even, and of k bits where w is
--   places-even                                == an even word has no place 0
--   places-shr                                 == the places of w >> c, where w has none below c
--   places-none, places-positive               == 0 has no place, and nothing else has none
--   places-first, places-rest                  == the lowest place, and the others
--   places-two                                 == the places of a word that has two
--   any-bit, all-bit, same-places              == whether a word meets another, is within another, is the word of a list
use mathlib.Core.Bool.{true, not, false≢true}
use mathlib.Core.List.{List, [], ◌∷◌, map}
use mathlib.Core.Path.{◌≡◌, refl, sym, ap, ◌∙◌}
use Prim.Native.Nat.{ℕ, zero, suc, ◌+◌, ◌-◌, ◌/◌, ◌%◌, ◌^◌, ◌≤◌, ◌<◌}
use native.Mathlib.Nat.{zero-lt-suc, lt_of_le_of_lt}
use native.Mathlib.Omega.{arith}
use lib.Bits.{bit_and, and_le_l, and_mod, and_zero_r}
use lib.Count.{ones, count_trailing_zeros}
use lib.Dec.{eqb, ltb}
use lib.ListN.{length, get_or, drop}
use lib.Pow.{shr_le}
use borrow.Author.Tests.{eqb-true, eqb-false, eq-eqb, ne_eqb, ltb-true, lt-ltb}
use Rattle.bits.specs.Bit.{bit, within}
use Rattle.bits.specs.Range.{keep, all, any, mem, same, Ascending, Below}
use Rattle.bits.specs.Word.{places, word}
use Rattle.bits.proofs.Truth.{and_intro, and-true-l, and_true_r, bool-ext}
use Rattle.bits.proofs.Bit.{bit-and, bit_not, bit-first, bit-shr, bit-lt, bit-pow, bit-zero, nonzero-bit}
use Rattle.bits.proofs.Mask.{bits-within, within-bit, ones-zero}
use Rattle.bits.proofs.Range.{keep_all, keep-ext, all-mem, mem-all, any-mem, mem-any, any-map, same_true, same_refl}
use Rattle.bits.proofs.Ascending.{ascending-map, ascending-ext}
use Rattle.bits.proofs.Places.{places-and}
use Rattle.bits.proofs.Word.{ascending-places, places-lt, mem-places, word-places, places-word, ones-places, places-lowest}

pub mem-bit : (k w i : ℕ) → w < 2 ^ k → mem i (places k w) ≡ bit w i
mem-bit k w i h =
    mem-places k w i
    ∙ bool-ext _ _ (and_true_r (ltb i k) (bit w i)) (λ e. and_intro (ltb i k) (bit w i) (lt-ltb i k (bit-lt k w i h e)) e)

-- ---- operations

pub places-and-not : (k w v : ℕ) → v < 2 ^ k → places k (bit_and w ((2 ^ k - 1) - v)) ≡ keep (λ i. not (bit v i)) (places k w)
unfolding places
places-and-not k w v h =
    places-and k w ((2 ^ k - 1) - v)
    ∙ keep-ext (bit ((2 ^ k - 1) - v)) (λ i. not (bit v i)) (places k w)
    (λ i m. bit_not k v i h (places-lt k w i m))

bit-one : (i : ℕ) → not (bit 1 i) ≡ ltb 0 i
bit-one zero = ap not (bit-pow 0 0)
bit-one (suc i) = ap not (bit-pow 0 (suc i) ∙ ne_eqb (suc i) 0 (λ e. omega arith)) ∙ sym (lt-ltb 0 (suc i) (zero-lt-suc i))

abbrev pub without_zero : ℕ → ℕ → ℕ
without_zero k w = bit_and w ((2 ^ k - 1) - 1)

pub places-without_zero : (k w : ℕ) → 1 < 2 ^ k → places k (without_zero k w) ≡ keep (λ i. ltb 0 i) (places k w)
places-without_zero k w h =
    places-and-not k w 1 h ∙ keep-ext (λ i. not (bit 1 i)) (λ i. ltb 0 i) (places k w) (λ i m. bit-one i)

pub without_zero-even : (k w : ℕ) → 1 < 2 ^ k → without_zero k w % 2 ≡ 0
without_zero-even zero w h = absurd (omega arith)
without_zero-even (suc k) w h =
    let e : ((2 ^ suc k - 1) - 1) % 2 ≡ 0 = omega arith in
    and_mod w ((2 ^ suc k - 1) - 1) 1 ∙ ap (bit_and (w % 2)) e ∙ and_zero_r (w % 2)

pub without_zero-lt : (k w : ℕ) → w < 2 ^ k → without_zero k w < 2 ^ k
without_zero-lt k w h = lt_of_le_of_lt (and_le_l w ((2 ^ k - 1) - 1)) h

pub places-even : (k w : ℕ) → w < 2 ^ k → w % 2 ≡ 0 → keep (λ i. ltb 0 i) (places k w) ≡ places k w
places-even k w h even =
    keep_all (λ i. ltb 0 i) (places k w) (mem-all (λ i. ltb 0 i) (places k w) (λ i m. positive i (sym (mem-bit k w i h) ∙ m)))
  where
    positive : (i : ℕ) → bit w i ≡ true → ltb 0 i ≡ true
    positive zero b = absurd (false≢true (ap (λ (d : ℕ). eqb d 1) (sym even) ∙ sym (bit-first w) ∙ b))
    positive (suc i) b = lt-ltb 0 (suc i) (zero-lt-suc i)

module _ (k w c : ℕ) (h : w < 2 ^ k) (low : (i : ℕ) → bit w i ≡ true → c ≤ i) where
  least : (i : ℕ) → mem i (places k w) ≡ true → c ≤ i
  least i m = low i (sym (mem-bit k w i h) ∙ m)

  moved : (i : ℕ) → mem i (map (λ m. m - c) (places k w)) ≡ bit w (c + i)
  moved i = any-map (eqb i) (λ m. m - c) (places k w) ∙ bool-ext _ _ back there
    where
      back : any (λ m. eqb i (m - c)) (places k w) ≡ true → bit w (c + i) ≡ true
      back e =
          let t = any-mem (λ m. eqb i (m - c)) (places k w) e in
          let q = eqb-true i (t.0 - c) t.2 in
          let l = least t.0 t.1 in
          let s : c + i ≡ t.0 = omega arith in
          ap (bit w) s ∙ sym (mem-bit k w t.0 h) ∙ t.1

      there : bit w (c + i) ≡ true → any (λ m. eqb i (m - c)) (places k w) ≡ true
      there e = mem-any (λ m. eqb i (m - c)) (places k w) (c + i) (mem-bit k w (c + i) h ∙ e) (eq-eqb i (c + i - c) (omega arith))

  pub places-shr : places k (w / 2 ^ c) ≡ map (λ m. m - c) (places k w)
  places-shr =
      ascending-ext (places k (w / 2 ^ c)) (map (λ m. m - c) (places k w)) (ascending-places k (w / 2 ^ c))
      (ascending-map (λ m. m - c) (places k w) (λ x y m n l. omega (arith, least x m, least y n)) (ascending-places k w))
      (λ i. mem-bit k (w / 2 ^ c) i (lt_of_le_of_lt (shr_le w c) h) ∙ bit-shr w c i ∙ sym (moved i))

-- ---- tests

pub places-none : (k w : ℕ) → w < 2 ^ k → eqb (length (places k w)) 0 ≡ eqb w 0
unfolding ones
places-none k w h =
    bool-ext _ _ (λ e. eq-eqb w 0 (ones-zero w (ones-places k w h ∙ eqb-true (length (places k w)) 0 e)))
    (λ e. eq-eqb (length (places k w)) 0 (sym (ones-places k w h) ∙ ap ones (eqb-true w 0 e)))

module _ (k w : ℕ) (h : w < 2 ^ k) (p : 0 < length (places k w)) where
  pub places-positive : 0 < w
  places-positive = let z = eqb-false w 0 (sym (places-none k w h) ∙ ne_eqb (length (places k w)) 0 (omega arith)) in omega arith

  pub places-first : count_trailing_zeros k w ≡ get_or (places k w) 0 0
  places-first = sym (ap (λ (l : List ℕ). get_or l 0 0) (places-lowest k w places-positive h))

  pub places-rest : places k (bit_and w (w - 1)) ≡ drop 1 (places k w)
  places-rest = sym (ap (drop 1) (places-lowest k w places-positive h))

pub places-two : (k w : ℕ) → w < 2 ^ k → length (places k w) ≡ 2 → places k w ≡ count_trailing_zeros k w ∷ count_trailing_zeros k
    (bit_and w (w - 1)) ∷ []
places-two k w h e =
    let r = bit_and w (w - 1) in
    let first = places-lowest k w (places-positive k w h (omega arith)) h in
    let s : r < 2 ^ k = lt_of_le_of_lt (and_le_l w (w - 1)) h in
    let one : length (places k r) ≡ 1 = omega (arith, ap length first) in
    let second = places-lowest k r (places-positive k r s (omega arith)) s in
    first
    ∙ ap {B = List ℕ} (λ l. count_trailing_zeros k w ∷ l)
    (second ∙ ap {B = List ℕ} (λ l. count_trailing_zeros k r ∷ l) (empty _ (omega (arith, ap length second, one))))
  where
    empty : (l : List ℕ) → length l ≡ 0 → l ≡ []
    empty [] e = refl
    empty (x ∷ l) e = absurd (omega arith)

module _ (k w v : ℕ) (h : w < 2 ^ k) where
  pub any-bit : any (bit v) (places k w) ≡ ltb 0 (bit_and w v)
  any-bit = bool-ext _ _ some back
    where
      some : any (bit v) (places k w) ≡ true → ltb 0 (bit_and w v) ≡ true
      some e =
          let t = any-mem (bit v) (places k w) e in
          let b : bit (bit_and w v) t.0 ≡ true = bit-and w v t.0 ∙ and_intro _ _ (sym (mem-bit k w t.0 h) ∙ t.1) t.2 in
          lt-ltb 0 (bit_and w v) (positive (bit_and w v) t.0 b)
        where
          positive : (x i : ℕ) → bit x i ≡ true → 0 < x
          positive zero i b = absurd (false≢true (sym (bit-zero i) ∙ b))
          positive (suc x) i b = zero-lt-suc x

      back : ltb 0 (bit_and w v) ≡ true → any (bit v) (places k w) ≡ true
      back e =
          let t = nonzero-bit k (bit_and w v) (lt_of_le_of_lt (and_le_l w v) h) (ltb-true 0 (bit_and w v) e) in
          let b = sym (bit-and w v t.0) ∙ t.2 in
          mem-any (bit v) (places k w) t.0 (mem-bit k w t.0 h ∙ and-true-l (bit w t.0) (bit v t.0) b)
          (and_true_r (bit w t.0) (bit v t.0) b)

  pub all-bit : all (bit v) (places k w) ≡ within w v
  all-bit =
      bool-ext _ _ (λ e. bits-within w v (λ i b. all-mem (bit v) (places k w) i e (mem-bit k w i h ∙ b)))
      (λ e. mem-all (bit v) (places k w) (λ i m. within-bit w v i e (sym (mem-bit k w i h) ∙ m)))

pub same-places : (k w : ℕ) (l : List ℕ) → w < 2 ^ k → Ascending l → Below k l → same (places k w) l ≡ eqb w (word l)
same-places k w l h s b =
    bool-ext _ _ (λ e. eq-eqb w (word l) (sym (word-places k w h) ∙ ap word (same_true (places k w) l e)))
    (λ e. ap (λ (r : List ℕ). same r l) (ap (places k) (eqb-true w (word l) e) ∙ places-word k l s b) ∙ same_refl l)
