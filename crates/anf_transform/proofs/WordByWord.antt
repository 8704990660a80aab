-- The words of a table or of coefficients, one at a time: how much of them each word holds, and lists of words that are the words of a function.
-- It rests on the laws of coefficient words (laws, Packed; packed_anf, Room) and of bits and words (bits, Bit and Word).
--   packed-append              == the coefficients of words with more behind them
--   part-room, part-word       == the settings of one word are among all, and the word that holds them
--   full-words, cut_word       == words that hold f at every setting are the words of f; where they leave room, once the stray bits are cut off
use mathlib.Core.Bool.{Bool, true, false, ◌&&◌}
use mathlib.Core.List.{List, ◌++◌}
use mathlib.Core.Logic.{inl, inr}
use mathlib.Core.Path.{◌≡◌, refl, sym, ap, ◌∙◌}
use Prim.Native.Nat.{ℕ, ◌+◌, ◌*◌, ◌/◌, ◌%◌, ◌^◌, ◌≤◌, ◌<◌, min}
use native.Mathlib.Nat.{lt_of_lt_of_le, min-eq_left, min-eq_right, min-le_left, min-le_right}
use native.Mathlib.Omega.{arith}
use lib.Dec.{ltb}
use lib.ListN.{length, get_or, set, length-set, get_or-append}
use lib.Pow.{pow_mono, pow_pos}
use lib.Seq.{get_or-set_same}
use borrow.Author.Tests.{ltb-true, ltb-false, lt-ltb, le-ltb}
use Rattle.bits.specs.Bit.{bit}
use Rattle.bits.specs.Range.{keep, upto}
use Rattle.bits.specs.Word.{word}
use Rattle.bits.proofs.Bit.{bit-above, bit-mod, bit-mod-high}
use Rattle.bits.proofs.Word.{bit-word-keep, word-keep-lt, word-ext}
use Rattle.rules.specs.Coefficient.{word_count, packed, word_of, words}
use Rattle.laws.proofs.transform.Packed.{word_count-small, word_count-room, packed-at, get_or-words, words_of}
use Rattle.packed_anf.proofs.Room.{Room, room, word_count-full, few-settings}

-- words with more behind them
module _ (n : ℕ) (ws : List ℕ) (m : ℕ) (h : m < 2 ^ n) where
  -- the word that holds coefficient m is one of the words
  place : m / 64 < word_count n
  place = omega (arith, word_count-room n)

  pub packed-append : (r : List ℕ) → length ws ≡ word_count n → packed (ws ++ r) m ≡ packed ws m
  unfolding packed
  packed-append r e = ap (λ (w : ℕ). bit w (m % 64)) (get_or-append ws r 0 (m / 64) (rw e place))

-- the settings of word i begin at 64 i, and there are this many of them
module _ (n i : ℕ) (h : i < word_count n) where
  part-fits : 64 * i + min (2 ^ n) 64 ≤ 2 ^ n
  part-fits = go (room n)
    where
      go : Room n → 64 * i + min (2 ^ n) 64 ≤ 2 ^ n
      go (inl s) = omega (arith, min-le_left (2 ^ n) 64)
      go (inr s) = omega (arith, min-le_right (2 ^ n) 64)

  pub part-room : (k : ℕ) → k ≡ min (2 ^ n) 64 → 64 * i + k ≤ 2 ^ n
  part-room k e = rw e part-fits

  -- past them the first word has places left, where it is the only one
  part-past : (j : ℕ) → min (2 ^ n) 64 ≤ j → j < 64 → 2 ^ n ≤ 64 * i + j
  part-past j k l = go (room n)
    where
      go : Room n → 2 ^ n ≤ 64 * i + j
      go (inl s) = let e : min (2 ^ n) 64 ≡ 2 ^ n = min-eq_left {m = 64} (omega arith) in omega arith
      go (inr s) = omega (arith, min-eq_right s.0)

  pub part-word : (f : ℕ → Bool) → word (keep (λ j. f (64 * i + j)) (upto (min (2 ^ n) 64))) ≡ get_or (words n f) i 0
  unfolding word_of
  part-word f =
      word-ext 64 w (λ j. ltb (64 * i + j) (2 ^ n) && f (64 * i + j)) (lt_of_lt_of_le small (pow_mono (min-le_right (2 ^ n) 64)))
      (λ j l. at j l (ltb j k) refl)
      ∙ sym (get_or-words n f i h)
    where
      k : ℕ
      k = min (2 ^ n) 64

      w : ℕ
      w = word (keep (λ j. f (64 * i + j)) (upto k))

      small : w < 2 ^ k
      small = word-keep-lt k (λ j. f (64 * i + j))

      at : (j : ℕ) → j < 64 → (b : Bool) → ltb j k ≡ b → bit w j ≡ (ltb (64 * i + j) (2 ^ n) && f (64 * i + j))
      at j l true e =
          let u = ltb-true j k e in
          bit-word-keep k (λ j. f (64 * i + j)) j u
          ∙ ap (λ (b : Bool). b && f (64 * i + j)) (sym (lt-ltb (64 * i + j) (2 ^ n) (omega (arith, part-fits))))
      at j l false e =
          let u = ltb-false j k e in
          bit-above w k j small u ∙ ap (λ (b : Bool). b && f (64 * i + j)) (sym (le-ltb (64 * i + j) (2 ^ n) (part-past j u l)))

module _ (n : ℕ) (f : ℕ → Bool) (ws : List ℕ) (size : length ws ≡ word_count n)
    (holds : (m : ℕ) → m < 2 ^ n → packed ws m ≡ f m) where
  pub full-words : ((i : ℕ) → get_or ws i 0 < 2 ^ 64) → 6 ≤ n → ws ≡ words n f
  full-words small h =
      words_of n f ws size (λ i k. small i)
      (λ m k. let l : m < 2 ^ n = omega (arith, word_count-full n h) in holds m l ∙ ap (λ (b : Bool). b && f m) (sym (lt-ltb m (2 ^ n) l)))

  pub cut_word : n < 6 → set ws 0 (get_or ws 0 0 % 2 ^ (2 ^ n)) ≡ words n f
  cut_word h =
      words_of n f us (length-set ws 0 low ∙ size)
      (λ i k. let z : i ≡ 0 = omega (arith, one) in rw z (rw first fits))
      (λ m k. at m (omega (arith, one)) (ltb m (2 ^ n)) refl)
    where
      low : ℕ
      low = get_or ws 0 0 % 2 ^ (2 ^ n)

      us : List ℕ
      us = set ws 0 low

      fits : low < 2 ^ 64
      fits =
          let room : 2 ^ (2 ^ n) ≤ 2 ^ 64 = pow_mono {j = 64} (omega (arith, few-settings n h)) in
          omega (arith, pow_pos (2 ^ n))

      one : word_count n ≡ 1
      one = word_count-small n (omega arith)

      first : get_or us 0 0 ≡ low
      first = get_or-set_same ws 0 low 0 (omega (arith, one))

      single : (vs : List ℕ) (m : ℕ) → m < 64 → packed vs m ≡ bit (get_or vs 0 0) m
      single vs m l = let e : m ≡ 64 * 0 + m = omega arith in ap (packed vs) e ∙ packed-at vs 0 m l

      at : (m : ℕ) → m < 64 → (b : Bool) → ltb m (2 ^ n) ≡ b → packed us m ≡ (ltb m (2 ^ n) && f m)
      at m l true e =
          let u = ltb-true m (2 ^ n) e in
          single us m l ∙ ap (λ (w : ℕ). bit w m) first ∙ bit-mod (get_or ws 0 0) (2 ^ n) m u
          ∙ sym (single ws m l) ∙ holds m u ∙ ap (λ (b : Bool). b && f m) (sym e)
      at m l false e =
          single us m l ∙ ap (λ (w : ℕ). bit w m) first ∙ bit-mod-high (get_or ws 0 0) (2 ^ n) m (ltb-false m (2 ^ n) e)
          ∙ ap (λ (b : Bool). b && f m) (sym e)
