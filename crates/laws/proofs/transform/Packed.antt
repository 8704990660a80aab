-- Coefficient words: how many there are, which bit of which word a coefficient is, and that words with the right bits are the words.
-- It rests on the laws of words and of ranges (bits, Word and Range).
--   word_count-small, word_count-large, word_count-room, word_count-pos == the number of words
--   bit-word_of, packed-at                               == one word's bits, and the coefficients that one word holds
--   length-words, get_or-words                            == the list of words, entry by entry
--   packed-words, packed-words-above, packed-words-room == the coefficients that the words hold: f below 2^n, none above
--   stray-words, not-stray                              == written words have no stray bit; what it means to have none
--   packed-injective                                    == words that hold the same coefficients are the same
--   words-ext, words_of, words-packed                   == equal functions have equal words; words by their bits; words of what clean words hold
use mathlib.Core.Bool.{Bool, true, false, ◌&&◌, false≢true}
use mathlib.Core.List.{List, map}
use mathlib.Core.Path.{◌≡◌, refl, sym, ap, ap₂, fun_ext, ◌∙◌}
use mathlib.Mathlib.Data.Bool.Basic.{eq-false_of_not-eq-true}
use Prim.Native.Nat.{ℕ, ◌+◌, ◌-◌, ◌*◌, ◌/◌, ◌%◌, ◌^◌, ◌≤◌, ◌<◌}
use native.Mathlib.Omega.{arith}
use lib.Dec.{ltb, leb}
use lib.ListN.{length, get_or, take, get_or-eq_default}
use lib.Pow.{pow_pos, pow_mono, pow-add}
use lib.Seq.{length-take-le, get_or-take, ext_get_or}
use borrow.Author.Tests.{ltb-true, ltb-false, leb-true, lt-ltb, le-ltb, le-leb}
use Rattle.bits.specs.Bit.{bit}
use Rattle.bits.specs.Range.{from, upto}
use Rattle.bits.proofs.Truth.{and_intro, and-true-l}
use Rattle.bits.proofs.Range.{mem-from, any-mem, mem-any}
use Rattle.bits.proofs.Bit.{bit-zero, bit-ext}
use Rattle.bits.proofs.Tabulated.{length-map-upto, get_or-map-upto, map-upto-of}
use Rattle.bits.proofs.Word.{bit-word-keep, word-ext}
use Rattle.rules.specs.Coefficient.{word_count, packed, stray, word_of, words}

-- ---- how many

pub word_count-small : (n : ℕ) → n ≤ 6 → word_count n ≡ 1
unfolding word_count
word_count-small n h = let p = pow_pos n in let q = pow_mono h in omega arith

pub word_count-large : (n : ℕ) → word_count (6 + n) ≡ 2 ^ n
unfolding word_count
word_count-large n = let e = pow-add 2 6 n in omega arith

pub word_count-room : (n : ℕ) → 2 ^ n ≤ 64 * word_count n
unfolding word_count
word_count-room n = omega arith

pub word_count-pos : (n : ℕ) → 0 < word_count n
unfolding word_count
word_count-pos n = let p = pow_pos n in omega arith

-- ---- one word

pub bit-word_of : (f : ℕ → Bool) (i j : ℕ) → j < 64 → bit (word_of f i) j ≡ f (64 * i + j)
unfolding word_of
bit-word_of f i j h = bit-word-keep 64 (λ k. f (64 * i + k)) j h

pub packed-at : (ws : List ℕ) (i j : ℕ) → j < 64 → packed ws (64 * i + j) ≡ bit (get_or ws i 0) j
unfolding packed
packed-at ws i j h = ap₂ (λ (a b : ℕ). bit (get_or ws a 0) b) (omega arith) (omega arith)

-- ---- the list of words

module _ (n : ℕ) (f : ℕ → Bool) where
  pub length-words : length (words n f) ≡ word_count n
  unfolding words
  length-words = length-map-upto (word_count n) (word_of (λ m. ltb m (2 ^ n) && f m))

  pub get_or-words : (i : ℕ) → i < word_count n → get_or (words n f) i 0 ≡ word_of (λ m. ltb m (2 ^ n) && f m) i
  unfolding words
  get_or-words i h = get_or-map-upto (word_count n) (word_of (λ m. ltb m (2 ^ n) && f m)) i h

  pub packed-words-room : (m : ℕ) → m < 64 * word_count n → packed (words n f) m ≡ (ltb m (2 ^ n) && f m)
  packed-words-room m h =
      let g : ℕ → Bool = λ k. ltb k (2 ^ n) && f k in
      let e : m ≡ 64 * (m / 64) + m % 64 = omega arith in
      let l : m % 64 < 64 = omega arith in
      ap (packed (words n f)) e ∙ packed-at (words n f) (m / 64) (m % 64) l
      ∙ ap (λ (w : ℕ). bit w (m % 64)) (get_or-words (m / 64) (omega arith))
      ∙ bit-word_of g (m / 64) (m % 64) l ∙ ap g (sym e)

  pub packed-words : (m : ℕ) → m < 2 ^ n → packed (words n f) m ≡ f m
  packed-words m h = packed-words-room m (omega (arith, word_count-room n)) ∙ ap (λ (b : Bool). b && f m) (lt-ltb m (2 ^ n) h)

  pub packed-words-above : (m : ℕ) → 2 ^ n ≤ m → packed (words n f) m ≡ false
  unfolding packed
  packed-words-above m h = go (ltb m (64 * word_count n)) refl
    where
      go : (b : Bool) → ltb m (64 * word_count n) ≡ b → packed (words n f) m ≡ false
      go true e = packed-words-room m (ltb-true m (64 * word_count n) e) ∙ ap (λ (b : Bool). b && f m) (le-ltb m (2 ^ n) h)
      go false e =
          let k = ltb-false m (64 * word_count n) e in
          ap (λ (w : ℕ). bit w (m % 64)) (get_or-eq_default (words n f) 0 (omega (arith, length-words))) ∙ bit-zero (m % 64)

  pub stray-words : stray n (words n f) ≡ false
  unfolding stray
  stray-words = eq-false_of_not-eq-true (λ e.
      let k = 64 * word_count n - 2 ^ n in
      let t = any-mem (packed (words n f)) (from (2 ^ n) k) e in
      let l = leb-true (2 ^ n) t.0 (and-true-l (leb (2 ^ n) t.0) (ltb t.0 (2 ^ n + k)) (sym (mem-from (2 ^ n) k t.0) ∙ t.1)) in
      false≢true (sym (packed-words-above t.0 l) ∙ t.2))

  pub words_of : (ws : List ℕ) → length ws ≡ word_count n → ((i : ℕ) → i < word_count n → get_or ws i 0 < 2 ^ 64)
      → ((m : ℕ) → m < 64 * word_count n → packed ws m ≡ (ltb m (2 ^ n) && f m)) → ws ≡ words n f
  unfolding words word_of
  words_of ws e small h =
      map-upto-of (word_count n) (word_of (λ m. ltb m (2 ^ n) && f m)) ws e
      (λ i k. word-ext 64 (get_or ws i 0) (λ j. ltb (64 * i + j) (2 ^ n) && f (64 * i + j)) (small i k)
      (λ j l. sym (packed-at ws i j l) ∙ h (64 * i + j) (omega arith)))

pub not-stray : (n : ℕ) (ws : List ℕ) → stray n ws ≡ false → (m : ℕ) → 2 ^ n ≤ m → m < 64 * word_count n → packed ws m ≡ false
unfolding stray
not-stray n ws h m l u = eq-false_of_not-eq-true (λ e.
    let k = 64 * word_count n - 2 ^ n in
    let i = mem-from (2 ^ n) k m ∙ and_intro (leb (2 ^ n) m) (ltb m (2 ^ n + k)) (le-leb (2 ^ n) m l) (lt-ltb m (2 ^ n + k) (omega arith)) in
    false≢true (sym h ∙ mem-any (packed ws) (from (2 ^ n) k) m i e))

pub packed-injective : (ws vs : List ℕ) → length ws ≡ length vs → ((i : ℕ) → get_or ws i 0 < 2 ^ 64) → ((i : ℕ) → get_or vs i 0 < 2 ^ 64)
    → ((m : ℕ) → packed ws m ≡ packed vs m) → ws ≡ vs
packed-injective ws vs e a b h =
    ext_get_or 0 ws vs e
    (λ i l. bit-ext 64 (get_or ws i 0) (get_or vs i 0) (a i) (b i)
    (λ j k. sym (packed-at ws i j k) ∙ h (64 * i + j) ∙ packed-at vs i j k))

pub words-ext : (n : ℕ) (f g : ℕ → Bool) → ((m : ℕ) → m < 2 ^ n → f m ≡ g m) → words n f ≡ words n g
unfolding words
words-ext n f g h = ap (λ (p : ℕ → Bool). map (word_of p) (upto (word_count n))) (fun_ext (λ m. go m (ltb m (2 ^ n)) refl))
  where
    go : (m : ℕ) (b : Bool) → ltb m (2 ^ n) ≡ b → (ltb m (2 ^ n) && f m) ≡ (ltb m (2 ^ n) && g m)
    go m true e = ap (λ (b : Bool). ltb m (2 ^ n) && b) (h m (ltb-true m (2 ^ n) e))
    go m false e = ap (λ (b : Bool). b && f m) e ∙ sym (ap (λ (b : Bool). b && g m) e)

pub words-packed : (n : ℕ) (ws : List ℕ) → word_count n ≤ length ws → stray n ws ≡ false → ((i : ℕ) → i < word_count n → get_or ws i 0 < 2 ^ 64)
    → take (word_count n) ws ≡ words n (packed ws)
unfolding packed
words-packed n ws h clean small =
    words_of n (packed ws) (take (word_count n) ws) (length-take-le (word_count n) ws h)
    (λ i l. rw (get_or-take (word_count n) ws i 0 l) (small i l))
    (λ m l. ap (λ (w : ℕ). bit w (m % 64)) (get_or-take (word_count n) ws (m / 64) 0 (omega arith)) ∙ go m l (ltb m (2 ^ n)) refl)
  where
    go : (m : ℕ) → m < 64 * word_count n → (b : Bool) → ltb m (2 ^ n) ≡ b → packed ws m ≡ (ltb m (2 ^ n) && packed ws m)
    go m l true e = sym (ap (λ (b : Bool). b && packed ws m) e)
    go m l false e = not-stray n ws clean m (ltb-false m (2 ^ n) e) l ∙ sym (ap (λ (b : Bool). b && packed ws m) e)
