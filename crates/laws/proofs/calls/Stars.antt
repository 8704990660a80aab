-- Laws of stars: a star's setting by its flags, and a tree's word of values by its bits. They rest on the laws of a number whose bits a test gives
-- (bits, Word).
--   bit-star_setting, star_setting-lt    == a star's setting: its flags, and that it is one
--   star_setting-is                     == told by its flags
--   bit-star_values, star_values-lt      == the word of a tree's values: each star's, in 64 bits
--   star_values-ext                     == a word with these bits is that word
use mathlib.Core.List.{List}
use mathlib.Core.Path.{◌≡◌, sym}
use Prim.Native.Nat.{ℕ, ◌^◌, ◌<◌}
use lib.ListN.{get_or}
use Rattle.bits.specs.Bit.{bit}
use Rattle.bits.proofs.Word.{bit-word-keep, word-keep-lt, word-ext}
use Rattle.rules.specs.Limits.{word_bits}
use Rattle.rules.specs.Stars.{star_setting, star_values}
use Rattle.rules.specs.Tree.{Tree, value}

module _ (n : ℕ) (ws : List ℕ) where
  -- ---- a star's setting

  pub bit-star_setting : (i j : ℕ) → i < n → bit (star_setting n ws j) i ≡ bit (get_or ws i 0) j
  unfolding star_setting
  bit-star_setting i j h = bit-word-keep n (λ k. bit (get_or ws k 0) j) i h

  pub star_setting-lt : (j : ℕ) → star_setting n ws j < 2 ^ n
  unfolding star_setting
  star_setting-lt j = word-keep-lt n (λ k. bit (get_or ws k 0) j)

  pub star_setting-is : (j at : ℕ) → at < 2 ^ n → ((i : ℕ) → i < n → bit (get_or ws i 0) j ≡ bit at i) → star_setting n ws j ≡ at
  unfolding star_setting
  star_setting-is j at h e = sym (word-ext n at (λ k. bit (get_or ws k 0) j) h (λ i l. sym (e i l)))

  -- ---- a tree's values

  module _ (t : Tree) where
    pub bit-star_values : (j : ℕ) → j < word_bits → bit (star_values n ws t) j ≡ value t (star_setting n ws j)
    unfolding star_values
    bit-star_values j h = bit-word-keep word_bits (λ k. value t (star_setting n ws k)) j h

    pub star_values-lt : star_values n ws t < 2 ^ word_bits
    unfolding star_values
    star_values-lt = word-keep-lt word_bits (λ k. value t (star_setting n ws k))

    pub star_values-ext : (w : ℕ) → w < 2 ^ word_bits → ((j : ℕ) → j < word_bits → bit w j ≡ value t (star_setting n ws j)) → w ≡ star_values n ws t
    unfolding star_values
    star_values-ext w h e = word-ext word_bits w (λ k. value t (star_setting n ws k)) h e
