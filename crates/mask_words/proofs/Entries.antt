-- The words about masks of six flags: their bits, their size, and where they stand in the tables. It rests on the laws of words (bits, Word) and of a
-- mask's nonempty subsets (laws, Family).
--   get_or-subsets, get_or-supersets             == the entries of the two tables
--   bit-subsets, places-subsets, subsets-lt  == the word of a mask's nonempty subsets: its bits, its places and its size
--   below-family                             == the subsets of a mask of six flags are below 64
--   bit-supersets, supersets-lt              == the word of the masks that contain a mask
--   bit-flag_word, bit-flag                   == the word of the masks that have a flag, and as an entry of the six
use mathlib.Core.Path.{◌≡◌, sym, ap, ◌∙◌}
use mathlib.Core.List.{List, map}
use Prim.Native.Nat.{ℕ, ◌+◌, ◌^◌, ◌<◌}
use native.Mathlib.Nat.{lt_of_le_of_lt}
use native.Mathlib.Omega.{arith}
use lib.Dec.{ltb}
use lib.ListN.{get_or}
use Rattle.bits.specs.Bit.{bit, within}
use Rattle.bits.specs.Range.{upto, mem, Below}
use Rattle.bits.specs.Word.{places}
use Rattle.bits.proofs.Truth.{and_true_r}
use Rattle.bits.proofs.Mask.{within-le}
use Rattle.bits.proofs.Ascending.{mem_below}
use Rattle.bits.proofs.Tabulated.{get_or-map-upto}
use Rattle.bits.proofs.Word.{bit_word, word_lt, places-word, bit-word-keep, word-keep-lt}
use Rattle.rules.specs.Cleanup.{family}
use Rattle.laws.proofs.form.Family.{mem-family, ascending-family}
use Rattle.mask_words.specs.Lookup.{subset_word, superset_word, flag_word}

module _ (u : ℕ) where
  pub bit-subsets : (m : ℕ) → bit (subset_word u) m ≡ mem m (family u)
  unfolding subset_word
  bit-subsets m = bit_word (family u) m (ascending-family u)

  module _ (h : u < 64) where
    pub get_or-subsets : get_or (map subset_word (upto 64)) u 0 ≡ subset_word u
    get_or-subsets = get_or-map-upto 64 subset_word u h

    pub get_or-supersets : get_or (map superset_word (upto 64)) u 0 ≡ superset_word u
    get_or-supersets = get_or-map-upto 64 superset_word u h

    pub below-family : Below 64 (family u)
    below-family =
        mem_below 64 (family u) (λ m e. lt_of_le_of_lt (within-le m u (and_true_r (ltb 0 m) (within m u) (sym (mem-family m u) ∙ e))) h)

    pub subsets-lt : subset_word u < 2 ^ 64
    unfolding subset_word
    subsets-lt = word_lt 64 (family u) (ascending-family u) below-family

    pub places-subsets : places 64 (subset_word u) ≡ family u
    unfolding subset_word
    places-subsets = places-word 64 (family u) (ascending-family u) below-family

module _ (c : ℕ) where
  pub bit-supersets : (m : ℕ) → m < 64 → bit (superset_word c) m ≡ within c m
  unfolding superset_word
  bit-supersets = bit-word-keep 64 (within c)

  pub supersets-lt : superset_word c < 2 ^ 64
  unfolding superset_word
  supersets-lt = word-keep-lt 64 (within c)

  pub bit-flag_word : (m : ℕ) → m < 64 → bit (flag_word c) m ≡ bit m c
  unfolding flag_word
  bit-flag_word = bit-word-keep 64 (λ m. bit m c)

pub bit-flag : (ws : List ℕ) → ws ≡ map flag_word (upto 6) → (i : ℕ) → i < 6 → (m : ℕ) → m < 64 → bit (get_or ws i 0) m ≡ bit m i
bit-flag ws e i h m k =
    ap (λ (l : List ℕ). bit (get_or l i 0) m) e ∙ ap (λ (v : ℕ). bit v m) (get_or-map-upto 6 flag_word i h) ∙ bit-flag_word i m k
