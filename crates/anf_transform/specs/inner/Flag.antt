-- The XOR over subsets taken apart, for the contracts of the transform's parts: flag by flag, and inside one word.
--   along k f m      == f at m, and where m has flag k the XOR with f at m without it
--   lowest k f m     == the XOR of f over the subsets of m that differ from it only in flags below k
--   in_word w         == the word whose bit m is the XOR of the bits of w at the subsets of m, for six flags
--   Holds f ws       == the words ws hold the truth values of f
--   pair_xor d ws i   == the XOR of word i of ws with the word d places before
--   joined j ws i    == word i of ws, and where i has bit j the XOR with the word 2 ^ j places before
use Rattle.std.specs.Prelude.{Bool, true, false, ◌&&◌, List, ◌≡◌, ℕ, ◌+◌, ◌-◌, ◌*◌, ◌/◌, ◌%◌, ◌^◌, ◌<◌, length, get_or}
use Rattle.std.specs.Int.Bits.{bit_xor}
use Rattle.bits.specs.Bit.{◌⊕◌, bit}
use Rattle.bits.specs.Range.{keep, upto}
use Rattle.bits.specs.Word.{word}
use Rattle.rules.specs.Coefficient.{coefficient, packed}

unfoldable pub along : ℕ → (ℕ → Bool) → ℕ → Bool
along k f m = f m ⊕ (bit m k && f (m - 2 ^ k))

unfoldable pub lowest : ℕ → (ℕ → Bool) → ℕ → Bool
lowest k f m = coefficient k (λ s. f (m / 2 ^ k * 2 ^ k + s)) (m % 2 ^ k)

unfoldable pub in_word : ℕ → ℕ
in_word w = word (keep (coefficient 6 (bit w)) (upto 64))

abbrev pub pair_xor : ℕ → List ℕ → ℕ → ℕ
pair_xor d ws i = bit_xor (get_or ws i 0) (get_or ws (i - d) 0)

unfoldable pub joined : ℕ → List ℕ → ℕ → ℕ
joined j ws i = elim (bit i j) [ true ↦ pair_xor (2 ^ j) ws i | false ↦ get_or ws i 0 ]

abbrev pub Holds : (ℕ → Bool) → List ℕ → Type 0
Holds f ws = (m : ℕ) → m < 64 * length ws → packed ws m ≡ f m
