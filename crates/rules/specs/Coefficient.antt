-- Coefficients of the algebraic normal form, and the 64-bit words that hold them.
--   coefficient n f m    == coefficient m of the truth function f of n flags
--   word_count n          == how many words hold the coefficients of n flags
--   packed ws m          == coefficient m as it stands in the words ws
--   stray n ws           == some coefficient at 2^n or above is 1 in the needed words
--   word_of f i           == word i of the words that hold f's values
--   words n f            == the words that hold f's values at 0, 1, .. below 2^n
use Rattle.std.specs.Prelude.{Bool, ◌&&◌, List, map, ℕ, ◌+◌, ◌-◌, ◌*◌, ◌/◌, ◌%◌, ◌^◌, ltb, get_or}
use Rattle.bits.specs.Bit.{bit, within}
use Rattle.bits.specs.Range.{from, upto, keep, any}
use Rattle.bits.specs.Sum.{parity}
use Rattle.bits.specs.Word.{word}
use Rattle.rules.specs.Limits.{word_bits}
use Rattle.rules.specs.Table.{settings}

-- "Coefficient m is the XOR of the table's bits at all settings s whose set bits lie in m."
-- The way back is "the same XOR over subsets", with coefficients for f.
unfoldable pub coefficient : ℕ → (ℕ → Bool) → ℕ → Bool
coefficient n f m = parity f (keep (λ s. within s m) (settings n))

-- "there are 2^n/64 words, rounded up"
unfoldable pub word_count : ℕ → ℕ
word_count n = (2 ^ n + (word_bits - 1)) / word_bits

-- "coefficient m is bit m mod 64 of word m div 64"
unfoldable pub packed : List ℕ → ℕ → Bool
packed ws m = bit (get_or ws (m / word_bits) 0) (m % word_bits)

-- "a bit at 2^n or above in the needed words"
unfoldable pub stray : ℕ → List ℕ → Bool
stray n ws = any (packed ws) (from (2 ^ n) (word_bits * word_count n - 2 ^ n))

-- word i of those that hold the truth values of f
unfoldable pub word_of : (ℕ → Bool) → ℕ → ℕ
word_of f i = word (keep (λ j. f (word_bits * i + j)) (upto word_bits))

-- "In a written word, bits at 2^n and above are 0."
unfoldable pub words : ℕ → (ℕ → Bool) → List ℕ
words n f = map (word_of (λ m. ltb m (2 ^ n) && f m)) (upto (word_count n))
