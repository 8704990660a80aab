-- Sixty-four stars side by side, by request 1 of document 02: "flags as one 64-bit word per flag, bit j for star j".
--   star_setting n ws j   == the setting of star j in the words ws of n flags
--   star_values n ws t    == the word of a tree's values for all stars
use Rattle.std.specs.Prelude.{List, ℕ, get_or}
use Rattle.bits.specs.Bit.{bit}
use Rattle.bits.specs.Range.{keep, upto}
use Rattle.bits.specs.Word.{word}
use Rattle.rules.specs.Limits.{word_bits}
use Rattle.rules.specs.Tree.{Tree, value}

-- "word i for flag i": bit i of the setting is bit j of word i
unfoldable pub star_setting : ℕ → List ℕ → ℕ → ℕ
star_setting n ws j = word (keep (λ i. bit (get_or ws i 0) j) (upto n))

-- "a word whose bit j is the single evaluation of star j, for all 64": that a call evaluates alike is laws' EachStar
unfoldable pub star_values : ℕ → List ℕ → Tree → ℕ
star_values n ws t = word (keep (λ j. value t (star_setting n ws j)) (upto word_bits))
