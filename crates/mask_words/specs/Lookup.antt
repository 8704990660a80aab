-- Words about masks of six flags, as sets of masks.
--   mask_count        == how many masks there are
--   subset_word u     == the nonempty subsets of u
--   superset_word c   == the masks that contain c
--   flag_word i       == the masks that have flag i
use Rattle.std.specs.Prelude.{ℕ}
use Rattle.bits.specs.Bit.{bit, within}
use Rattle.bits.specs.Range.{keep, upto}
use Rattle.bits.specs.Word.{word}
use Rattle.rules.specs.Cleanup.{family}

abbrev pub mask_count : ℕ
mask_count = 64

unfoldable pub subset_word : ℕ → ℕ
subset_word u = word (family u)

unfoldable pub superset_word : ℕ → ℕ
superset_word c = word (keep (within c) (upto mask_count))

unfoldable pub flag_word : ℕ → ℕ
flag_word i = word (keep (λ m. bit m i) (upto mask_count))
