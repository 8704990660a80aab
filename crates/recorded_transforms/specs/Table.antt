-- One recorded table on paper: b are the bytes of its bits, c those of its coefficients, and e is what the call must tell.
--   padded l            == l and three entries after it, which a call must leave, or ignore
--   transformed n b c e == the transform of the table tells e and leaves the words, in a buffer with three entries more
--   restored n b c e    == the way back from the words, and three more, tells e and leaves the bits, in a buffer with three entries more
--   agreed w n b c e    == the one or the other, by the way
use Rattle.std.specs.Prelude.{Bool, List, map, ◌++◌, ℕ, ◌+◌, replicate}
use Rattle.bits.specs.Range.{upto}
use Rattle.rules.specs.Calls.{transform, way_back}
use Rattle.rules.specs.Outcome.{left}
use Rattle.comparison.specs.Called.{comes_to}
use Rattle.comparison.specs.declared.outcome.Outcome.{Outcome}
use Rattle.recorded.specs.Noise.{noisy}
use Rattle.recorded.specs.Numbers.{bit_at, words_in}
use Rattle.recorded.specs.Pattern.{word}
use Rattle.recorded.specs.Sizes.{entries_of, words_of}
use Rattle.recorded_transforms.specs.Answers.{outcome_of}
use Rattle.recorded_transforms.specs.declared.one_table.Way.{Way}
use Rattle.recorded_transforms.specs.declared.one_table.Way.TheVariants.{There, Back}

abbrev pub padded : List ℕ → List ℕ
padded l = l ++ replicate 3 word

unfoldable pub transformed : ℕ → List ℕ → List ℕ → Outcome → Bool
transformed n b c e =
    comes_to outcome_of left (transform n (map (noisy b) (upto (entries_of n))) (words_of n + 3)) (replicate (words_of n + 3) word) e
    (padded (words_in (words_of n) c))

unfoldable pub restored : ℕ → List ℕ → List ℕ → Outcome → Bool
restored n b c e =
    comes_to outcome_of left (way_back n (padded (words_in (words_of n) c)) (entries_of n + 3)) (replicate (entries_of n + 3) word) e
    (padded (map (bit_at b) (upto (entries_of n))))

abbrev pub agreed : Way → ℕ → List ℕ → List ℕ → Outcome → Bool
agreed There n b c e = transformed n b c e
agreed Back n b c e = restored n b c e
