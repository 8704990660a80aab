-- A recorded reading of a package on paper: h are the bytes of its head, b those of the package before anything is cut or changed.
--   numbers_of o         == the reader's outcome in numbers: kind, where 0 is the end, 1 a rule and 2 a refusal; the refusal's number; flag count,
--                          table, start and length of a rule; and its next place, or the refusal's place
--   numbers_at h         == the recorded ones
--   handed h b          == what is handed in: so many bytes of b as h says, after its byte is changed, which past the end changes nothing
--   reading_agrees h b   == there are so many bytes, and the reader, asked at h's place, answers so
use Rattle.std.specs.Prelude.{Bool, ◌&&◌, List, [], ◌∷◌, ℕ, leb, length, get_or, take, set}
use Rattle.std.proofs.Math.Option.{Option, none, some}
use Rattle.bits.specs.Range.{same}
use Rattle.rules.specs.Outcome.{Outcome, gives, refuses}
use Rattle.rule_package.specs.Calls.{RuleAt, read_rule}
use Rattle.recorded.specs.Numbers.{pair_at, half_at, word_at}

abbrev pub numbers_of : Outcome (Option RuleAt) → List ℕ
numbers_of (gives none) = 0 ∷ 0 ∷ 0 ∷ 0 ∷ 0 ∷ 0 ∷ 0 ∷ []
numbers_of (gives (some r)) = 1 ∷ 0 ∷ r.flags ∷ r.table ∷ r.start ∷ r.length ∷ r.next ∷ []
numbers_of (refuses k p) = 2 ∷ k ∷ 0 ∷ 0 ∷ 0 ∷ 0 ∷ p ∷ []

abbrev pub numbers_at : List ℕ → List ℕ
numbers_at h = get_or h 17 0 ∷ get_or h 18 0 ∷ get_or h 19 0 ∷ word_at h 20 ∷ half_at h 28 ∷ pair_at h 32 ∷ half_at h 34 ∷ []

abbrev pub handed : List ℕ → List ℕ → List ℕ
handed h b = take (half_at h 0) (set b (half_at h 4) (get_or h 8 0))

unfoldable pub reading_agrees : List ℕ → List ℕ → Bool
reading_agrees h b = leb (half_at h 0) (length b) && same (numbers_of (read_rule (handed h b) (word_at h 9))) (numbers_at h)
