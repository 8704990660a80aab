-- A recorded reading of a record on paper: h are the bytes of its head, s the expression. It rests on the reader's call on paper, whose outcome
-- stands here in the numbers that the file has for it.
--   code_of k            == a record's number; past 255 for a flag that no rule has
--   numbers_of f         == the record's number, the next place and the first byte of each operand, or 255 at the end
--   read_of o            == an outcome in these numbers
--   reading_at h         == the recorded outcome
--   reading_agrees h s   == the call with h's flag count and place answers so
use Rattle.std.specs.Prelude.{Bool, true, false, List, [], ◌∷◌, ℕ, ◌+◌, ltb, get_or}
use Rattle.std.proofs.Math.Option.{Option, none, some}
use Rattle.bits.specs.Bit.{digit}
use Rattle.rules.specs.Calls.{read}
use Rattle.rules.specs.Machine.{Node}
use Rattle.rules.specs.Outcome as result
use Rattle.rules.specs.Record.{Kind, Constant, Flag, And, Or, Xor, Not}
use Rattle.comparison.specs.Outcome as outcomes
use Rattle.comparison.specs.Outcome.{same_outcome}
use Rattle.comparison.specs.declared.outcome.Outcome.{Outcome}
use Rattle.recorded.specs.Numbers.{pair_at, word_at}
use Rattle.recorded.specs.Results.{recorded_as}

abbrev pub code_of : Kind → ℕ
code_of (Constant b) = digit b
code_of (Flag i) = elim (ltb i 8) [ true ↦ 2 + i | false ↦ 256 + i ]
code_of And = 10
code_of Or = 11
code_of Xor = 12
code_of Not = 13

abbrev pub numbers_of : Option Node → List ℕ
numbers_of (some r) = code_of r.kind ∷ r.next ∷ r.first ∷ r.second ∷ []
numbers_of none = 255 ∷ 0 ∷ 0 ∷ 0 ∷ []

abbrev pub read_of : result.Outcome (Option Node) → Outcome
read_of = outcomes.numbers_of numbers_of

abbrev pub reading_at : List ℕ → Outcome
reading_at h = recorded_as (get_or h 18 0) (pair_at h 19 ∷ pair_at h 21 ∷ pair_at h 23 ∷ pair_at h 25 ∷ [])

abbrev pub reading_agrees : List ℕ → List ℕ → Bool
reading_agrees h s = same_outcome (read_of (read (word_at h 0) s (word_at h 8))) (reading_at h)
