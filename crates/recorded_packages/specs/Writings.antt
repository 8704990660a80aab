-- A recorded writing of a rule on paper: h are the bytes of its head, s the expression, l what the lent buffer must hold afterwards.
--   rule_of h s            == the rule that is to be written
--   written_of o           == the writer's outcome in numbers: the rule's length, or the refusal
--   written_by a           == an answer of the writer in numbers
--   outcome_at h           == the recorded outcome
--   longest               == more bytes than any recorded buffer has
--   writing_agrees h s l   == l has at most so many bytes, and the writer, asked with a buffer of its length, answers so and leaves l
use Rattle.std.specs.Prelude.{Bool, ◌&&◌, List, [], ◌∷◌, ℕ, Result, leb, length, get_or, replicate}
use Rattle.rules.specs.Outcome as result
use Rattle.rules.specs.Outcome.{left}
use Rattle.rules.specs.declared.refusal.Refusal.{Refusal}
use Rattle.rule_package.specs.Calls.{write_rule}
use Rattle.rule_package.specs.Rule.{Rule}
use Rattle.comparison.specs.Called.{comes_to}
use Rattle.comparison.specs.Outcome.{alone, numbers_of, answer_of}
use Rattle.comparison.specs.declared.outcome.Outcome.{Outcome}
use Rattle.recorded.specs.Numbers.{pair_at, word_at}
use Rattle.recorded.specs.Pattern.{byte}
use Rattle.recorded.specs.Results.{recorded_as}

abbrev pub rule_of : List ℕ → List ℕ → Rule
rule_of h s = record { flags = word_at h 0; table = word_at h 8; expression = s }

abbrev pub written_of : result.Outcome (List ℕ) → Outcome
written_of = numbers_of (λ l. alone (length l))

abbrev pub written_by : Result ℕ Refusal → Outcome
written_by = answer_of alone

abbrev pub outcome_at : List ℕ → Outcome
outcome_at h = recorded_as (get_or h 20 0) (pair_at h 21 ∷ 0 ∷ 0 ∷ 0 ∷ [])

abbrev pub longest : ℕ
longest = 2048

unfoldable pub writing_agrees : List ℕ → List ℕ → List ℕ → Bool
writing_agrees h s l =
    leb (length l) longest && comes_to written_of left (write_rule (rule_of h s) (length l)) (replicate (length l) byte) (outcome_at h) l
