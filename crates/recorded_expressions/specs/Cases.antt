-- A recorded item on paper: what its bytes ask, and whether the call answers as they record. h are the bytes of its head, a and b its expressions.
--   word_of h           == the bytes of the table's bits, or of the first coefficient word
--   answers h a b      == the outcome of each call, by its number from 1 on, with the arguments in h
--   case_of h a b       == the outcome of the call that a whole head asks
--   recorded_of h k x   == the recorded outcome, its number changed by k and its first result by x, of which 0 changes nothing
--   agreed h a b k x   == the call answers so
--   costs_agree h s     == the costing of s with six flags gives the three numbers in h
--   test_agrees h       == the test of the better answers as recorded in h
--   choice_agrees a b c == the cheaper of a and b with six flags is number c
use Rattle.std.specs.Prelude.{Bool, true, false, List, [], ◌∷◌, ℕ, leb, length, get_or, take, drop}
use Rattle.std.specs.Int.Bits.{bit_xor}
use Rattle.rules.specs.Calls.{evaluate, costing}
use Rattle.rules.specs.Limits.{rule_flags}
use Rattle.comparison.specs.Outcome.{results, same_outcome}
use Rattle.comparison.specs.declared.outcome.Outcome.{Outcome}
use Rattle.comparison.specs.declared.outcome.Outcome.TheVariants.{Damaged}
use Rattle.recorded.specs.Numbers.{pair_at, word_at}
use Rattle.recorded.specs.Results.{recorded_as, outcome_at, number_of}
use Rattle.recorded_calls.specs.Answers.{costed_of, examined, raw_costed, chosen, preferred}

abbrev pub word_of : List ℕ → List ℕ
word_of h = take 8 (drop 19 h)

unfoldable pub answers : List ℕ → List ℕ → List ℕ → List Outcome
answers h a b =
    Damaged
    ∷ number_of (evaluate (word_at h 1) a (word_at h 9))
    ∷ costed_of (costing (word_at h 1) a)
    ∷ examined (word_at h 1) (pair_at h 17) (word_of h) a
    ∷ raw_costed (word_at h 1) (pair_at h 17) (word_of h)
    ∷ chosen (word_at h 1) a b
    ∷ []

unfoldable pub case_of : List ℕ → List ℕ → List ℕ → Outcome
case_of h a b = elim (leb 38 (length h)) [ true ↦ get_or (answers h a b) (get_or h 0 0) Damaged | false ↦ Damaged ]

abbrev pub recorded_of : List ℕ → ℕ → ℕ → Outcome
recorded_of h k x = recorded_as (bit_xor (get_or h 31 0) k) (bit_xor (pair_at h 32) x ∷ pair_at h 34 ∷ pair_at h 36 ∷ 0 ∷ [])

abbrev pub agreed : List ℕ → List ℕ → List ℕ → ℕ → ℕ → Bool
agreed h a b k x = same_outcome (case_of h a b) (recorded_of h k x)

abbrev pub costs_agree : List ℕ → List ℕ → Bool
costs_agree h s = same_outcome (costed_of (costing rule_flags s)) (outcome_at 0 h 0)

abbrev pub test_agrees : List ℕ → Bool
test_agrees h = same_outcome (preferred h) (results (get_or h 16 0) 0 0 0)

abbrev pub choice_agrees : List ℕ → List ℕ → ℕ → Bool
choice_agrees a b c = same_outcome (chosen rule_flags a b) (results c 0 0 0)
