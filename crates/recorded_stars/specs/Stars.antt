-- A recorded evaluation for 64 stars on paper: h are the bytes of its head, w those of the words, s the expression.
--   stars_at h          == the recorded outcome
--   stars_agree h w s   == the call with h's flag count and the first words of w, as many as h says, answers so
use Rattle.std.specs.Prelude.{Bool, List, [], ◌∷◌, ℕ, get_or}
use Rattle.rules.specs.Calls.{evaluate_stars}
use Rattle.comparison.specs.Outcome.{same_outcome}
use Rattle.comparison.specs.declared.outcome.Outcome.{Outcome}
use Rattle.recorded.specs.Numbers.{word_at, words_in}
use Rattle.recorded.specs.Results.{recorded_as, number_of}

abbrev pub stars_at : List ℕ → Outcome
stars_at h = recorded_as (get_or h 11 0) (word_at h 12 ∷ 0 ∷ 0 ∷ 0 ∷ [])

abbrev pub stars_agree : List ℕ → List ℕ → List ℕ → Bool
stars_agree h w s = same_outcome (number_of (evaluate_stars (word_at h 0) (words_in (get_or h 8 0) w) s)) (stars_at h)
