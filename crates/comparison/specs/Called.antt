-- A call on paper beside what is expected of it. O is the type of its outcomes, `numbers` gives an outcome in numbers, and `after` what a lent buffer
-- holds after it.
--   comes_to o b e l   == the outcome o is e in numbers, and a lent buffer that held b is left as l
use Rattle.std.specs.Prelude.{ℕ, Bool, ◌&&◌, List}
use Rattle.bits.specs.Range.{same}
use Rattle.comparison.specs.Outcome.{same_outcome}
use Rattle.comparison.specs.declared.outcome.Outcome.{Outcome}

module _ {O : Type 0} (numbers : O → Outcome) (after : List ℕ → O → List ℕ) where
  unfoldable pub comes_to : O → List ℕ → Outcome → List ℕ → Bool
  comes_to o b e l = same_outcome (numbers o) e && same (after b o) l
