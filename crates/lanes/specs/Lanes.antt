-- Sixty-four settings side by side: word i holds flag i of all of them, and lane j is the setting that bit j of all words makes up, which is that
-- of star j (rules, Stars).
--   seen n s ws          == what the walk over the bytes s is to answer: the values in all lanes, the number of records and the cost of the tree, or
--                           its refusal
use Rattle.std.specs.Prelude.{List, ℕ}
use Rattle.rules.specs.Outcome.{Outcome}
use Rattle.rules.specs.Stars.{star_values}
use Rattle.walk.specs.Walked.{walked}
use Rattle.walk.specs.declared.Seen.{Seen}

abbrev pub seen : ℕ → List ℕ → List ℕ → Outcome (Seen ℕ)
seen n s ws = walked (star_values n ws) n s
