-- The answer of the transform and of the way back on paper.
--   filled_of out r   == the outcome that the answer r tells, where out is what the lent buffer holds afterwards
use Rattle.std.specs.Prelude.{List, ℕ, Result}
use Rattle.rules.specs.Outcome.{Outcome, front}
use Rattle.rules.specs.Refusal.{outcome_of}
use Rattle.rules.specs.declared.refusal.Refusal.{Refusal}

-- `Ok(k)`: the result is the first k entries of the lent buffer as it is left
abbrev pub filled_of : List ℕ → Result ℕ Refusal → Outcome (List ℕ)
filled_of out = outcome_of (λ k. front k out)
