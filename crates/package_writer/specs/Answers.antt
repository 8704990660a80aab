-- The writer's answer on paper.
--   writing_of out w      == the answer w, where out is what the lent buffer holds afterwards: the rule's bytes, or a refusal
use Rattle.std.specs.Prelude.{List, ℕ, Result}
use Rattle.rules.specs.Outcome.{Outcome, front}
use Rattle.rules.specs.Refusal.{outcome_of}
use Rattle.rules.specs.declared.refusal.Refusal.{Refusal}

-- a result k: the first k bytes of the buffer
abbrev pub writing_of : List ℕ → Result ℕ Refusal → Outcome (List ℕ)
writing_of out = outcome_of (λ k. front k out)
