-- The compiler's answer on paper.
--   expression_of out e   == what was written, told by e
--   compilation_of out r  == the answer r, where out is what the lent buffer holds afterwards: the bytes with their counts and costs, or a refusal
--   bytes_of o            == the bytes alone of an outcome of the compiler
use Rattle.std.specs.Prelude.{List, ℕ, Result}
use Rattle.rules.specs.Calls as paper
use Rattle.rules.specs.Outcome.{Outcome, gives, ◌then◌, front}
use Rattle.rules.specs.Refusal.{outcome_of}
use Rattle.rules.specs.declared.refusal.Refusal.{Refusal}
use Rattle.compiler.specs.declared.Expression.{Expression}

-- the first `bytes` entries of the buffer, the count of records, the cost and the raw cost
abbrev pub expression_of : List ℕ → Expression → paper.Compilation
expression_of out e = record { bytes = front e.bytes out; records = e.records; cost = e.cost; raw = e.raw }

abbrev pub compilation_of : List ℕ → Result Expression Refusal → Outcome paper.Compilation
compilation_of out = outcome_of (expression_of out)

abbrev pub bytes_of : Outcome paper.Compilation → Outcome (List ℕ)
bytes_of o = o then (λ c. gives c.bytes)
