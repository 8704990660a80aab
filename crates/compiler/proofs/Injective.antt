-- Equal meanings have equal answers, for a given lent buffer, so the compiler's equation fixes what it answers.
-- The count of bytes is told from the front of the buffer.
--   compilation_of-injective  == the compiler's answers
use Rattle.std.specs.Prelude.{◌≡◌, ℕ, List, Result, length}
use mathlib.Core.Path.{ap}
use Rattle.rules.proofs.Injective.{outcome_of-injective}
use Rattle.rules.specs.Calls as paper
use Rattle.rules.specs.declared.refusal.Refusal.{Refusal}
use Rattle.laws.proofs.calls.Outcome.{length_front}
use Rattle.compiler.specs.Answers.{expression_of, compilation_of}
use Rattle.compiler.specs.declared.Expression.{Expression}

abbrev told : paper.Compilation → Expression
told c = record { bytes = length c.bytes; records = c.records; cost = c.cost; raw = c.raw }

told-of : (out : List ℕ) (e : Expression) → told (expression_of out e) ≡ e
told-of out e = ap (λ (k : ℕ). record { bytes = k; records = e.records; cost = e.cost; raw = e.raw }) (length_front e.bytes out)

pub compilation_of-injective : (out : List ℕ) (r q : Result Expression Refusal) → compilation_of out r ≡ compilation_of out q → r ≡ q
compilation_of-injective out = outcome_of-injective (expression_of out) told (told-of out)
