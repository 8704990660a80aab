-- What begins at a place told again from its meaning, which the injectivity of the meaning rests on. No proof of a function needs it today. It is the
-- law of all answers (rules, Injective) for a record.
--   found      == the answer of an outcome
--   found-of   == it is the one whose meaning the outcome is
use mathlib.Core.Path.{◌≡◌, ap}
use Rattle.std.specs.Prelude.{Result}
use Rattle.rules.specs.Outcome.{Outcome}
use Rattle.rules.specs.Record as paper
use Rattle.rules.specs.declared.refusal.Refusal.{Refusal}
use Rattle.rules.proofs.Injective.{answer_of, outcome-told}
use Rattle.expr.specs.Answers.{record_of, found_of}
use Rattle.expr.specs.declared.Kind.{Kind}
use Rattle.expr.specs.declared.Record.{Record}
use Rattle.expr.proofs.Injective.{kind, kind-of}

abbrev read : paper.Found → Record
read r = record { kind = kind r.kind; next = r.next }

abbrev pub found : Outcome paper.Found → Result Record Refusal
found = answer_of read

pub found-of : (f : Result Record Refusal) → found (found_of f) ≡ f
found-of = outcome-told record_of read (λ r. ap (λ (k : Kind). record { kind = k; next = r.next }) (kind-of r.kind))
