-- A record in code on paper: document 01's number and values for each case.
--   kind_of k         == the kind of a record
--   record_of r       == its kind, and the next place
--   found_of f        == a record, or its refusal
use Rattle.std.specs.Prelude.{Result}
use Rattle.rules.specs.Outcome.{Outcome}
use Rattle.rules.specs.Record as paper
use Rattle.rules.specs.Refusal.{outcome_of}
use Rattle.rules.specs.declared.refusal.Refusal.{Refusal}
use Rattle.expr.specs.declared.Kind.{Kind}
use Rattle.expr.specs.declared.Kind.TheVariants.{Constant, Variable, And, Or, Xor, Not}
use Rattle.expr.specs.declared.Record.{Record}

abbrev pub kind_of : Kind → paper.Kind
kind_of (Constant b) = paper.Constant b
kind_of (Variable i) = paper.Flag i
kind_of And = paper.And
kind_of Or = paper.Or
kind_of Xor = paper.Xor
kind_of Not = paper.Not

abbrev pub record_of : Record → paper.Found
record_of r = record { kind = kind_of r.kind; next = r.next }

abbrev pub found_of : Result Record Refusal → Outcome paper.Found
found_of = outcome_of record_of
