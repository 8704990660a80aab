-- The reader's answer on paper: document 01's number and values for each case.
--   node_of r         == a record's kind, where its operands begin, and the next place
--   found_of f        == a record, or the end
--   reading_of r      == a record, the end, or a refusal
use Rattle.std.proofs.Math.Option.{none, some}
use Rattle.std.proofs.Math.Option as math
use Rattle.std.specs.Prelude.{Option, Some, None, Result}
use Rattle.rules.specs.Machine as paper
use Rattle.rules.specs.Outcome.{Outcome}
use Rattle.rules.specs.Refusal.{outcome_of}
use Rattle.rules.specs.declared.refusal.Refusal.{Refusal}
use Rattle.expr.specs.Answers.{kind_of}
use Rattle.reader.specs.declared.Node.{Node}

abbrev pub node_of : Node → paper.Node
node_of r = record { kind = kind_of r.kind; first = r.first; second = r.second; next = r.next }

abbrev pub found_of : Option Node → math.Option paper.Node
found_of (Some r) = some (node_of r)
found_of None = none

abbrev pub reading_of : Result (Option Node) Refusal → Outcome (math.Option paper.Node)
reading_of = outcome_of found_of
