-- Equal meanings have equal answers, so the reader's equation fixes what it answers. Each answer is told from its meaning.
--   reading_of-injective      == the reader's answers
use Rattle.std.proofs.Math.Option.{none, some}
use Rattle.std.proofs.Math.Option as math
use Rattle.std.specs.Prelude.{Option, Some, None, Result}
use mathlib.Core.Path.{◌≡◌, refl, ap}
use Rattle.rules.proofs.Injective.{outcome_of-injective}
use Rattle.rules.specs.Machine as paper
use Rattle.rules.specs.declared.refusal.Refusal.{Refusal}
use Rattle.expr.specs.declared.Kind.{Kind}
use Rattle.expr.proofs.Injective.{kind, kind-of}
use Rattle.reader.specs.Answers.{found_of, reading_of}
use Rattle.reader.specs.declared.Node.{Node}

abbrev found : math.Option paper.Node → Option Node
found (some r) = Some record { kind = kind r.kind; first = r.first; second = r.second; next = r.next }
found none = None

found-of : (r : Option Node) → found (found_of r) ≡ r
found-of (Some r) =
    ap (λ (k : Kind). Some record { kind = k; first = r.first; second = r.second; next = r.next }) (kind-of r.kind)
found-of None = refl

pub reading_of-injective : (r q : Result (Option Node) Refusal) → reading_of r ≡ reading_of q → r ≡ q
reading_of-injective = outcome_of-injective found_of found found-of
