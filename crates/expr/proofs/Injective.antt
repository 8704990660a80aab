-- Equal meanings have equal answers, so the equation of a record fixes what is answered. Each answer is told from its meaning.
--   kind_of-injective         == kinds of records
--   kind, kind-of            == the kind of a meaning, by which a kind is told again
--   found_of-injective        == what begins at a place
use mathlib.Core.Path.{◌≡◌, refl, ap}
use Rattle.bits.proofs.Injective.{told-apart}
use Rattle.std.specs.Prelude.{Result}
use Rattle.rules.proofs.Injective.{outcome_of-injective}
use Rattle.rules.specs.declared.refusal.Refusal.{Refusal}
use Rattle.rules.specs.Record as paper
use Rattle.expr.specs.Answers.{kind_of, record_of, found_of}
use Rattle.expr.specs.declared.Kind.{Kind}
use Rattle.expr.specs.declared.Kind.TheVariants.{Constant, Variable, And, Or, Xor, Not}
use Rattle.expr.specs.declared.Record.{Record}

abbrev pub kind : paper.Kind → Kind
kind (paper.Constant b) = Constant b
kind (paper.Flag i) = Variable i
kind paper.And = And
kind paper.Or = Or
kind paper.Xor = Xor
kind paper.Not = Not

pub kind-of : (k : Kind) → kind (kind_of k) ≡ k
kind-of (Constant b) = refl
kind-of (Variable i) = refl
kind-of And = refl
kind-of Or = refl
kind-of Xor = refl
kind-of Not = refl

pub kind_of-injective : (k j : Kind) → kind_of k ≡ kind_of j → k ≡ j
kind_of-injective = told-apart kind_of kind kind-of

abbrev read : paper.Found → Record
read r = record { kind = kind r.kind; next = r.next }

read-of : (r : Record) → read (record_of r) ≡ r
read-of r = ap (λ (k : Kind). record { kind = k; next = r.next }) (kind-of r.kind)

pub found_of-injective : (f g : Result Record Refusal) → found_of f ≡ found_of g → f ≡ g
found_of-injective = outcome_of-injective record_of read read-of
