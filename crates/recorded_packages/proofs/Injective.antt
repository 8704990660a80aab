-- Equal numbers have equal answers, so what the replay compares tells a rule from the end and from a refusal. It rests on the definitions of
-- specs/Readings and specs/Writings, and for the reader's answers on their meaning (package_reader, Injective).
--   numbers_of-injective   == the outcomes of the reader
--   reading-injective     == the answers of the reader
--   written_by-injective   == the answers of the writer
use mathlib.Core.List.{List}
use mathlib.Core.Option as math
use mathlib.Core.Option.{none, some}
use Rattle.std.specs.Prelude.{Option, Result}
use mathlib.Core.Path.{◌≡◌, refl}
use Prim.Native.Nat.{ℕ}
use lib.Dec.{eqb}
use lib.ListN.{get_or}
use Rattle.bits.proofs.Injective.{told-apart}
use Rattle.rules.specs.Outcome as result
use Rattle.rules.specs.Outcome.{gives, refuses}
use Rattle.laws.proofs.calls.Outcome.{pick}
use Rattle.rule_package.specs.Calls as paper
use Rattle.rules.specs.declared.refusal.Refusal.{Refusal}
use Rattle.package_reader.specs.Answers.{rule_reading_of}
use Rattle.package_reader.specs.declared.RuleAt.{RuleAt}
use Rattle.package_reader.proofs.Injective.{rule_reading_of-injective}
use Rattle.comparison.specs.Outcome.{alone}
use Rattle.comparison.proofs.Told.{answer_of-injective}
use Rattle.recorded_packages.specs.Readings.{numbers_of}
use Rattle.recorded_packages.specs.Writings.{written_by}

abbrev rule : List ℕ → paper.RuleAt
rule l = record { flags = get_or l 2 0; table = get_or l 3 0; start = get_or l 4 0; length = get_or l 5 0; next = get_or l 6 0 }

-- the outcome with these numbers, by its kind
abbrev reading : List ℕ → result.Outcome (math.Option paper.RuleAt)
reading l =
    pick (eqb (get_or l 0 0) 0) (gives none)
    (pick (eqb (get_or l 0 0) 1) (gives (some (rule l))) (refuses (get_or l 1 0) (get_or l 6 0)))

reading-of : (o : result.Outcome (math.Option paper.RuleAt)) → reading (numbers_of o) ≡ o
reading-of (gives none) = refl
reading-of (gives (some r)) = refl
reading-of (refuses k p) = refl

pub numbers_of-injective : (o q : result.Outcome (math.Option paper.RuleAt)) → numbers_of o ≡ numbers_of q → o ≡ q
numbers_of-injective = told-apart numbers_of reading reading-of

pub reading-injective : (a b : Result (Option RuleAt) Refusal) → numbers_of (rule_reading_of a) ≡ numbers_of (rule_reading_of b) → a ≡ b
reading-injective a b e = rule_reading_of-injective a b (numbers_of-injective (rule_reading_of a) (rule_reading_of b) e)

pub written_by-injective : (a b : Result ℕ Refusal) → written_by a ≡ written_by b → a ≡ b
written_by-injective = answer_of-injective alone (λ l. get_or l 0 0) (λ k. refl)
