-- What a walk over an expression's records answers on paper, with the values of its trees in any domain.
--   Applied e n k a b x y  == a record of kind k stands over the trees x and y, or as many of them as it has operands, whose values are a and b; its
--                             flag is below n and its records are not too many
--   walked e n s           == the value e of the expression s, its number of records and its cost, or the refusal
--   walked_of r            == the code's answer
--   attempt_of a           == the code's answer over a stack that may be full, none where it is
use Rattle.std.proofs.Math.Option.{none, some}
use Rattle.std.proofs.Math.Option as math
use Rattle.std.specs.Prelude.{◌≡◌, ℕ, ◌≤◌, List, Option, Some, None, Result}
use Rattle.rules.specs.Limits.{record_limit}
use Rattle.rules.specs.Machine.{made}
use Rattle.rules.specs.Outcome.{Outcome, gives, ◌then◌}
use Rattle.rules.specs.Record.{Kind, FlagBelow, operand_count}
use Rattle.rules.specs.Refusal.{outcome_of}
use Rattle.rules.specs.Tree.{Tree, size, cost}
use Rattle.rules.specs.declared.refusal.Refusal.{Refusal}
use Rattle.reader.specs.Inner.{join}
use Rattle.walk.specs.declared.Seen.{Seen}

pub record Applied {A : Type 0} (e : Tree → A) (n : ℕ) (k : Kind) (a b : A) (x y : Tree) : Type 0 where
  pub first : 1 ≤ operand_count k → a ≡ e x
  pub second : 2 ≤ operand_count k → b ≡ e y
  pub flag : FlagBelow n k
  pub few : size (join k x y) ≤ record_limit

unfoldable pub walked : {A : Type 0} → (Tree → A) → ℕ → List ℕ → Outcome (Seen A)
walked e n s = made n s then (λ t. gives (record { value = e t; size = size t; cost = cost t }))

abbrev pub walked_of : {A : Type 0} → Result (Seen A) Refusal → Outcome (Seen A)
walked_of = outcome_of (λ v. v)

abbrev pub attempt_of : {A : Type 0} → Option (Result (Seen A) Refusal) → math.Option (Outcome (Seen A))
attempt_of (Some w) = some (walked_of w)
attempt_of None = none
