-- The three printed lines as the first, the text of the records and the last, and the payloads of a record's text. No proof of a function needs these
-- laws today. They rest on the definitions of specs/inner.
--   lines-parts       == the three lines are the first one, the text of the records and the last one
--   constant-small    == a constant's payload is 0 or 1
--   variable-small    == a flag's payload is below the flag count
use mathlib.Core.Bool.{Bool, true, false}
use mathlib.Core.List.{List, ◌++◌, append_assoc}
use mathlib.Core.Path.{◌≡◌, subst}
use Prim.Native.Nat.{ℕ, ◌<◌}
use native.Mathlib.Omega.{arith}
use mir.Val.{bool_byte}
use Rattle.rules.specs.Record.{FlagBelow}
use Rattle.expr.specs.Answers.{kind_of}
use Rattle.expr.specs.declared.Kind.{Kind}
use Rattle.rule_text.specs.inner.Lines.{first_line, last_line}
use Rattle.rule_text.specs.inner.Parts.{lines}

pub lines-parts : (n : ℕ) (l : List ℕ) (cost raw : ℕ) → lines n l cost raw ≡ first_line n ++ l ++ last_line cost raw
unfolding lines first_line last_line
lines-parts n l cost raw = simp append_assoc

pub variable-small : (k : Kind) (i n : ℕ) → k ≡ Kind.Variable i → FlagBelow n (kind_of k) → i < n
variable-small k i n e h = subst (λ (j : Kind). FlagBelow n (kind_of j)) e h

pub constant-small : (b : Bool) → bool_byte b < 2
constant-small true = omega arith
constant-small false = omega arith
