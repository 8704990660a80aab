-- How the rows of request 4 are written and compared: rules and packages by hand, and tests that an answer is the expected one. Nothing here says
-- what is right.
--   packaging                == opens the definitions of this crate, as `computing` does those of `rules`
--   rule n w "VA0"           == the rule of n flags, the table word w and these records
--   bytes n k t "VA0"        == bytes by hand: the mark, n flags, a length of k, the table byte t and seven of 0, these records
--   is_rule, is_rule_at, is_placed  == a rule, or a rule in a package, or a list of these, is the expected one
--   is_headed, is_read, is_end  == an answer is that rule, or the end
--   two, first, second       == the bytes of a package, and the two rules that are read in it
--   long                     == a rule whose length takes two bytes
use mathlib.Core.Bool.{Bool, true, false, ◌&&◌}
use mathlib.Core.List.{List, [], ◌∷◌, ◌++◌}
use mathlib.Core.Option.{Option, none, some}
use Prim.Native.Nat.{ℕ, ◌-◌, ◌^◌}
use Prim.Native.String.{String}
use lib.Dec.{eqb}
use Rattle.bits.specs.LowFirst.{low_first, low_bytes}
use Rattle.bits.specs.Range.{same}
use Rattle.rules.specs.Outcome.{Outcome, gives, refuses}
use Rattle.rules.proofs.Answers.{bytes_of}
use Rattle.rules.proofs.Computing.{computing}
use Rattle.laws.proofs.reading.LongRows.{negations}
use Rattle.rule_package.specs.Calls.{write_rule, RuleAt, rule_at, rule_in, rule_from, placed, headed, in_package, read_rule}
use Rattle.rule_package.specs.Rule.{Rule, rule_bytes, package_bytes, stray_bit, examine_rule}

unfoldable pub packaging : Unit {0}
unfolding computing low_first low_bytes rule_bytes package_bytes stray_bit examine_rule write_rule rule_at rule_in rule_from placed headed in_package
    read_rule
packaging = tt

unfoldable pub rule : ℕ → ℕ → String → Rule
unfolding bytes_of
rule n w t = record { flags = n; table = w; expression = bytes_of t }

-- R is 82, U is 85
unfoldable pub bytes : ℕ → ℕ → ℕ → String → List ℕ
unfolding bytes_of
bytes n k t e = 82 ∷ 85 ∷ n ∷ k ∷ 0 ∷ t ∷ 0 ∷ 0 ∷ 0 ∷ 0 ∷ 0 ∷ 0 ∷ 0 ∷ bytes_of e

unfoldable pub is_rule : Rule → Rule → Bool
unfolding computing
is_rule a r = eqb a.flags r.flags && eqb a.table r.table && same a.expression r.expression

unfoldable pub is_rule_at : RuleAt → RuleAt → Bool
is_rule_at a r =
    eqb a.flags r.flags && eqb a.table r.table && eqb a.start r.start && eqb a.length r.length && eqb a.next r.next

unfoldable pub is_placed : List RuleAt → List RuleAt → Bool
unfolding is_rule_at
is_placed [] [] = true
is_placed [] (r ∷ rs) = false
is_placed (a ∷ l) [] = false
is_placed (a ∷ l) (r ∷ rs) = is_rule_at a r && is_placed l rs

unfoldable pub is_headed : RuleAt → Outcome RuleAt → Bool
unfolding is_rule_at
is_headed a (gives r) = is_rule_at a r
is_headed a (refuses k p) = false

unfoldable pub is_read : RuleAt → Outcome (Option RuleAt) → Bool
unfolding is_rule_at
is_read a (gives none) = false
is_read a (gives (some r)) = is_rule_at a r
is_read a (refuses k p) = false

unfoldable pub is_end : Outcome (Option RuleAt) → Bool
is_end (gives none) = true
is_end (gives (some r)) = false
is_end (refuses k p) = false

-- the marked rule `0111` at place 0, whose word has the bits 1, 2 and 3, and behind it `10` as VA0 NO, whose word has bit 0 alone; A is 65, N 78,
-- O 79, V 86
abbrev pub two : List ℕ
two =
    82 ∷ 85 ∷ 2 ∷ 8 ∷ 0 ∷ 14 ∷ 0 ∷ 0 ∷ 0 ∷ 0 ∷ 0 ∷ 0 ∷ 0 ∷ 86 ∷ 65 ∷ 0 ∷ 86 ∷ 65 ∷ 1 ∷ 79 ∷ 82
    ∷ 82 ∷ 85 ∷ 1 ∷ 5 ∷ 0 ∷ 1 ∷ 0 ∷ 0 ∷ 0 ∷ 0 ∷ 0 ∷ 0 ∷ 0 ∷ 86 ∷ 65 ∷ 0 ∷ 78 ∷ 79
    ∷ []

abbrev pub first : RuleAt
first = record { flags = 2; table = 14; start = 13; length = 8; next = 21 }

abbrev pub second : RuleAt
second = record { flags = 1; table = 1; start = 34; length = 5; next = 39 }

-- a rule of five flags, whose table is 0 at setting 0 alone; the expression has 3 * 5 + 2 * 4 + 2 * 120 = 263 = 7 + 256 bytes and costs 6 + 120, and
-- the raw cost is 2 * 80 - 1
unfoldable pub long : Rule
unfolding bytes_of negations
long = record { flags = 5; table = 2 ^ 32 - 2; expression = bytes_of "VA0 VA1 OR VA2 OR VA3 OR VA4 OR" ++ negations 120 }
