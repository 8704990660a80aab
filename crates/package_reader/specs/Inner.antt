-- How a rule is read in steps, for the contracts of inner functions.
--   refusal_of r          == a refusal as an outcome
--   Whole s r            == the rule r is one of six flags at most, whose bytes are whole in s, which is not overlong
use Rattle.std.specs.Prelude.{ℕ, ◌+◌, ◌≤◌, ◌≡◌, List}
use Rattle.std.proofs.Math.ListN as list
use Rattle.rules.specs.Limits.{package_flags, package_limit}
use Rattle.rules.specs.Outcome.{Outcome, refuses}
use Rattle.rules.specs.Refusal.{number}
use Rattle.rules.specs.declared.refusal.Refusal.{Refusal}
use Rattle.rule_package.specs.Calls.{RuleAt}

abbrev pub refusal_of : Refusal → Outcome ℕ
refusal_of r = refuses (number r.reason) r.place

pub record Whole (s : List ℕ) (r : RuleAt) : Type 0 where
  pub flags : r.flags ≤ package_flags
  pub expression : r.next ≡ r.start + r.length
  pub inside : r.next ≤ list.length s
  pub limit : list.length s ≤ package_limit
