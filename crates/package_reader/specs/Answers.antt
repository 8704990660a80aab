-- The reader's answer on paper.
--   rule_at_of r           == the rule r of the code, as the paper has it
--   rule_reading_of r      == the rule, or none at the end, or a refusal
use Rattle.std.specs.Prelude.{Option, None, Some, Result}
use Rattle.std.proofs.Math.Option as math
use Rattle.rules.specs.Outcome.{Outcome}
use Rattle.rules.specs.Refusal.{outcome_of}
use Rattle.rules.specs.declared.refusal.Refusal.{Refusal}
use Rattle.rule_package.specs.Calls as paper
use Rattle.package_reader.specs.declared.RuleAt.{RuleAt}

abbrev pub rule_at_of : RuleAt → paper.RuleAt
rule_at_of r = record { flags = r.flags.count; table = r.table; start = r.start; length = r.length; next = r.next }

abbrev pub found_of : Option RuleAt → math.Option paper.RuleAt
found_of None = math.none
found_of (Some r) = math.some (rule_at_of r)

abbrev pub rule_reading_of : Result (Option RuleAt) Refusal → Outcome (math.Option paper.RuleAt)
rule_reading_of = outcome_of found_of
