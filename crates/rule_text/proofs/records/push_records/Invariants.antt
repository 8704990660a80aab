-- `rule_text::records::push_records` meets its contract. The loop's invariant is `Left`: the records from the place on are left to print. The measure
-- is what is left of the bytes.
use Rattle.std.proofs.Common.{length, ◌-◌}
use Rattle.rules.specs.Machine.{made}
use Rattle.rule_text.specs.inner.Parts.{shown}
use Rattle.rule_text.proofs.Left.{Left}
use Rattle.rule_text.proofs.records.push_records.Given as goal

abbrev pub invariant-loop-place : goal.invariant-loop-place
invariant-loop-place l =
    Left l.flags.count l.expression (shown (made l.flags.count l.expression)) l.place l.initial.page l.page

abbrev pub decreases-loop-place : goal.decreases-loop-place
decreases-loop-place l = length l.expression - l.place
