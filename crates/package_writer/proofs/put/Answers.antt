-- `package_writer::put` meets its contract: row 5 with the rule's length, or the header and behind it the expression at the front of the buffer. From
-- Checked, from the length of a rule's bytes (rule_package, RuleBytes), and from the row of room and what a buffer holds after a call (laws, Checked
-- and Outcome).
use mathlib.Core.List.{List, ◌++◌}
use mathlib.Core.Path.{◌≡◌, sym, ap, ◌∙◌}
use Prim.Native.Nat.{ℕ, ◌+◌, ◌-◌}
use native.Mathlib.Omega.{arith}
use lib.ListN.{length, take, drop}
use lib.Seq.{sets}
use Rattle.bits.specs.LowFirst.{low_bytes}
use Rattle.rules.specs.Ascii.{ascii}
use Rattle.rules.specs.Calls.{fill}
use Rattle.rules.specs.Limits.{short_output}
use Rattle.rules.specs.Outcome.{gives}
use Rattle.laws.proofs.calls.Checked.{room-short, room-enough}
use Rattle.laws.proofs.calls.Outcome.{left-refuses, left-gives}
use Rattle.rule_package.specs.Rule.{Rule, rule_bytes}
use Rattle.rule_package.proofs.RuleBytes.{length-rule_bytes}
use Rattle.package_writer.specs.Inner.{header}
use Rattle.package_writer.proofs.Checked.{rule_bytes-header, stored-parts}
use Rattle.package_writer.proofs.put.Goals as goal

pub returns-then-out-length : goal.returns-then-out-length
unfolding fill
returns-then-out-length c =
    let rule : Rule = record { flags = c.args.flags.count; table = c.args.table; expression = c.args.expression.now } in
    let l = rule_bytes rule in
    let size = length-rule_bytes rule in
    let short = room-short (length c.args.out.now) l (gives l) (omega (arith, size)) in
    let both = left-refuses c.args.out.now _ short_output _ (short ∙ rw size) in
    record { answer = rw c.at.ensures both.0; lent = both.1 }

pub returns : goal.returns
unfolding fill header ascii low_bytes
returns c =
    let rule : Rule = record { flags = c.args.flags.count; table = c.args.table; expression = c.args.expression.now } in
    let l = rule_bytes rule in
    let out = c.args.out.now in
    let enough = room-enough (length out) l (gives l) (omega (arith, length-rule_bytes rule)) in
    let head = header rule.flags (length rule.expression) rule.table in
    let is : c.copy_from_slice.new.self ≡ head = c.copy_from_slice.ensures.after ∙ c.header.ensures in
    let k = 13 + length rule.expression - 13 in
    let after : List ℕ =
    let m = c.copy_from_slice.new.self ++ drop 13 out in
    take 13 m ++ (c.put_all.new.out ++ drop k (drop 13 m)) in
    let stored : after ≡ sets out 0 l =
    rw (is, c.put_all.ensures) (stored-parts out head rule.expression k (omega arith) (omega arith)
    ∙ ap (sets out 0) (sym (rule_bytes-header rule))) in
    let both = left-gives out after l _ _ enough (length-rule_bytes rule) (omega arith) stored in
    record { answer = both.0; lent = both.1 }
