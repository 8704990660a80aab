-- `package_reader::examined` meets its contract: the examiner's answer on the rule's part of the bytes, with its places counted from the package's
-- start. From Checked, and from the bound of an examination's places (laws, Refused).
use Rattle.std.proofs.Common.{rules}
use mathlib.Core.Path.{refl, sym, ap, ◌∙◌}
use native.Mathlib.Omega.{arith}
use lib.ListN.{drop, length-take}
use Rattle.bits.specs.Part.{part}
use Rattle.laws.proofs.calls.Refused.{examine-places}
use Rattle.rules.proofs.Injective.{number-injective}
use Rattle.rules.specs.Table.{word_table}
use Rattle.rules.specs.declared.refusal.Reason.TheVariants.{Differs, TooCostly}
use Rattle.rule_package.specs.Calls.{rule_in, in_package}
use Rattle.rule_package.specs.Rule.{examine_rule}
use Rattle.package_reader.specs.Answers.{rule_at_of}
use Rattle.package_reader.proofs.Checked.{rule-examined, mapped}
use Rattle.package_reader.proofs.examined.Goals as goal

pub map_err-requires : goal.map_err-requires
unfolding examine_rule rule_in
map_err-requires c refusal e _ _ _ _ _ d h =
    let r = rule_at_of c.args.rule in
    let s = c.args.bytes.now in
    let refused = sym (rule-examined s r c.requires (rw e at c.examine_word-cost.ensures)) in
    let at = examine-places r.flags (word_table r.flags r.table) (part s r.start r.length) _ _ refused
    (λ e. d (number-injective refusal.reason Differs e)) (λ e. h (number-injective refusal.reason TooCostly e)) in
    omega (arith, at, c.requires.expression, c.requires.inside, c.requires.limit, length-take r.length (drop r.start s))

pub returns : goal.returns
unfolding in_package
returns c =
    let r = rule_at_of c.args.rule in
    mapped _ (in_package r.start) _ _ c.map_err.ensures.cases (λ b. refl) (λ e d h. search (rules, h))
    ∙ ap (in_package r.start) (rule-examined c.args.bytes.now r c.requires c.examine_word-cost.ensures)
