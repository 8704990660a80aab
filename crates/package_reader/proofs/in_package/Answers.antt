-- `package_reader::in_package` meets its contract: the places of 12 and 13 stay, and any other is counted from the package's start.
use mathlib.Core.Logic.{inl, inr}
use mathlib.Core.Path.{refl}
use borrow.Author.Tests.{ne_eqb}
use Rattle.rules.proofs.Injective.{number-injective}
use Rattle.rules.specs.declared.refusal.Reason.TheVariants.{Differs, TooCostly}
use Rattle.rule_package.specs.Calls.{in_package}
use Rattle.package_reader.proofs.in_package.Goals as goal

pub returns-in-Differs : goal.returns-in-Differs
unfolding in_package
returns-in-Differs c = elim c.in-Differs.is [ inl e ↦ rw e refl | inr e ↦ rw e refl ]

pub returns-in_default : goal.returns-in_default
unfolding in_package
returns-in_default c =
    let r = c.args.refusal.reason in
    rw (
      c.at.ensures,
      ne_eqb _ _ (λ e. c.in_default.not-Differs (number-injective r Differs e)),
      ne_eqb _ _ (λ e. c.in_default.not-TooCostly (number-injective r TooCostly e)),
    ) refl
