-- Equal meanings have equal answers, so the reader's equation fixes what it answers. Each answer is told from its meaning.
--   rule_reading_of-injective  == the reader's answers
use Rattle.std.specs.Prelude.{◌≡◌, ℕ, ◌≤◌, min, Option, None, Some, Result, refl}
use Rattle.std.proofs.Math.Option as math
use mathlib.Core.Path.{ap, subst}
use native.Mathlib.Bridge.{le_prop}
use native.Mathlib.Omega.{arith}
use Rattle.rules.specs.Limits.{package_flags}
use Rattle.rules.specs.declared.flags.Flags.{Flags}
use Rattle.rules.specs.declared.refusal.Refusal.{Refusal}
use Rattle.rules.proofs.Injective.{outcome_of-injective}
use Rattle.rule_package.specs.Calls as paper
use Rattle.package_reader.specs.Answers.{found_of, rule_reading_of}
use Rattle.package_reader.specs.declared.RuleAt.{RuleAt}

-- a flag count, cut to what a package allows
counted : (n : ℕ) → Flags package_flags
counted n = record { count = min n package_flags; within = omega arith }

counted-of : (f : Flags package_flags) → counted f.count ≡ f
unfolding counted
counted-of f =
    let same : f.count ≡ min f.count package_flags = omega arith in
    subst (λ (n : ℕ). (h : n ≤ package_flags) → ◌≡◌ {A = Flags package_flags} (record { count = n; within = h }) f) same
    (λ h. ap (λ (k : f.count ≤ package_flags). record { count = f.count; within = k }) (le_prop h f.within)) (counted f.count).within

abbrev found : math.Option paper.RuleAt → Option RuleAt
found (math.some r) = Some (record { flags = counted r.flags; table = r.table; start = r.start; length = r.length; next = r.next })
found math.none = None

found-of : (f : Option RuleAt) → found (found_of f) ≡ f
found-of (Some r) =
    ap (λ (f : Flags package_flags). Some (record { flags = f; table = r.table; start = r.start; length = r.length; next = r.next }))
    (counted-of r.flags)
found-of None = refl

pub rule_reading_of-injective : (r q : Result (Option RuleAt) Refusal) → rule_reading_of r ≡ rule_reading_of q → r ≡ q
rule_reading_of-injective = outcome_of-injective found_of found found-of
