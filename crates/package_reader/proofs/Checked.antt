-- The reader row by row: past the package's length and the end the header, whose rule is whole, and then the examination. It rests on the
-- definitions of rule_package, and for what a header tells on what stands in a package (rule_package, Stands).
--   overlong, ended      == an overlong package, and the end
--   read-headed          == a rule
--   headed-whole         == a rule that passed the rows of the header is whole
--   rule-examined        == the examination of the part of the bytes that is the expression is the rule's
--   missing, present     == what an option says where `ok_or` refuses, and where it does not
--   mapped f h           == what `map_err` refuses is h of what it was given
use Rattle.std.specs.Prelude.{◌≡◌, refl, ℕ, ◌-◌, ◌≤◌, ◌<◌, List, length, Option, Some, None, Result, Ok, Err, MatchOption, MatchResult, IsErrAnd}
use Rattle.std.specs.Option.{ok_or}
use mathlib.Core.Option.{none, some}
use mathlib.Core.Path.{ap, ◌∙◌}
use native.Mathlib.Omega.{arith}
use borrow.Author.Tests.{lt-ltb, le-ltb}
use Rattle.bits.specs.Part.{part}
use Rattle.rules.specs.Calls.{examine}
use Rattle.rules.specs.Limits.{package_limit, past_end}
use Rattle.rules.specs.Outcome.{Outcome, gives, refuses, ◌then◌}
use Rattle.rules.specs.Refusal.{number, outcome_of}
use Rattle.rules.specs.declared.refusal.Refusal.{Refusal}
use Rattle.rules.specs.Table.{word_table}
use Rattle.rule_package.specs.Calls.{RuleAt, rule_in, headed, in_package, read_rule}
use Rattle.rule_package.specs.Rule.{examine_rule}
use Rattle.rule_package.proofs.Stands.{headed-gives}
use Rattle.package_reader.specs.Inner.{Whole}

module _ (s : List ℕ) (p : ℕ) where
  pub overlong : package_limit < length s → read_rule s p ≡ refuses past_end 0
  unfolding read_rule
  overlong h = rw (lt-ltb package_limit (length s) h) refl

  pub ended : length s ≤ package_limit → length s ≤ p → read_rule s p ≡ gives none
  unfolding read_rule
  ended short h = rw (le-ltb package_limit (length s) short, le-ltb p (length s) h) refl

  pub read-headed : {o : Outcome RuleAt} → length s ≤ package_limit → p < length s → o ≡ headed s p
      → (o then (λ r. in_package r.start (examine_rule (rule_in s r)) then (λ c. gives (some r)))) ≡ read_rule s p
  unfolding read_rule
  read-headed short h e =
      rw (le-ltb package_limit (length s) short, lt-ltb p (length s) h)
      (ap (λ (o : Outcome RuleAt). o then (λ r. in_package r.start (examine_rule (rule_in s r)) then (λ c. gives (some r)))) e)

  pub headed-whole : (r : RuleAt) → headed s p ≡ gives r → length s ≤ package_limit → Whole s r
  headed-whole r e short =
      let h = headed-gives s p r e in
      record { flags = h.flags; expression = h.next; inside = h.fits; limit = short }

pub rule-examined : (s : List ℕ) (r : RuleAt) {o : Outcome ℕ} → Whole s r
    → o ≡ examine r.flags (word_table r.flags r.table) (part s r.start (r.next - r.start)) → o ≡ examine_rule (rule_in s r)
unfolding examine_rule rule_in
rule-examined s r w e =
    let size : r.next - r.start ≡ r.length = omega (arith, w.expression) in
    e ∙ ap (λ (k : ℕ). examine r.flags (word_table r.flags r.table) (part s r.start k)) size

module _ {T : Type 0} (P : Type 0) (Q : T → Type 0) where
  pub missing : (o : Option T) {k e : Refusal} → MatchOption o P Q → Err e ≡ ok_or o k → P × (e ≡ k)
  missing None h e = (h, cc)
  missing (Some x) h e = absurd (cc)

  pub present : (o : Option T) (k : Refusal) {x : T} → MatchOption o P Q → Ok x ≡ ok_or o k → Q x
  present None k h e = absurd (cc)
  present (Some y) k {x = x} h e = let is : x ≡ y = cc in rw is h

pub mapped : {A B : Type 0} (f : A → B) (h : Outcome B → Outcome B) {P : Refusal → Refusal → Type 0} (q m : Result A Refusal)
    → MatchResult q (λ x. m ≡ Ok x) (λ e. IsErrAnd m (P e)) → ((b : B) → gives b ≡ h (gives b))
    → ((e d : Refusal) → P e d → refuses (number d.reason) d.place ≡ h (refuses (number e.reason) e.place)) → outcome_of f m ≡ h (outcome_of f q)
mapped f h (Ok x) m c g r = rw c (g (f x))
mapped f h (Err e) (Ok x) c g r = absurd c
mapped f h (Err e) (Err d) c g r = r e d c
