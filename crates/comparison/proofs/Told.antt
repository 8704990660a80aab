-- An answer in numbers is the outcome on paper in numbers, where its result's numbers are those on paper.
--   told                   == an answer r, which is o on paper
--   told-of                == an answer r, mapped to m, whose result is what P says of r's
--   numbers_of-injective   == equal numbers come from equal outcomes, where a result is told from its numbers
--   answer_of-injective    == and from equal answers
use Rattle.std.specs.Prelude.{◌≡◌, ℕ, List, get_or, Result, Ok, Err, MatchResult, IsOkAnd, refl}
use mathlib.Core.Path.{ap, ◌∙◌}
use Rattle.bits.proofs.Injective.{told-apart}
use Rattle.rules.specs.Outcome as paper
use Rattle.rules.specs.Outcome.{gives, refuses}
use Rattle.rules.specs.Refusal.{outcome_of}
use Rattle.rules.proofs.Injective.{outcome_of-injective}
use Rattle.rules.specs.declared.refusal.Refusal.{Refusal}
use Rattle.comparison.specs.Outcome.{numbers_of, answer_of}
use Rattle.comparison.specs.declared.outcome.Outcome.{Outcome}
use Rattle.comparison.specs.declared.outcome.Outcome.TheVariants.{Results, Refused, Damaged}

module _ {A B : Type 0} (f : B → List ℕ) (h : A → B) (r : Result A Refusal) {o : paper.Outcome B} {x : Outcome} (q : outcome_of h r ≡ o) where
  pub told : {g : A → List ℕ} → x ≡ answer_of g r → ((a : A) → g a ≡ f (h a)) → x ≡ numbers_of f o
  told {g} e each = e ∙ go r ∙ ap (numbers_of f) q
    where
      go : (r : Result A Refusal) → answer_of g r ≡ numbers_of f (outcome_of h r)
      go (Ok a) = ap Results (each a)
      go (Err e) = refl

  module _ {C : Type 0} {P : A → C → Type 0} {g : C → List ℕ} (m : Result C Refusal) where
    pub told-of : x ≡ answer_of g m → MatchResult r (λ a. IsOkAnd m (P a)) (λ e. m ≡ Err e)
        → ((a : A) (t : C) → P a t → g t ≡ f (h a)) → x ≡ numbers_of f o
    told-of e p each = e ∙ go r m p ∙ ap (numbers_of f) q
      where
        go : (r : Result A Refusal) (m : Result C Refusal) → MatchResult r (λ a. IsOkAnd m (P a)) (λ e. m ≡ Err e)
            → answer_of g m ≡ numbers_of f (outcome_of h r)
        go (Ok a) (Ok t) p = ap Results (each a t p)
        go (Ok a) (Err e) p = absurd p
        go (Err e) m p = ap (answer_of g) p

module _ {O : Type 0} (f : O → List ℕ) (back : List ℕ → O) (e : (o : O) → back (f o) ≡ o) where
  outcome : Outcome → paper.Outcome O
  outcome (Results l) = gives (back l)
  outcome (Refused k l) = refuses k (get_or l 0 0)
  outcome Damaged = refuses 0 0

  outcome-of : (o : paper.Outcome O) → outcome (numbers_of f o) ≡ o
  unfolding outcome
  outcome-of (gives o) = ap gives (e o)
  outcome-of (refuses k p) = refl

  pub numbers_of-injective : (o q : paper.Outcome O) → numbers_of f o ≡ numbers_of f q → o ≡ q
  numbers_of-injective = told-apart (numbers_of f) outcome outcome-of

pub answer_of-injective : {A : Type 0} (f : A → List ℕ) (back : List ℕ → A) → ((a : A) → back (f a) ≡ a) → (r q : Result A Refusal)
    → answer_of f r ≡ answer_of f q → r ≡ q
answer_of-injective f back e r q h =
    outcome_of-injective (λ a. a) (λ a. a) (λ a. refl) r q (numbers_of-injective f back e (outcome_of (λ a. a) r) (outcome_of (λ a. a) q) h)
