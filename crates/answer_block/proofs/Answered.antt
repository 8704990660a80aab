-- What a call for C has to return and to store, by its outcome. It rests on the definitions of Block and on the answers of calls (rules, Refusal).
--   answered f g      == of an answer whose result is f of it on paper, mapped to the numbers that g tells
use Rattle.std.specs.Prelude.{List, ◌≡◌, ℕ, Result, Ok, Err, MatchResult, IsOkAnd}
use mathlib.Core.Path.{ap, subst, ◌∙◌}
use Rattle.rules.specs.Outcome.{Outcome}
use Rattle.rules.specs.Refusal.{outcome_of}
use Rattle.rules.specs.declared.refusal.Refusal.{Refusal}
use Rattle.answer_block.specs.Block.{stored, Answers}

module _ {A B : Type 0} (f : A → B) (g : B → List ℕ) {P : A → List ℕ → Type 0} (block : List ℕ) (r : ℕ) (after : List ℕ) where
  told : (q : Result A Refusal) (m : Result (List ℕ) Refusal) → MatchResult q (λ x. IsOkAnd m (P x)) (λ e. m ≡ Err e)
      → ((x : A) (l : List ℕ) → P x l → l ≡ g (f x)) → Answers (λ l. l) (outcome_of (λ l. l) m) block r after
      → Answers g (outcome_of f q) block r after
  told (Ok x) (Ok l) c h a = (a.0, a.1 ∙ ap (stored block) (h x l c))
  told (Ok x) (Err e) c h a = absurd c
  told (Err e) m c h a = subst (λ (n : Result (List ℕ) Refusal). Answers (λ l. l) (outcome_of (λ l. l) n) block r after) c a

  pub answered : (q : Result A Refusal) (m : Result (List ℕ) Refusal) {o : Outcome B} → outcome_of f q ≡ o
      → MatchResult q (λ x. IsOkAnd m (P x)) (λ e. m ≡ Err e) → Answers (λ l. l) (outcome_of (λ l. l) m) block r after
      → ((x : A) (l : List ℕ) → P x l → l ≡ g (f x)) → Answers g o block r after
  answered q m e c a h = subst (λ (o : Outcome B). Answers g o block r after) e (told q m c h a)
