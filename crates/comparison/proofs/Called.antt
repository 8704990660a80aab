-- What was observed of a call, compared, is the call on paper compared. It rests on the definition of `comes_to`.
--   came    == the answer in numbers and the buffer as it was left, where these are the outcome's
use Rattle.std.proofs.Common.{◌≡◌, ℕ, Bool, ◌&&◌, List, nat_eq, ap, ◌∙◌, ap₂}
use Rattle.std.specs.Cmp.Lexicographic.{pointwise}
use Rattle.bits.specs.Range.{same}
use Rattle.comparison.specs.Called.{comes_to}
use Rattle.comparison.specs.Outcome.{same_outcome}
use Rattle.comparison.specs.declared.outcome.Outcome.{Outcome}
use Rattle.comparison.proofs.Same.{pointwise-same}

module _ {O : Type 0} (numbers : O → Outcome) (after : List ℕ → O → List ℕ) where
  pub came : (o : O) (b : List ℕ) (e : Outcome) (l : List ℕ) {x : Outcome} {out : List ℕ} {r : Bool} →
      x ≡ numbers o → out ≡ after b o → r ≡ (same_outcome x e && pointwise nat_eq out l) → r ≡ comes_to numbers after o b e l
  unfolding comes_to
  came o b e l {x} {out} p q f =
      f ∙ ap₂ ◌&&◌ (ap (λ (y : Outcome). same_outcome y e) p) (pointwise-same out l ∙ ap (λ (k : List ℕ). same k l) q)
