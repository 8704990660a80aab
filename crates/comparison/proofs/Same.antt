-- The comparisons of the library, of two lists and of two outcomes, are those of specs/: `==` of the code is the test on paper.
--   pointwise-same    == two lists compared entry by entry
--   outcome-same      == two outcomes, by the derived `==`
--   same-said         == what that told of two outcomes that are known
use Rattle.std.proofs.Common.{◌≡◌, ℕ, Bool, ◌&&◌, List, [], ◌∷◌, refl, ap, ap₂, ◌∙◌, nat_eq}
use Rattle.std.specs.Cmp.Lexicographic.{pointwise}
use Rattle.bits.specs.Range.{same}
use Rattle.comparison.specs.Outcome.{same_outcome}
use Rattle.comparison.specs.contracts.outcome.OutcomePartialEq.TheImpl.{ghosts}
use Rattle.comparison.specs.declared.outcome.Outcome.{Outcome}
use Rattle.comparison.specs.declared.outcome.Outcome.TheVariants.{Results, Refused, Damaged}

pub pointwise-same : (l k : List ℕ) → pointwise nat_eq l k ≡ same l k
unfolding same
pointwise-same [] [] = refl
pointwise-same [] (y ∷ k) = refl
pointwise-same (x ∷ l) [] = refl
pointwise-same (x ∷ l) (y ∷ k) = ap (λ (b : Bool). nat_eq x y && b) (pointwise-same l k)

pub outcome-same : (a b : Outcome) → ghosts.eq a b ≡ same_outcome a b
unfolding same_outcome
outcome-same (Results a) (Results b) = pointwise-same a b
outcome-same (Refused k a) (Refused j b) = ap (λ (t : Bool). nat_eq k j && t) (pointwise-same a b)
outcome-same Damaged Damaged = refl
outcome-same (Results a) (Refused k b) = refl
outcome-same (Results a) Damaged = refl
outcome-same (Refused k a) (Results b) = refl
outcome-same (Refused k a) Damaged = refl
outcome-same Damaged (Results b) = refl
outcome-same Damaged (Refused k b) = refl

module _ {a b x y : Outcome} {r : Bool} where
  pub same-said : r ≡ ghosts.eq x y → x ≡ a → y ≡ b → r ≡ same_outcome a b
  same-said f p q = f ∙ outcome-same x y ∙ ap₂ same_outcome p q
