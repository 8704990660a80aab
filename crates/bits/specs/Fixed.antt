-- Recursion along a measure. `step g w` is one turn of a recursive rule at w, with g for "the rule's value at"; a turn at w may ask only for
-- arguments of a smaller measure.
--   below g w x  == g x where x measures less than w, and the default d elsewhere
--   fixed w      == the rule's value at w
-- `fixed w ≡ step (below fixed w) w` is the law `fixed-step` of proofs/Fixed.
use Rattle.std.specs.Prelude.{true, false, ℕ, zero, suc, ltb}

module _ {A B : Type 0} (μ : A → ℕ) (d : B) where
  unfoldable pub below : (A → B) → A → A → B
  below g w x = elim (ltb (μ x) (μ w)) [ true ↦ g x | false ↦ d ]

  module _ (step : (A → B) → A → B) where
    -- turns nested at most k deep
    unfoldable pub turns : ℕ → A → B
    turns zero w = step (λ x. d) w
    turns (suc k) w = step (below (turns k) w) w

    unfoldable pub fixed : A → B
    fixed w = turns (μ w) w
