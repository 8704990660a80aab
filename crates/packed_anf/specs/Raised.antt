-- The words in which one coefficient more is 1.
--   Raised ws m vs   == vs are as many words as ws, with coefficient m made 1 and every other as it was
use Rattle.std.specs.Prelude.{◌||◌, List, ◌≡◌, ℕ, eqb, length}
use Rattle.rules.specs.Coefficient.{packed}

pub record Raised (ws : List ℕ) (m : ℕ) (vs : List ℕ) : Type 0 where
  pub count : length vs ≡ length ws
  pub coefficients : (k : ℕ) → packed vs k ≡ (eqb k m || packed ws k)
