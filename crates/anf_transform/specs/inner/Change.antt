-- Words changed in place, for the contracts of the transform's loops.
--   Changed a b g ws vs   == vs are the words ws but at the places from a up to b, where they are what g says
use Rattle.std.specs.Prelude.{List, ◌≡◌, ℕ, ◌≤◌, ◌<◌, length, get_or}

pub record Changed (a b : ℕ) (g : ℕ → ℕ) (ws vs : List ℕ) : Type 0 where
  pub same : length vs ≡ length ws
  pub before : (i : ℕ) → i < a → get_or vs i 0 ≡ get_or ws i 0
  pub here : (i : ℕ) → a ≤ i → i < b → get_or vs i 0 ≡ g i
  pub after : (i : ℕ) → b ≤ i → get_or vs i 0 ≡ get_or ws i 0
