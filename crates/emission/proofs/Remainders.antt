-- A tree with a remainder: where some masks are left, it is in XO with what is made of them. No proof of a function needs it today. It rests on the
-- definition of `with_rest`.
--   rest_some   == some masks are left
use mathlib.Core.List.{List, [], ◌∷◌}
use mathlib.Core.Path.{◌≡◌, refl}
use Prim.Native.Nat.{ℕ}
use lib.ListN.{length}
use Rattle.rules.specs.Cleanup.{with_rest}
use Rattle.rules.specs.Tree.{Tree, XO}

pub rest_some : (g : List ℕ → Tree) (t : Tree) (k : List ℕ) → (length k ≡ 0 → ⊥) → XO t (g k) ≡ with_rest g t k
unfolding with_rest
rest_some g t [] n = absurd (n refl)
rest_some g t (m ∷ k) n = refl
