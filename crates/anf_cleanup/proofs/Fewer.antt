-- The masks that the search for the best cube has still to try get fewer at each turn. No proof of a function needs it today, since the loop goes
-- over the places of a word's ones.
--   search-fewer   == without the next mask fewer are left
use mathlib.Core.List.{List}
use mathlib.Core.Path.{◌≡◌, ap}
use Rattle.std.specs.Prelude.{Option}
use Prim.Native.Nat.{ℕ, ◌<◌}
use native.Mathlib.Omega.{arith}
use lib.ListN.{length, drop, length-drop}
use Rattle.anf_cleanup.specs.declared.Best.{Best}
use Rattle.anf_cleanup.proofs.Cubes.{Searching}

module _ (l : List ℕ) (b : Option Best) (k : List ℕ) (s : Searching l b k) (p : 0 < length k) where
  pub search-fewer : (q : List ℕ) → q ≡ drop 1 k → length q < length k
  search-fewer q e = omega (arith, ap length e, length-drop 1 k)
