-- Equal meanings have equal answers, so the equation of the first difference fixes what it answers.
--   difference_of-injective  == answers that mean the same are the same
use mathlib.Core.Path.{◌≡◌, refl}
use Prim.Native.Nat.{ℕ}
use Rattle.std.specs.Prelude.{Option, Some, None}
use Rattle.table.specs.Truth.{difference_of}

pub difference_of-injective : (d g : Option ℕ) → difference_of d ≡ difference_of g → d ≡ g
difference_of-injective (Some s) (Some t) e = cc
difference_of-injective (Some s) None e = cc
difference_of-injective None (Some t) e = cc
difference_of-injective None None e = refl
