-- Bounds on the flags that a record and a tree name. It rests on the definitions of rules' Record and Tree.
--   flag-more, flags-more    == a larger bound holds too, of a record and of a tree
--   flags-some               == every tree has a bound
use Prim.Native.Nat.{ℕ, suc, ◌+◌, ◌≤◌}
use native.Mathlib.Nat.{le_refl}
use native.Mathlib.Omega.{arith}
use Rattle.rules.specs.Record.{Kind, Constant, Flag, And, Or, Xor, Not, FlagBelow}
use Rattle.rules.specs.Tree.{Tree, CO, VA, AN, OR, XO, NO, FlagsBelow}

pub flag-more : (n m : ℕ) → n ≤ m → (k : Kind) → FlagBelow n k → FlagBelow m k
flag-more n m h (Constant b) f = tt
flag-more n m h (Flag i) f = omega arith
flag-more n m h And f = tt
flag-more n m h Or f = tt
flag-more n m h Xor f = tt
flag-more n m h Not f = tt

pub flags-more : (n m : ℕ) → n ≤ m → (t : Tree) → FlagsBelow n t → FlagsBelow m t
flags-more n m h (CO b) f = tt
flags-more n m h (VA i) f = omega arith
flags-more n m h (AN x y) f = (flags-more n m h x f.0, flags-more n m h y f.1)
flags-more n m h (OR x y) f = (flags-more n m h x f.0, flags-more n m h y f.1)
flags-more n m h (XO x y) f = (flags-more n m h x f.0, flags-more n m h y f.1)
flags-more n m h (NO x) f = flags-more n m h x f

both : (x y : Tree) → (n : ℕ) × FlagsBelow n x → (n : ℕ) × FlagsBelow n y → (n : ℕ) × (FlagsBelow n x × FlagsBelow n y)
both x y a b = (a.0 + b.0, (flags-more a.0 (a.0 + b.0) (omega arith) x a.1, flags-more b.0 (a.0 + b.0) (omega arith) y b.1))

pub flags-some : (t : Tree) → (n : ℕ) × FlagsBelow n t
flags-some (CO b) = (0, tt)
flags-some (VA i) = (suc i, le_refl (suc i))
flags-some (AN x y) = both x y (flags-some x) (flags-some y)
flags-some (OR x y) = both x y (flags-some x) (flags-some y)
flags-some (XO x y) = both x y (flags-some x) (flags-some y)
flags-some (NO x) = flags-some x
