-- The answer of a search that answers 0 for none on paper, taken apart, and that of the search for a family. It rests on the definitions of
-- specs/Family.
--   positive-none, positive-some      == what `positive` makes of 0, and of a number above 0
--   none-positive, some-positive      == where it is none the number is 0, and where it is some number that is the number, above 0
--   family-positive                    == the answer of the search, by the best that it has at last
--   family_of-injective                == answers that mean the same are the same
use mathlib.Core.Option.{none, some}
use mathlib.Core.Path.{◌≡◌, refl, ap}
use Rattle.std.specs.Prelude.{Option, Some, None}
use Prim.Native.Nat.{ℕ, zero, suc, ◌<◌}
use native.Mathlib.Omega.{arith}
use Rattle.mask_words.specs.declared.mask.Monomial.{Monomial}
use Rattle.mask_words.proofs.Same.{same-monomial}
use Rattle.search.specs.Family.{positive, family_of}
use Rattle.search.specs.Inner.{best_of}

pub positive-none : (n : ℕ) → n ≡ 0 → none ≡ positive n
unfolding positive
positive-none zero e = refl
positive-none (suc n) e = absurd (omega arith)

pub positive-some : (n : ℕ) → 0 < n → some n ≡ positive n
unfolding positive
positive-some zero p = absurd (omega arith)
positive-some (suc n) p = refl

pub none-positive : (n : ℕ) → none ≡ positive n → n ≡ 0
unfolding positive
none-positive zero e = refl
none-positive (suc n) e = cc

pub some-positive : (m n : ℕ) → some m ≡ positive n → (0 < m) × (m ≡ n)
unfolding positive
some-positive m zero e = let z : ◌≡◌ {A = ℕ} 0 1 = cc in absurd (omega arith)
some-positive m (suc n) e = let same : m ≡ suc n = cc in (omega arith, same)

pub family-positive : (o : Option Monomial) → family_of o ≡ positive (best_of o)
family-positive (Some m) = positive-some m.mask.bits m.some
family-positive None = positive-none 0 refl

pub family_of-injective : (f g : Option Monomial) → family_of f ≡ family_of g → f ≡ g
family_of-injective (Some m) (Some n) e = ap Some (same-monomial m n cc)
family_of-injective (Some m) None e = cc
family_of-injective None (Some n) e = cc
family_of-injective None None e = refl
