-- The promise of `set` fixes the words: no others have these coefficients.
--   raised-unique    == words after a coefficient is made 1
use mathlib.Core.List.{List}
use mathlib.Core.Path.{◌≡◌, sym, ◌∙◌}
use Prim.Native.Nat.{ℕ, ◌^◌, ◌<◌}
use lib.ListN.{get_or}
use Rattle.laws.proofs.transform.Packed.{packed-injective}
use Rattle.packed_anf.specs.Raised.{Raised}

pub raised-unique : {ws : List ℕ} {m : ℕ} (us vs : List ℕ) → ((i : ℕ) → get_or us i 0 < 2 ^ 64) → ((i : ℕ) → get_or vs i 0 < 2 ^ 64)
    → Raised ws m us → Raised ws m vs → us ≡ vs
raised-unique us vs a b r q =
    packed-injective us vs (r.count ∙ sym q.count) a b (λ k. r.coefficients k ∙ sym (q.coefficients k))
