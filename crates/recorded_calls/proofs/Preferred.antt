-- The test of the better of two recorded sizes and depths. It rests on the definition of `better` (cheaper, Better), which asks no cost.
--   preferred-said   == what the test told of the numbers in a head
use mathlib.Core.Bool.{Bool}
use mathlib.Core.List.{List}
use mathlib.Core.Path.{◌≡◌, ap, ◌∙◌}
use Prim.Native.Nat.{ℕ}
use mir.Val.{bool_byte}
use Rattle.bits.specs.Bit.{digit}
use Rattle.bits.proofs.Bit.{byte-digit}
use Rattle.rules.specs.Calls.{Costs}
use Rattle.cheaper.specs.Better.{better}
use Rattle.comparison.specs.Outcome.{results}
use Rattle.recorded.specs.Numbers.{half_at}
use Rattle.recorded_calls.specs.Answers.{preferred}

pub preferred-said : (h : List ℕ) (c b : Costs) {r : Bool} →
    b.size ≡ half_at h 0 → b.depth ≡ half_at h 4 → c.size ≡ half_at h 8 → c.depth ≡ half_at h 12 → r ≡ better c b →
    results (bool_byte r) 0 0 0 ≡ preferred h
unfolding preferred better
preferred-said h c b {r} p q u v f =
    ap (λ (k : ℕ). results k 0 0 0) (byte-digit r ∙ ap digit f) ∙ rw (p, q, u, v)
