-- Tables of calls that must be refused, as a replay counts them. `called` is the closure f that makes a case's call and answers whether it comes to
-- an outcome, and w says what of each expected refusal is made wrong.
--   Case              == flag count, number that makes what the call is lent, how long that is, room, and the refusal's condition and place
--   expected w r      == the outcome that is expected where r must refuse: its number or its place with the last bit turned, or neither
--   Told f w c b      == the call of f at the case c and at what is expected of it may answer b
--   Counted f w k s l == f was called so at each case of s in order, and l counts the answers after k
use Rattle.std.specs.Prelude.{◌≡◌, ℕ, Bool, List}
use Rattle.std.specs.Fn.{Shared, FnReturns}
use Rattle.std.specs.Int.Bits.{bit_xor}
use Rattle.std.specs.List.{AllZip, fold}
use Rattle.rules.specs.Refusal.{number}
use Rattle.rules.specs.declared.refusal.Reason.{Reason}
use Rattle.rules.specs.declared.refusal.Refusal.{Refusal}
use Rattle.comparison.specs.Outcome.{refusal}
use Rattle.comparison.specs.Tally.{one_more}
use Rattle.comparison.specs.declared.outcome.Outcome.{Outcome}
use Rattle.comparison.specs.declared.tally.Tally.{Tally}
use Rattle.replay.specs.declared.refusals.Wrong.{Wrong}
use Rattle.replay.specs.declared.refusals.Wrong.TheVariants.{Nothing, Number, Place}

abbrev pub expected : Wrong → Refusal → Outcome
expected Nothing r = refusal (number r.reason) r.place
expected Number r = refusal (bit_xor (number r.reason) 1) r.place
expected Place r = refusal (number r.reason) (bit_xor r.place 1)

abbrev pub Case : Type 0
Case = ℕ × ℕ × ℕ × ℕ × Reason × ℕ

module _ {F : Type 0} (called : Shared F (ℕ × (ℕ × (ℕ × (ℕ × (Outcome × Unit {0}))))) Bool) (f : F) (w : Wrong) where
  abbrev pub Told : Case → Bool → Type 0
  Told (flags, n, size, room, reason, place) b =
      FnReturns called f (flags, (n, (size, (room, (expected w (record { reason = reason; place = place }), tt))))) b

  pub record Counted (k : Tally) (s : List Case) (l : Tally) : Type 0 where
    pub answers : List Bool
    pub told : AllZip Told s answers
    pub counted : l ≡ fold one_more k answers
