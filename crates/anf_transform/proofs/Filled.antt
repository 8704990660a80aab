-- What a call tells that fills a buffer's front, and what it leaves there, once its first rows are passed: row 5, or the result. It rests on that row
-- (laws, Checked) and on outcomes that leave a buffer (laws, Outcome).
--   told-short      == the buffer is too short for what is due
--   told-filled     == what is due stands at its front
use Rattle.std.specs.Prelude.{◌≡◌, List, ℕ, ◌≤◌, ◌<◌, length}
use Rattle.std.proofs.Common.{◌∙◌, ap, arith}
use Rattle.std.proofs.lemmas.List.Edits.{sets}
use Rattle.rules.specs.Calls.{fill}
use Rattle.rules.specs.Limits.{short_output}
use Rattle.rules.specs.Outcome.{Outcome, gives, refuses, front, left}
use Rattle.laws.proofs.calls.Checked.{room-short, room-enough}
use Rattle.laws.proofs.calls.Outcome.{left-refuses, left-gives}

module _ (out due : List ℕ) {call : Outcome (List ℕ)} {count : ℕ} (passed : call ≡ fill (length out) due) (size : length due ≡ count) where
  pub told-short : length out < count → (refuses short_output count ≡ call) × (out ≡ left out call)
  unfolding fill
  told-short h =
      left-refuses out call short_output count
      (passed ∙ room-short (length out) due (gives due) (omega (arith, size)) ∙ ap (refuses short_output) size)

  pub told-filled : (after : List ℕ) → count ≤ length out → after ≡ sets out 0 due → (gives (front count after) ≡ call) × (after ≡ left out call)
  unfolding fill
  told-filled after h w =
      left-gives out after due call count (passed ∙ room-enough (length out) due (gives due) (omega (arith, size))) size h w
