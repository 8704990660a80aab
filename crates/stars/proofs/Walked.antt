-- Past its two rows the evaluation for 64 stars is the walk over 64 settings side by side, without the cost. It rests on the laws of rows and of
-- outcomes (laws, Checked and Outcome).
--   stars-walked     == the call is made of what the walk answers
use mathlib.Core.List.{List}
use mathlib.Core.Path.{◌≡◌, sym, ap, ◌∙◌}
use Prim.Native.Nat.{ℕ, ◌≤◌}
use lib.ListN.{length}
use Rattle.rules.specs.Calls.{evaluate_stars}
use Rattle.rules.specs.Limits.{rule_flags}
use Rattle.rules.specs.Machine.{made}
use Rattle.rules.specs.Outcome.{Outcome, gives, ◌then◌}
use Rattle.laws.proofs.calls.Checked.{stars-enough}
use Rattle.laws.proofs.calls.Outcome.{then-then}
use Rattle.lanes.specs.Lanes.{seen}
use Rattle.walk.specs.Walked.{walked}
use Rattle.walk.specs.declared.Seen.{Seen}

pub stars-walked : (n : ℕ) (ws s : List ℕ) → n ≤ rule_flags → n ≤ length ws → {o : Outcome (Seen ℕ)} → o ≡ seen n s ws
    → o then (λ v. gives v.value) ≡ evaluate_stars n ws s
unfolding walked
stars-walked n ws s few h e =
    ap (λ (o : Outcome (Seen ℕ)). o then (λ v. gives v.value)) e
    ∙ sym (stars-enough n ws s few h ∙ then-then (made n s) _ _)
