-- Rules written one behind another: what the writer gives for them is their bytes end to end, exactly where each is sound. It rests on what the
-- writer asks of one rule (Sound).
--   writes-sound, sound-writes     == it gives the bytes of sound rules, and gives them for all sound rules
use mathlib.Core.List.{List, [], ◌∷◌, ◌++◌}
use mathlib.Core.Path.{◌≡◌, refl, ap₂, ◌∙◌}
use Prim.Native.Nat.{ℕ}
use native.Mathlib.Omega.{arith}
use lib.ListN.{length}
use Rattle.bits.proofs.Every.{Every}
use Rattle.rule_package.specs.Calls.{Writes}
use Rattle.rule_package.specs.Rule.{Rule, Held, rule_bytes, package_bytes}
use Rattle.rule_package.proofs.Sound.{Sound, sound-write, write-sound}

pub writes-sound : (rs : List Rule) (s : List ℕ) → Every Held rs → Writes rs s → Every Sound rs × (s ≡ package_bytes rs)
unfolding package_bytes
writes-sound [] s h w = (tt, w)
writes-sound (r ∷ rs) s h w =
    let x = write-sound r w.0 w.1 h.0 w.3 in
    let y = writes-sound rs w.2 h.1 w.5 in
    ((x.0, y.0), w.4 ∙ ap₂ {C = List ℕ} ◌++◌ x.1 y.1)

pub sound-writes : (rs : List Rule) → Every Sound rs → Writes rs (package_bytes rs)
unfolding package_bytes
sound-writes [] h = refl
sound-writes (r ∷ rs) h =
    let room : ℕ = length (rule_bytes r) in
    (room, rule_bytes r, package_bytes rs, sound-write r room h.0 (omega arith), refl, sound-writes rs h.1)
