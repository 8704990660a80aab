-- `table::low_settings` meets its contract: the settings of six flags fill the word.
use mathlib.Core.Path.{◌≡◌, sym, ap, ◌∙◌}
use Prim.Native.Nat.{ℕ, ◌%◌, ◌^◌}
use native.Mathlib.Nat.{mod-eq_of_lt}
use native.Mathlib.Omega.{arith}
use Rattle.table.proofs.low_settings.Goals as goal

pub returns : goal.returns
returns c =
    let six : 6 ≡ c.args.flags.count = omega (arith, c.args.flags.within) in
    sym (mod-eq_of_lt c.ranges.word.fits) ∙ ap (λ (n : ℕ). c.args.word % 2 ^ (2 ^ n)) six
