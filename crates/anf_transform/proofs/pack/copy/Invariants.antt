-- `anf_transform::pack::copy` meets its contract. The loop's invariant: the first i words are those of `from`.
-- The measure is what is left of the length.
use mathlib.Core.Path.{◌≡◌}
use Prim.Native.Nat.{◌-◌, ◌≤◌}
use lib.ListN.{length, take}
use Rattle.anf_transform.proofs.pack.copy.Given as goal

abbrev pub invariant-loop-i : goal.invariant-loop-i
invariant-loop-i l = (l.i-end ≡ length l.initial.words) × (l.i ≤ l.i-end) × (length l.words ≡ length l.initial.words) ×
    (take l.i l.words ≡ take l.i l.from)

abbrev pub decreases-loop-i : goal.decreases-loop-i
decreases-loop-i l = l.i-end - l.i
