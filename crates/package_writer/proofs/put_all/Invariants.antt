-- `package_writer::put_all` meets its contract. The loop's invariant: the first i bytes are those of the slice.
-- The measure is what is left of the length.
use mathlib.Core.Path.{◌≡◌}
use Prim.Native.Nat.{◌-◌, ◌≤◌}
use lib.ListN.{length, take}
use Rattle.package_writer.proofs.put_all.Given as goal

abbrev pub invariant-loop-i : goal.invariant-loop-i
invariant-loop-i l = (l.i-end ≡ length l.initial.out) × (l.i ≤ l.i-end) × (length l.out ≡ length l.initial.out) ×
    (take l.i l.out ≡ take l.i l.bytes)

abbrev pub decreases-loop-i : goal.decreases-loop-i
decreases-loop-i l = l.i-end - l.i
