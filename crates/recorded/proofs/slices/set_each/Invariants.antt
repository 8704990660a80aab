-- `recorded::slices::set_each` meets its contract. The loop's invariant: each entry passed is what the closure gave for its place.
use Rattle.std.proofs.Common.{ℕ, ◌<◌, slice_index_or}
use Rattle.recorded.proofs.slices.set_each.Given as goal

abbrev pub invariant-loop-i : goal.invariant-loop-i
invariant-loop-i g l = (k : ℕ) (d : _) → k < l.i → goal.F-post g l.entry k (slice_index_or l.list k d)
