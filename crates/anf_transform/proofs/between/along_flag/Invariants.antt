-- `anf_transform::between::along_flag` meets its contract. The loop's invariant: the words of the first i pairs of halves are joined, and the others
-- are as they were.
use Rattle.std.proofs.Common.{◌≡◌, ◌-◌, ◌*◌, ◌^◌}
use Rattle.anf_transform.specs.inner.Change.{Changed}
use Rattle.anf_transform.specs.inner.Flag.{joined}
use Rattle.anf_transform.proofs.between.along_flag.Given as goal

abbrev pub invariant-loop-i : goal.invariant-loop-i
invariant-loop-i l =
    (l.step ≡ 2 ^ l.j) × (l.i-end ≡ 2 ^ (l.count - 1 - l.j)) × Changed 0 (2 * 2 ^ l.j * l.i) (joined l.j l.initial.words) l.initial.words l.words
