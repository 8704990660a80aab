-- `anf_transform::between::join_halves` meets its contract. The loop's invariant: the words of the second half before the next one are changed, and
-- the others are as they were.
use Rattle.std.proofs.Common.{get_or}
use Rattle.std.specs.Int.Bits.{bit_xor}
use Rattle.anf_transform.specs.inner.Change.{Changed}
use Rattle.anf_transform.proofs.between.join_halves.Given as goal

abbrev pub invariant-loop-i : goal.invariant-loop-i
invariant-loop-i l = Changed 0 l.i (λ k. bit_xor (get_or l.initial.high k 0) (get_or l.low k 0)) l.initial.high l.high
