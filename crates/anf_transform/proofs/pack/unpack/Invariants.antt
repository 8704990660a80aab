-- `anf_transform::pack::unpack` meets its contract. The loop's invariant: the words from i on have given way to their bits, and those below are as
-- they were.
use Rattle.std.proofs.Common.{◌≡◌, ◌^◌, min}
use Rattle.anf_transform.proofs.Unpacked.{unpacked}
use Rattle.anf_transform.proofs.pack.unpack.Given as goal

abbrev pub invariant-loop-i : goal.invariant-loop-i
invariant-loop-i l =
    (l.count ≡ min (2 ^ l.fn.flags.count) 64) × (l.out ≡ unpacked l.fn.flags.count l.initial.out l.i)
