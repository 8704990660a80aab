-- `anf_transform::pack::unpack_word` meets its contract. The loop's invariant: the first j entries are bits.
use Rattle.std.proofs.Common.{◌≡◌, ◌<◌, ℕ, get_or}
use Rattle.bits.specs.Bit.{bit, digit}
use Rattle.anf_transform.proofs.pack.unpack_word.Given as goal

abbrev pub invariant-loop-j : goal.invariant-loop-j
invariant-loop-j l = (k : ℕ) → k < l.j → get_or l.entries k 0 ≡ digit (bit l.fn.word k)
