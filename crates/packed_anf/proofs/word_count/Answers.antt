-- `packed_anf::word_count` meets its contract, which rounds 2 ^ flags / 64 up.
use native.Mathlib.Omega.{arith}
use Rattle.rules.specs.Coefficient.{word_count}
use Rattle.packed_anf.proofs.word_count.Goals as goal

pub returns : goal.returns
unfolding word_count
returns g c = omega arith
