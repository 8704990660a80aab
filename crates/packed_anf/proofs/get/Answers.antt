-- `packed_anf::get` meets its contract: the shifted word's lowest digit is the coefficient's bit (bits, Quotient).
use mathlib.Core.Path.{ap₂, ◌∙◌}
use Prim.Native.Nat.{ℕ, ◌/◌, ◌%◌, ◌^◌}
use lib.Bits.{bit_and}
use lib.ListN.{get_or}
use Rattle.bits.proofs.Bit.{digit-is}
use Rattle.bits.proofs.Quotient.{shift-digit}
use Rattle.rules.specs.Coefficient.{packed}
use Rattle.packed_anf.proofs.get.Goals as goal

pub returns : goal.returns
unfolding packed
returns c =
    let ws = c.args.words.now in
    let m = c.args.m in
    digit-is (packed ws m) _
    (ap₂ (λ (j k : ℕ). bit_and (get_or ws j 0 / 2 ^ k) 1) c.word_index.ensures c.bit_index.ensures
    ∙ shift-digit (get_or ws (m / 64) 0) (m % 64))
