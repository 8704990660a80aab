-- `anf_transform::pack::unpack_word` meets its contract: the shifted word's lowest digit is its bit (bits, Quotient), and one entry more is one.
use Rattle.std.proofs.Common.{◌<◌, ◌≢◌, arith, length, get_or-set_other, get_or-set_same, below_more}
use Rattle.bits.specs.Bit.{bit, digit}
use Rattle.bits.proofs.Quotient.{shift-digit}
use Rattle.bits.proofs.Tabulated.{map-upto-of}
use Rattle.anf_transform.proofs.pack.unpack_word.Goals as goal

pub loop-j-preserved : goal.loop-j-preserved
loop-j-preserved c =
    let l = c.loop-j in
    below_more _ _ (λ k h. let ne : k ≢ l.j = omega arith in rw get_or-set_other (l.invariant k h))
    (let lt : l.j < length l.entries = omega arith in rw get_or-set_same (shift-digit c.args.word l.j))

pub returns : goal.returns
returns c =
    let l = c.loop-j in
    map-upto-of _ (λ k. digit (bit c.args.word k)) l.entries l.auto.entries (λ i h. l.invariant i (omega arith))
