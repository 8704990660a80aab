-- `anf_transform::pack::pack_word` meets its contract: an entry's low bit is its remainder by 2 (bits, Quotient), and it is put before the others
-- (bits, WordParts).
use Rattle.std.proofs.Common.{◌≡◌, ◌*◌, ◌%◌, ◌^◌, ◌∙◌, ℕ, ap, ap₂, sym, arith, get_or}
use lib.Bits.{bit_and, bit_or}
use lib.Pow.{shl_exact}
use mir.Syntax.{w64}
use Rattle.bits.specs.Bit.{digit}
use Rattle.bits.proofs.Bit.{digit-bit}
use Rattle.bits.proofs.Quotient.{shift-mask}
use Rattle.bits.proofs.WordParts.{word_none, word_more}
use Rattle.rules.specs.Table.{entry}
use Rattle.anf_transform.proofs.pack.pack_word.Goals as goal

pub loop-j-init : goal.loop-j-init
loop-j-init c = sym (word_none (entry c.args.entries.now))

pub loop-j-preserved : goal.loop-j-preserved
loop-j-preserved c =
    let l = c.loop-j in
    let x = get_or c.args.entries.now l.j 0 in
    let r : bit_and x 1 ≡ x % 2 = (shift-mask w64 x 1).remainder in
    let d : bit_and x 1 ≡ digit (entry c.args.entries.now l.j) = omega (arith, r, digit-bit x 0) in
    let e : bit_and x 1 * 2 ^ l.j % 2 ^ 64 ≡ bit_and x 1 * 2 ^ l.j = shl_exact 1 l.j 64 (omega (arith, r)) (omega arith) in
    ap₂ bit_or l.invariant (e ∙ ap (λ (k : ℕ). k * 2 ^ l.j) d) ∙ sym (word_more (entry c.args.entries.now) l.j)
