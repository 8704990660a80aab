-- `examination_text::verdict::set_flags` meets its contract: the low digits have the flags' places (bits, Chosen).
use Rattle.std.proofs.Common.{◌≡◌, ap, ◌∙◌, arith, ◌*◌, ◌%◌, ◌^◌}
use Prim.Native.Nat.{ℕ}
use lib.Pow.{shl_exact}
use Rattle.mask_words.specs.declared.Ones.{Ones}
use Rattle.bits.specs.Word.{places}
use Rattle.bits.proofs.Chosen.{places-mod}
use Rattle.examination_text.proofs.verdict.set_flags.Goals as goal

pub returns : goal.returns
returns c =
    let n = c.args.flags.count in
    let w = c.args.setting in
    let low : 1 * 2 ^ n % 2 ^ 64 ≡ 2 ^ n = omega (arith, shl_exact {a = 1} 1 n 64 (omega arith) (omega (arith, c.args.flags.within))) in
    ap (λ (o : Ones). places 64 o.left) c.of.ensures ∙ ap (λ (k : ℕ). places 64 (w % k)) low ∙ places-mod w n 64 (omega (arith, c.args.flags.within))
