-- `form::Form::without` meets its contract by the law of words without a family.
use mathlib.Core.Path.{ap, ◌∙◌}
use Prim.Native.Nat.{ℕ, ◌-◌, ◌^◌}
use lib.Bits.{bit_and}
use Rattle.bits.specs.Word.{places}
use Rattle.form.proofs.WordOperations.{without-word}
use Rattle.form.proofs.Form.without.Goals as goal

pub returns : goal.returns
returns c =
    let w = c.args.self.word in
    ap (λ (x : ℕ). places 64 (bit_and w ((2 ^ 64 - 1) - x))) c.subsets.ensures ∙ without-word w c.args.mask.bits c.args.mask.within
