-- `form::Form::singles` meets its contract: the mask of the flags that stand in the form as masks of one flag (Flags).
use mathlib.Core.Path.{◌∙◌}
use Prim.Native.Nat.{◌^◌}
use native.Mathlib.Omega.{arith}
use Rattle.bits.specs.Range.{mem}
use Rattle.form.specs.Masks.{masks}
use Rattle.form.proofs.Flags.{singles-word, singles-below}
use Rattle.form.proofs.Form.singles.Goals as goal

pub of-requires : goal.of-requires
of-requires c =
    let word = c.chosen.ensures (λ i. mem (2 ^ i) (masks c.args.self)) (λ i b h e. e) ∙ singles-word c.args.self.word in
    omega (arith, word, singles-below c.args.self)

pub returns : goal.returns
returns c = c.of.ensures ∙ c.chosen.ensures (λ i. mem (2 ^ i) (masks c.args.self)) (λ i b h e. e) ∙ singles-word c.args.self.word
