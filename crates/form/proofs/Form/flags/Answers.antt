-- `form::Form::flags` meets its contract: the mask of the flags that occur (Flags).
use mathlib.Core.Path.{◌∙◌}
use Rattle.bits.specs.Bit.{bit}
use Rattle.bits.specs.Range.{any}
use Rattle.form.specs.Masks.{masks}
use Rattle.form.proofs.Flags.{flags-word}
use Rattle.form.proofs.Form.flags.Goals as goal

pub returns : goal.returns
returns c = c.chosen.ensures (λ i. any (λ m. bit m i) (masks c.args.self)) (λ i b h e. e) ∙ flags-word c.args.self.word
