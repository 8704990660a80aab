-- `form::Form::covered_literals` meets its contract by the law of the literals that a cube covers.
use mathlib.Core.Path.{ap, ◌∙◌}
use Prim.Native.Nat.{ℕ}
use lib.Bits.{bit_and}
use Rattle.bits.specs.Word.{places}
use Rattle.rules.specs.Form.{literals}
use Rattle.form.proofs.WordOperations.{covered-literals}
use Rattle.form.proofs.Form.covered_literals.Goals as goal

pub returns : goal.returns
returns c =
    let w = c.args.self.word in
    c.literals.ensures ∙ ap (λ (x : ℕ). literals (places 64 (bit_and w x))) c.supersets.ensures ∙ covered-literals w c.args.cube.bits
