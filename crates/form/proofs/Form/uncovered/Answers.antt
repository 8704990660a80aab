-- `form::Form::uncovered` meets its contract by the law of uncovered words.
use mathlib.Core.Path.{ap, ◌∙◌}
use Prim.Native.Nat.{ℕ, ◌-◌, ◌^◌}
use lib.Bits.{bit_and}
use Rattle.bits.specs.Word.{places}
use Rattle.form.proofs.WordOperations.{uncovered-word}
use Rattle.form.proofs.Form.uncovered.Goals as goal

pub returns : goal.returns
returns c =
    let w = c.args.self.word in
    ap (λ (x : ℕ). places 64 (bit_and w ((2 ^ 64 - 1) - x))) c.supersets.ensures ∙ uncovered-word w c.args.cube.bits
