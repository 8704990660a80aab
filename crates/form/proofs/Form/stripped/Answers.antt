-- `form::Form::stripped` meets its contract by the law of stripped words.
use native.Mathlib.Omega.{arith}
use Rattle.form.proofs.WordOperations.{stripped-word}
use Rattle.form.proofs.Form.stripped.Goals as goal

pub returns : goal.returns
returns c =
    let w = c.args.self.word in
    let k = c.args.cube in
    rw (c.from.ensures, c.supersets.ensures) (stripped-word w (omega arith) k.mask.bits k.some)
