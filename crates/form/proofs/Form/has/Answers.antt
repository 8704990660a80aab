-- `form::Form::has` meets its contract: the shifted word's lowest digit is the mask's bit (bits, Quotient).
use native.Mathlib.Omega.{arith}
use Rattle.bits.specs.Range.{mem}
use Rattle.bits.proofs.Bit.{digit-is}
use Rattle.form.specs.Masks.{masks}
use Rattle.form.proofs.WordOperations.{coefficient-word}
use Rattle.form.proofs.Form.has.Goals as goal

pub returns : goal.returns
returns c =
    let a = c.args in
    digit-is (mem a.mask.bits (masks a.self)) _ (rw c.from.ensures (coefficient-word a.self.word (omega arith) a.mask.bits))
