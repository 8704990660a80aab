-- `form::Form::literals` meets its contract: its three constants are the words of the digits of a mask's count of ones (Literals).
use native.Mathlib.Omega.{arith}
use Rattle.bits.specs.Range.{from}
use Rattle.bits.specs.Sum.{sum}
use Rattle.form.proofs.Literals.{digit_word, literals-digits}
use Rattle.form.proofs.Form.literals.Goals as goal

pub returns : goal.returns
unfolding digit_word sum from
returns c = omega (arith, literals-digits c.args.self.word (omega arith))
