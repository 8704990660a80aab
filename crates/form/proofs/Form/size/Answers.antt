-- `form::Form::size` meets its contract: a word has a one for each of its places, which are at most 64.
use native.Mathlib.Omega.{arith}
use lib.Count.{ones-le}
use Rattle.bits.proofs.Word.{ones-places}
use Rattle.form.proofs.Form.size.Goals as goal

pub returns : goal.returns
returns c = let w = c.args.self.word in (ones-places 64 w (omega arith), ones-le 64 w (omega arith))
