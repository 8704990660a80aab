-- `form::Form::is_empty` meets its contract: a word that is 0 has no place, and no other has none.
use mathlib.Core.Path.{sym}
use native.Mathlib.Omega.{arith}
use Rattle.bits.proofs.Sets.{places-none}
use Rattle.form.proofs.Form.is_empty.Goals as goal

pub returns : goal.returns
returns c = sym (places-none 64 c.args.self.word (omega arith))
