-- The closure of `form::Form::flags` meets its contract: whether the word shares a place with the masks that have the flag (Flags).
use native.Mathlib.Omega.{arith}
use Rattle.form.proofs.Flags.{occurs-entry}
use Rattle.form.proofs.fn.Form.flags.occurs.Goals as goal

pub returns : goal.returns
returns c = grind (arith, occurs-entry c.captures.self-word (omega arith) c.flag_words.result c.flag_words.ensures)
