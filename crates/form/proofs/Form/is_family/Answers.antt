-- `form::Form::is_family` meets its contract: the word of the monomials is the word of the single flags' nonempty subsets.
use native.Mathlib.Omega.{arith}
use Rattle.form.proofs.WordOperations.{family-word}
use Rattle.form.proofs.Form.is_family.Goals as goal

pub returns : goal.returns
returns c = rw (c.subsets.ensures, c.singles-singles.ensures) (family-word c.args.self.word _ (omega arith) c.monomials.ensures)
