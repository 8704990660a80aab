-- `form::Form::monomials` meets its contract: the word without its lowest bit.
use Rattle.form.proofs.WordOperations.{monomials-word}
use Rattle.form.proofs.Form.monomials.Goals as goal

pub returns : goal.returns
returns c = monomials-word c.args.self.word
