-- `anf_form::degree::list_degree` meets its contract. The loop's invariant: the masks of that degree in the words passed are written.
use Rattle.bits.specs.Stored.{Stored}
use Rattle.mask_words.specs.inner.Degree.{of_degree}
use Rattle.anf_form.specs.Inner.{held}
use Rattle.anf_form.proofs.degree.list_degree.Given as goal

abbrev pub invariant-loop-i : goal.invariant-loop-i
invariant-loop-i l = Stored (of_degree l.degree (held l.i l.coefficients.words.now)) 0 l.count l.initial.out l.out
