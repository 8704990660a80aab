-- `anf_form::degree::list` meets its contract. The loop's invariant: the monomials of lower degree are written, degree by degree (mask_words,
-- Degrees).
use Rattle.std.proofs.Common.{◌+◌, ◌≤◌, length}
use Rattle.bits.specs.Stored.{Stored}
use Rattle.rules.specs.Monomial.{monomials}
use Rattle.mask_words.proofs.Degrees.{degrees}
use Rattle.anf_form.specs.Inner.{held}
use Rattle.anf_form.proofs.degree.list.Given as goal

abbrev pub invariant-loop-degree : goal.invariant-loop-degree
invariant-loop-degree l =
    let words = l.coefficients.words.now in
    (l.degree ≤ l.coefficients.flags.count + 1) × Stored (degrees (monomials (held (length words) words)) l.degree) 0 l.count l.initial.out l.out
