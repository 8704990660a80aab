-- `emission::begin_partial`: the form that is left has fewer literals (anf_cleanup, Candidates).
use Rattle.form.specs.Masks.{masks}
use Rattle.anf_cleanup.proofs.Candidates.{family-fewer}
use Rattle.emission.proofs.Parts.{left-of}
use Rattle.emission.proofs.begin_partial.Goals as goal

pub returns-clause-after : goal.returns-clause-after
returns-clause-after g c =
    let m = c.args.family in
    let fewer = family-fewer (masks c.args.form) m.mask.bits c.requires.allowed m.some _ c.without.ensures in
    left-of _ _ _ _ c.of.ensures c.without.ensures c.requires.parts fewer
