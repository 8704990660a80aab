-- `emission::end_product`: the form that is left has fewer literals (anf_cleanup, Candidates).
use Rattle.form.specs.Masks.{masks}
use Rattle.anf_cleanup.proofs.Candidates.{cube-fewer}
use Rattle.emission.proofs.Parts.{left-of}
use Rattle.emission.proofs.end_product.Goals as goal

pub returns-clause-after : goal.returns-clause-after
returns-clause-after g c =
    let m = c.args.cube in
    let fewer = cube-fewer (masks c.args.form) m.mask.bits c.requires.allowed m.some _ c.uncovered.ensures in
    left-of _ _ _ _ c.of.ensures c.uncovered.ensures c.requires.parts fewer
