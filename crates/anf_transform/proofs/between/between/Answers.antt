-- `anf_transform::between::between` meets its contract: words that are joined at one bit hold one flag more (AcrossWords).
use Rattle.std.proofs.Common.{◌∙◌}
use Rattle.anf_transform.proofs.AcrossWords.{holds-next}
use Rattle.anf_transform.proofs.between.between.Goals as goal

pub loop-j-preserved : goal.loop-j-preserved
loop-j-preserved c =
    let l = c.loop-j in
    let step = c.along_flag.ensures in
    (step.same ∙ l.invariant.0, λ f h. holds-next l.j f l.words c.along_flag.new.words step (l.invariant.1 f h))
