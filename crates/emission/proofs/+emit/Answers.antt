-- The goal of the cycle of `emission::emit` that needs more than the check finds: a whole OR family has a flag (Whole).
use Rattle.std.proofs.Common.{Some, ap, ◌∙◌, ◌<◌, arith}
use Rattle.std.proofs.lemmas.Grind.{common_steps}
use Rattle.form.specs.Masks.{masks}
use Rattle.emission.proofs.Whole.{family-some}
use Rattle.emission.proofs.+emit.Goals as goal

pub emit-put_family-requires : goal.emit-put_family-requires
emit-put_family-requires g t c =
    let some : 0 < c.from.result =
    rw (c.from.ensures, c.singles.ensures)
    (family-some c.args.choices (masks c.args.form) c.requires.meant (c.in-Some.is ∙ ap Some c.in-Family.is)) in
    (omega arith, (some, grind (arith, common_steps)))
