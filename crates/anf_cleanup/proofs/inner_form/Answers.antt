-- `anf_cleanup::inner_form` meets its contract, by the laws of a candidate cube (Candidates, Saving).
use mathlib.Core.Path.{refl}
use native.Mathlib.Omega.{arith}
use Rattle.anf_cleanup.proofs.Candidates.{is_cube-fewer}
use Rattle.anf_cleanup.proofs.Saving.{candidate-of, inner-many, inner-bounds}
use Rattle.anf_cleanup.proofs.inner_form.Goals as goal

pub returns : goal.returns
returns c =
    let u = candidate-of c.args.form c.args.cube _ refl c.requires c.stripped.ensures in
    record {
      stripped = u.inner;
      many = inner-many _ _ _ u;
      fewer = is_cube-fewer _ _ u.test u.nonzero _ u.inner;
      bounds = (omega (arith, inner-bounds _ _ _ u), omega (arith, inner-bounds _ _ _ u));
    }
