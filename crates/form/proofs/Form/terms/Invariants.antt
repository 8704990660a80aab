-- `form::Form::terms` meets its contract. The loop's invariant: the terms of lower degree are written, degree by degree (Levels). The measure is what
-- is left of the seven degrees.
use Prim.Native.Nat.{◌-◌, ◌≤◌}
use Rattle.bits.specs.Stored.{Stored}
use Rattle.mask_words.proofs.Degrees.{degrees}
use Rattle.form.specs.Masks.{masks}
use Rattle.form.proofs.Form.terms.Given as goal

abbrev pub invariant-loop-degree : goal.invariant-loop-degree
invariant-loop-degree l = (l.degree ≤ 7) × Stored (degrees (masks l.self) l.degree) 0 l.count l.initial.out l.out

abbrev pub decreases-loop-degree : goal.decreases-loop-degree
decreases-loop-degree l = 7 - l.degree
