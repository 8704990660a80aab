-- The cycle of `emission::emit`, `emit_cube` and `emit_partial`: every form that a choice leaves to clean has fewer total literals, and a form that
-- is planned has a choice. The measure is three times the form's total literals and a rank within one form: a form whose choice is to be found is
-- planned, then its choice is written, and that goes by the rule's own function.
use Rattle.std.proofs.Common.{◌+◌, ◌*◌}
use Rattle.rules.specs.Form.{literals}
use Rattle.form.specs.Masks.{masks}
use Rattle.anf_cleanup.specs.Plan.{rank}
use Rattle.emission.proofs.+emit.Given as goal

abbrev pub decreases-emit : goal.decreases-emit
decreases-emit g l = 3 * literals (masks l.form) + 1 + rank l.choices.form

abbrev pub decreases-emit_cube : goal.decreases-emit_cube
decreases-emit_cube g l = 3 * literals (masks l.form)

abbrev pub decreases-emit_partial : goal.decreases-emit_partial
decreases-emit_partial g l = 3 * literals (masks l.form)
