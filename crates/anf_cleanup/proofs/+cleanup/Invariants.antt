-- The cycle of `anf_cleanup::cleanup`, `partial_or`, `common_cube`, `best_cube` and `try_cube`: every call of the cleanup is on a form of fewer total
-- literals. The measure is five times the form's total literals and a rank within one form: the cleanup asks rules 2 and 3, rule 3 asks the search,
-- and the search each mask.
-- The invariant of `best_cube`'s loop: what is found so far, and the masks left to try, give the best cube (Cubes).
use Rattle.std.proofs.Common.{◌+◌, ◌*◌}
use Rattle.bits.specs.Word.{places}
use Rattle.rules.specs.Form.{literals}
use Rattle.form.specs.Masks.{masks}
use Rattle.anf_cleanup.proofs.Cubes.{Searching}
use Rattle.anf_cleanup.proofs.+cleanup.Given as goal

abbrev pub decreases-best_cube : goal.decreases-best_cube
decreases-best_cube l = 5 * literals (masks l.form) + 2

abbrev pub decreases-cleanup : goal.decreases-cleanup
decreases-cleanup l = 5 * literals (masks l.form) + 4

abbrev pub decreases-common_cube : goal.decreases-common_cube
decreases-common_cube l = 5 * literals (masks l.form) + 3

abbrev pub decreases-partial_or : goal.decreases-partial_or
decreases-partial_or l = 5 * literals (masks l.form) + 3

abbrev pub decreases-try_cube : goal.decreases-try_cube
decreases-try_cube l = 5 * literals (masks l.form) + 1

abbrev pub invariant-best_cube-loop-cube : goal.invariant-best_cube-loop-cube
invariant-best_cube-loop-cube l =
    (goal.iterator-best_cube-loop-cube).can_next l.cube-iterator × (goal.iterator-best_cube-loop-cube).is_finite l.cube-iterator
    × Searching (masks l.form) l.best (places 64 l.cube-iterator.left)
