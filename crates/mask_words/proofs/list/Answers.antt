-- `mask_words::list` meets its contract: a place of a word is below 64.
use native.Mathlib.Omega.{arith}
use Rattle.mask_words.proofs.Yielded.{yielded-lt}
use Rattle.mask_words.proofs.list.Goals as goal

pub overflow_add-out : goal.overflow_add-out
overflow_add-out c = let inside = yielded-lt _ _ _ c.in-Some.ensures.steps in omega (arith, inside)

pub overflow_cast-out : goal.overflow_cast-out
overflow_cast-out c = let inside = yielded-lt _ _ _ c.in-Some.ensures.steps in omega (arith, inside)
