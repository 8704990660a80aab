-- `answer_block::store` meets its contract. The invariant: the numbers so far are stored.
use mathlib.Core.Path.{◌≡◌}
use lib.ListN.{take}
use Rattle.answer_block.specs.Block.{stored}
use Rattle.answer_block.proofs.store.Given as goal

abbrev pub invariant-loop-place : goal.invariant-loop-place
invariant-loop-place g l = l.block ≡ stored l.initial.block (take l.place l.fn.numbers)
