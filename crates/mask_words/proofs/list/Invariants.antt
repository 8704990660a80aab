-- `mask_words::list` meets its contract. The loop's invariant: what is left to write, written, gives what was to be written; and what is written and
-- what is left make the same sum.
use mathlib.Core.List.{map}
use mathlib.Core.Path.{◌≡◌}
use Prim.Native.Nat.{◌+◌}
use lib.ListN.{length}
use lib.Seq.{sets}
use Rattle.bits.specs.Word.{places}
use Rattle.mask_words.proofs.list.Given as goal

abbrev pub invariant-loop-place : goal.invariant-loop-place
invariant-loop-place l =
    (goal.iterator-loop-place).can_next l.place-iterator × (goal.iterator-loop-place).is_finite l.place-iterator
    × (length l.out ≡ length l.initial.out)
    × (l.count + length (places 64 l.place-iterator.left) ≡ length (places 64 l.word))
    × (sets l.out l.count (map (λ j. l.base + j) (places 64 l.place-iterator.left))
    ≡ sets l.initial.out 0 (map (λ j. l.base + j) (places 64 l.word)))
