-- `anf_form::mask_order::sum_terms` meets its contract. The loop's invariant: the sum and the bulk of the masks that are left make the bulk of all,
-- and the sum is at most 128 for each mask passed.
use Rattle.std.proofs.Common.{◌≡◌, ◌+◌, ◌*◌, ◌≤◌, length, map}
use Rattle.bits.specs.Word.{places}
use Rattle.laws.proofs.cost.Cost.{bulk}
use Rattle.anf_form.proofs.mask_order.sum_terms.Given as goal

abbrev pub invariant-loop-mask : goal.invariant-loop-mask
invariant-loop-mask l =
    (goal.iterator-loop-mask).can_next l.mask-iterator × (goal.iterator-loop-mask).is_finite l.mask-iterator
    × (l.sum + bulk (map (λ m. l.base + m) (places 64 l.mask-iterator.left)) ≡ bulk (map (λ m. l.base + m) (places 64 l.fn.word)))
    × (l.sum + 128 * length (places 64 l.mask-iterator.left) ≤ 128 * length (places 64 l.fn.word))
