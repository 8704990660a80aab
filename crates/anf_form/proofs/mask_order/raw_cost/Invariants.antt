-- `anf_form::mask_order::raw_cost` meets its contract. The loop's invariant: the sum is the bulk of the masks in the words passed (Bulk), at most
-- 8192 a word.
use Rattle.std.proofs.Common.{◌≡◌, ◌*◌, ◌≤◌}
use Rattle.laws.proofs.cost.Cost.{bulk}
use Rattle.anf_form.specs.Inner.{held}
use Rattle.anf_form.proofs.mask_order.raw_cost.Given as goal

abbrev pub invariant-loop-i : goal.invariant-loop-i
invariant-loop-i l = (l.sum ≡ bulk (held l.i l.words)) × (l.sum ≤ 8192 * l.i)
