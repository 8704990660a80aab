-- `anf_transform::pack::pack` meets its contract. The loop's invariant: the entries behind the first i words are left, and these are those of the
-- table.
use Rattle.std.proofs.Common.{◌≡◌, ◌*◌, ◌^◌, length, take, drop}
use Rattle.rules.specs.Coefficient.{word_count, words}
use Rattle.rules.specs.Table.{entry}
use Rattle.anf_transform.proofs.pack.pack.Given as goal

abbrev pub invariant-loop-i : goal.invariant-loop-i
invariant-loop-i l =
    let i = l.i-iterator.count in
    let n = l.table.flags.count in
    (l.i-iterator.iter.size ≡ 64) × (l.i-iterator.iter.rest.now ≡ drop (64 * i) (take (2 ^ n) l.table.entries.now)) ×
    (length l.out ≡ word_count n) × (take i l.out ≡ take i (words n (entry l.table.entries.now)))
