-- A record has at most three bytes, so there is room for each.
use Rattle.std.proofs.Common.{rules, ◌≤◌, ℕ, zero, suc, max, List, [], ◌∷◌, length, slice_index_or, arith, ap, add-one}
use Rattle.std.specs.Prelude.{IsOk}
use Rattle.replay.specs.Records.{records, record_of, plain}
use Rattle.replay.proofs.records.expand.Goals as goal

abbrev longest : List (List ℕ) → ℕ
longest [] = 0
longest (r ∷ l) = max (length r) (longest l)

at_most_longest : (l : List (List ℕ)) (d : List ℕ) (i : ℕ) → length (slice_index_or l i d) ≤ max (length d) (longest l)
at_most_longest [] d i = omega arith
at_most_longest (r ∷ l) d zero = omega arith
at_most_longest (r ∷ l) d (suc i) = omega (arith, at_most_longest l d i)

three : (c : ℕ) → length (record_of c) ≤ 3
three c = at_most_longest records (plain 63 63) c

pub loop-i-preserved : goal.loop-i-preserved
loop-i-preserved c =
    let few = three c.code_at.result in
    let fits : IsOk c.try_extend_from_slice.result =
    c.try_extend_from_slice.ensures.variant.1 (omega (arith, ap length c.record_of.ensures, few, c.requires, c.loop-i.invariant.1)) in
    rw add-one (search rules, search rules)
