-- `walk::attempt` meets its contract. The loop's invariant: the records so far are read as the machine reads them, the stack holds the values of its
-- trees, the arrays beside it which of them are ORs and where they begin, and `saved` is what the ORs save. The measure is the number of records
-- that may still begin.
use Prim.Native.Nat.{◌-◌}
use mathlib.Core.Path.{◌≡◌}
use Rattle.rules.specs.Limits.{record_limit}
use Rattle.reader.proofs.Costed.{Costed}
use Rattle.walk.proofs.attempt.Given as goal

abbrev pub invariant-loop-node : goal.invariant-loop-node
invariant-loop-node g l =
    let r = l.reader in
    (r.flags.count ≡ g.V.Values.flag_count l.values) × (r.bytes.now ≡ l.bytes)
    × Costed (g.V.Values.value l.values) r.flags.count r.bytes.now g.row.N r.count r.place r.depth l.stack l.ors l.starts l.saved

abbrev pub decreases-loop-node : goal.decreases-loop-node
decreases-loop-node g l = record_limit - l.reader.count
