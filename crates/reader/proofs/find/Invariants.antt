-- `reader::find` meets its contract. The loop's invariant is `Finding`: the records so far are read as the machine reads them, and the array holds
-- where the operands that they leave begin. The measure is what is left of the way to the place. Each way out is one law of Finding.
use Prim.Native.Nat.{◌-◌}
use mathlib.Core.Path.{◌≡◌}
use Rattle.reader.proofs.Finding.{Finding}
use Rattle.reader.proofs.find.Given as goal

abbrev pub invariant-loop-reader : goal.invariant-loop-reader
invariant-loop-reader l =
    let r = l.reader in
    (r.flags ≡ l.fn.flags) × (r.bytes.now ≡ l.bytes) × Finding r.flags.count r.bytes.now l.place l.starts r.depth r.place r.count

abbrev pub decreases-loop-reader : goal.decreases-loop-reader
decreases-loop-reader l = l.place - l.reader.place
