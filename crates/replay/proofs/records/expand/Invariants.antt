-- `replay::records::expand` meets its contract. The invariant: the bytes are those of the records so far, at most three of each.
use Rattle.std.proofs.Common.{◌≡◌, ◌≤◌, ◌*◌, length}
use Rattle.replay.specs.Records.{expression}
use Rattle.replay.proofs.records.expand.Given as goal

abbrev pub invariant-loop-i : goal.invariant-loop-i
invariant-loop-i l = (l.bytes.items ≡ expression l.codes l.i) × (length l.bytes.items ≤ 3 * l.i)
