-- `replay::tables::count_tables` meets its contract. The invariant: the tables so far came to the tally.
use Rattle.replay.specs.Tables.{Turns}
use Rattle.replay.proofs.tables.count_tables.Given as goal

abbrev pub invariant-loop-number : goal.invariant-loop-number
invariant-loop-number g l =
    goal.F-IsAlwaysCallable g l.is_same
    × Turns g.R.Read.remaining g.F.FnMut g.row.HEAD l.flags l.initial.file l.initial.is_same l.initial.tally l.number l.tally l.file l.is_same
