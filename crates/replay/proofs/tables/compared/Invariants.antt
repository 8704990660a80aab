-- `replay::tables::compared` meets its contract. The invariant: the tables so far came to the tally.
use Rattle.replay.specs.Tables.{Counted}
use Rattle.replay.proofs.tables.compared.Given as goal

abbrev pub invariant-loop-flags : goal.invariant-loop-flags
invariant-loop-flags g l =
    goal.F-IsAlwaysCallable g l.is_same
    × Counted g.R.Read.remaining g.F.FnMut g.row.HEAD l.initial.file l.initial.is_same l.flags l.tally l.file l.is_same
