-- `replay::items::compared` meets its contract. The invariant: the items so far came to the tally, and it counts the turns.
use Rattle.std.proofs.Common.{◌≡◌}
use Rattle.replay.specs.Items.{Counted}
use Rattle.replay.proofs.items.compared.Given as goal

abbrev pub invariant-loop : goal.invariant-loop
invariant-loop g l =
    goal.F-IsAlwaysCallable g l.is_same
    × Counted g.R.Read.remaining g.F.FnMut g.row.HEAD l.initial.file l.initial.is_same l.tally l.file l.is_same
    × (l.tally.compared ≡ l.counter)
