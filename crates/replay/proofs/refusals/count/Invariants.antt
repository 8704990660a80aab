-- `replay::refusals::count` meets its contract. The invariant: the cases so far came to the tally.
use Rattle.std.proofs.Common.{take}
use Rattle.replay.specs.Refusals.{Counted}
use Rattle.replay.proofs.refusals.count.Given as goal

abbrev pub invariant-loop-flags : goal.invariant-loop-flags
invariant-loop-flags g l = Counted g.F.Fn l.is_refused l.wrong l.initial.tally (take l.flags-index l.cases) l.tally
