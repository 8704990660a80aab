-- Each flag count adds its tables.
use Rattle.std.proofs.Common.{rules, add-one, ◌^◌}
use Rattle.replay.specs.Tables.{Turns, none, more}
use Rattle.replay.proofs.tables.compared.Goals as goal

pub loop-flags-init : goal.loop-flags-init
loop-flags-init g c =
    rw c.default-tally.ensures (search rules, none)

pub loop-flags-preserved : goal.loop-flags-preserved
loop-flags-preserved g c =
    let counted : Turns g.R.Read.remaining g.F.FnMut g.row.HEAD c.loop-flags.flags c.loop-flags.file c.loop-flags.is_same c.loop-flags.tally
    (2 ^ 2 ^ c.loop-flags.flags) c.count_tables.new.tally c.count_tables.new.file c.count_tables.new.is_same =
    rw (← c.tables_of.ensures) c.in_ok-count_tables.ensures.counted in
    rw add-one (c.in_ok-count_tables.ensures.callable, more _ _ _ _ _ _ _ c.loop-flags.invariant.1 counted)
