-- A turn's head and its call are one more item. Where a turn finds no whole head, or the turns are over, the count ends.
use Rattle.std.proofs.Common.{rules, refl, of_calls, inl, inr}
use Rattle.replay.specs.Items.{Compared, Ends, none, more}
use Rattle.replay.proofs.items.compared.Goals as goal
use Rattle.replay.proofs.items.compared.Goals.{else-loop-test, then-loop-test+in_ok-fills+then-not-branch}

pub loop-init : goal.loop-init
loop-init g c = rw c.default-tally.ensures (search rules, none, refl)

pub loop-preserved : goal.loop-preserved
loop-preserved g c =
    let item : Compared g.R.Read.remaining g.F.FnMut g.row.HEAD c.loop.file c.loop.is_same c.in_ok-is_same.field-0 c.is_same.new.arg2
    c.is_same.new.self = record {
      head = _;
      whole = search rules;
      behind = c.fills.new.file;
      read = search rules;
      answered = record { shown = _; shows = refl; left = _; called = c.in_ok-is_same.ensures; leaves = refl };
    } in
    rw c.count.ensures (search of_calls, more _ _ _ _ _ _ c.loop.invariant.1 item, search rules)

pub returns : goal.returns
returns g c =
    let ends : Ends g.R.Read.remaining g.F.FnMut g.row.HEAD c.loop.tally c.loop.file = elim c.loop-test.branch [
      | else-loop-test w ↦ inl (search rules)
      | then-loop-test+in_ok-fills+then-not-branch w ↦ inr (search rules)
    ] in
    record { counted = (c.loop.file, c.loop.is_same, c.loop.invariant.1, ends) }
