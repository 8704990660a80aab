-- A turn's head and its call are one more table, or the head is cut short and the turn counts a difference.
use Rattle.std.proofs.Common.{rules, refl, of_calls, add-one}
use Rattle.replay.specs.Tables.{Compared, Turn, compared, short, first, next}
use Rattle.replay.proofs.tables.count_tables.Goals as goal
use Rattle.replay.proofs.tables.count_tables.Goals.{then-is_whole+in_ok-is_same, else-is_whole}

pub loop-number-init : goal.loop-number-init
loop-number-init g c = (search rules, first)

pub loop-number-preserved : goal.loop-number-preserved
loop-number-preserved g c =
    let turn : goal.F-IsAlwaysCallable g c.if-is_whole.is_same
    × Turn g.R.Read.remaining g.F.FnMut g.row.HEAD c.loop-number.file c.loop-number.is_same c.args.flags c.loop-number.number
    c.if-is_whole.count c.if-is_whole.file c.if-is_whole.is_same = elim c.if-is_whole.branch [
      | then-is_whole+in_ok-is_same w ↦
          let item : Compared g.R.Read.remaining g.F.FnMut g.row.HEAD c.loop-number.file c.loop-number.is_same c.args.flags c.loop-number.number
          w.in_ok-is_same.field-0 w.is_same.new.arg2 w.is_same.new.self = record {
            head = _;
            whole = search rules;
            bits = _;
            numbered = search rules;
            shown = _;
            read = search rules;
            left = _;
            answered = w.in_ok-is_same.ensures;
            leaves = refl;
          } in
          rw (w.count-is, w.file-is, w.is_same-is) (search of_calls, compared _ _ _ item)
      | else-is_whole w ↦ rw (w.count-is, w.if-is_whole.false, w.file-is, w.is_same-is)
          (c.loop-number.invariant.0, short c.fills.new.file (search rules) (search rules))
    ] in
    rw (add-one, c.count.ensures) (turn.0, next _ _ _ _ _ _ _ c.loop-number.invariant.1 turn.1)
