-- The invariant of `postfix::Postfix::put_chain`: what is left of the flags fits, and behind what is written it is what was to be written when the
-- loop began.
use Rattle.std.specs.Prelude.{◌≡◌, ◌+◌, ◌*◌, ◌++◌, length}
use Rattle.bits.specs.Word.{places}
use Rattle.postfix.specs.Written.{Fits, linked}
use Rattle.postfix.proofs.Postfix.put_chain.Given as goal

abbrev pub invariant-loop-flag : goal.invariant-loop-flag
invariant-loop-flag g l =
    let left = places 64 l.flag-iterator.left in
    let all = places 64 l.initial.flag-iterator.left in
    record {
      room : Fits g.row.CAP (linked l.mark left) l.self;
      bytes : l.self.bytes ++ linked l.mark left ≡ l.initial.self.bytes ++ linked l.mark all;
      records : l.self.records + 2 * length left ≡ l.initial.self.records + 2 * length all;
    }
