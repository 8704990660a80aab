-- `text::table::entries` meets its contract. The loop's invariant: the entries of the digits passed are pushed.
use Rattle.std.proofs.Common.{◌≡◌, take}
use Rattle.text.specs.TableDigits.{values}
use Rattle.text.proofs.table.entries.Given as goal

abbrev pub invariant-loop-digit : goal.invariant-loop-digit
invariant-loop-digit g l = l.entries.items ≡ values (take l.digit-index l.digits)
