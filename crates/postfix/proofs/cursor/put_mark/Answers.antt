-- `postfix::cursor::put_mark` meets its contract: two stores, at the cursor's place and the next, are the run of its two bytes.
use mathlib.Core.Path.{refl}
use native.Mathlib.Numerals.{add-one}
use native.Mathlib.Omega.{arith}
use lib.ListN.{length-set}
use Rattle.postfix.proofs.cursor.put_mark.Goals as goal

pub bounds-out-place-2 : goal.bounds-out-place-2
bounds-out-place-2 c = simp length-set (omega arith)

pub returns : goal.returns
returns c = record { stored = record { place = refl; within = omega arith; entries = rw (add-one c.args.at.place) }; records = refl }
