-- `postfix::cursor::put_leaf` meets its contract: three stores, at the cursor's place and the next two, are the run of its three bytes.
use mathlib.Core.Path.{◌≡◌, refl}
use Prim.Native.Nat.{suc, ◌+◌}
use native.Mathlib.Numerals.{add-one}
use native.Mathlib.Omega.{arith}
use lib.ListN.{length-set}
use Rattle.postfix.proofs.cursor.put_leaf.Goals as goal

pub bounds-out-start-2 : goal.bounds-out-start-2
bounds-out-start-2 c = simp length-set (omega arith)

pub bounds-out-start-3 : goal.bounds-out-start-3
bounds-out-start-3 c = simp length-set (omega arith)

pub returns : goal.returns
returns c =
    let i = c.args.at.place in
    let two : i + 2 ≡ suc (suc i) = omega arith in
    record { stored = record { place = refl; within = omega arith; entries = rw (add-one i, two) }; records = refl }
