-- `expr::variable` meets its contract: at each `return` the tests that led there say which case of `flag_at` holds. The payload fits a `usize`,
-- since the rule for the slice gives each byte its bound.
use Prim.Native.Nat.{◌+◌, ◌<◌, ◌≤◌}
use native.Mathlib.Omega.{arith}
use lib.ListN.{length, get_or}
use borrow.Author.Tests.{lt-ltb, le-ltb}
use Rattle.rules.specs.Record.{loaded}
use Rattle.expr.specs.Inner.{flag_at}
use Rattle.expr.proofs.variable.Goals as goal

pub returns-then-left-lt3 : goal.returns-then-left-lt3
unfolding flag_at loaded
returns-then-left-lt3 c =
    let a = c.args in
    let h : length a.bytes.now < a.place + 3 = omega arith in
    rw (c.at.ensures, lt-ltb _ _ h)

pub overflow_cast-payload : goal.overflow_cast-payload
overflow_cast-payload c = omega (arith, c.type_inv.bytes (c.args.place + 2))

pub returns-then-payload-flags : goal.returns-then-payload-flags
unfolding flag_at loaded
returns-then-payload-flags c =
    let a = c.args in
    let h : a.place + 3 ≤ length a.bytes.now = omega arith in
    let f : get_or a.bytes.now (a.place + 2) 0 < a.flags = omega arith in
    rw (le-ltb _ _ h, lt-ltb _ _ f)

pub returns : goal.returns
unfolding flag_at loaded
returns c =
    let a = c.args in
    let h : a.place + 3 ≤ length a.bytes.now = omega arith in
    rw (c.at-2.ensures, le-ltb _ _ h, le-ltb _ _ c.if-payload-flags.false)
