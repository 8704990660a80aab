-- `expr::constant` meets its contract: at each `return` the tests that led there say which case of `constant_at` holds.
use Prim.Native.Nat.{◌+◌, ◌<◌, ◌≤◌}
use native.Mathlib.Omega.{arith}
use lib.ListN.{length, get_or}
use borrow.Author.Tests.{lt-ltb, le-ltb, le-leb, lt-leb}
use Rattle.rules.specs.Record.{loaded}
use Rattle.expr.specs.Inner.{constant_at}
use Rattle.expr.proofs.constant.Goals as goal

pub returns-then-left-lt3 : goal.returns-then-left-lt3
unfolding constant_at loaded
returns-then-left-lt3 c =
    let a = c.args in
    let h : length a.bytes.now < a.place + 3 = omega arith in
    rw (c.at.ensures, lt-ltb _ _ h)

pub returns-in-0-to-1 : goal.returns-in-0-to-1
unfolding constant_at loaded
returns-in-0-to-1 c =
    let a = c.args in
    let h : a.place + 3 ≤ length a.bytes.now = omega arith in
    let f : get_or a.bytes.now (a.place + 2) 0 ≤ 1 = omega arith in
    rw (le-ltb _ _ h, le-leb _ _ f)

pub returns-in_default : goal.returns-in_default
unfolding constant_at loaded
returns-in_default c =
    let a = c.args in
    let h : a.place + 3 ≤ length a.bytes.now = omega arith in
    rw (c.at-in_default.ensures, le-ltb _ _ h, lt-leb _ _ c.in_default.if-payload-lt2-own.false)
