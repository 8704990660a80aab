-- `reader::start` meets its contract, by its test.
use native.Mathlib.Omega.{arith}
use borrow.Author.Tests.{lt-ltb, le-ltb}
use Rattle.reader.specs.Inner.{start_at}
use Rattle.reader.proofs.start.Goals as goal

pub overflow_cast-result : goal.overflow_cast-result
overflow_cast-result c = omega (arith, c.type_inv.starts c.args.i)

pub returns-then-i-depth : goal.returns-then-i-depth
unfolding start_at
returns-then-i-depth c = rw (lt-ltb _ _ c.if-i-depth.true, start_at)

pub returns : goal.returns
unfolding start_at
returns c = rw (le-ltb _ _ c.if-i-depth.false, start_at)
