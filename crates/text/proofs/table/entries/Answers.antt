-- `text::table::entries` meets its contract: each digit has its value.
use Rattle.std.proofs.Common.{arith, get_or}
use Rattle.text.specs.TableDigits.{is_digit}
use Rattle.text.proofs.TableDigits.{all-at, digit-byte}
use Rattle.text.proofs.table.entries.Goals as goal

pub overflow_sub-digit : goal.overflow_sub-digit
overflow_sub-digit g c =
    let s = c.args.digits.now in
    let i = c.loop-digit.digit-index in
    omega (arith, digit-byte (get_or s i 0) (all-at is_digit s i (omega arith) c.requires.1))
