-- `package_writer::header` meets its contract: the library's bytes of a number are its bytes, low byte first (rule_package, LowFirst).
use Rattle.std.specs.Prelude.{List, [], ◌∷◌, ◌++◌, ℕ}
use mathlib.Core.Path.{ap}
use Rattle.bits.specs.LowFirst.{low_bytes}
use Rattle.rules.specs.Ascii.{ascii}
use Rattle.rule_package.proofs.LowFirst.{to-low_bytes-8}
use Rattle.package_writer.specs.Inner.{header}
use Rattle.package_writer.proofs.header.Goals as goal

pub returns : goal.returns
unfolding header ascii low_bytes
returns c =
    let a = c.args in
    rw (c.to_le_bytes.ensures, c.to_le_bytes-2.ensures) (ap (λ (l : List ℕ). ascii "RU" ++ (a.flags ∷ []) ++ low_bytes 2 a.count ++ l)
    (to-low_bytes-8 a.table))
