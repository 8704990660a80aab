-- `recorded::sizes::entries` meets its contract: 16 flags have the most settings.
use native.Mathlib.Omega.{arith}
use lib.Pow.{pow_mono, shl_exact}
use borrow.Author.Rules.{rules}
use borrow.Author.Tests.{le-leb, lt-leb}
use Rattle.rules.specs.Limits.{form_flags}
use Rattle.recorded.specs.Sizes.{entries_of}
use Rattle.recorded.proofs.sizes.entries.Goals as goal

pub returns-then-flags-gt-FORM_FLAGS : goal.returns-then-flags-gt-FORM_FLAGS
unfolding entries_of
returns-then-flags-gt-FORM_FLAGS c = (rw (lt-leb c.args.flags form_flags (omega arith), entries_of), search rules)

pub returns : goal.returns
unfolding entries_of
returns c =
    let n = c.args.flags in
    let e = shl_exact {a = 1} 1 n 64 (omega arith) (omega arith) in
    (rw (le-leb n form_flags (omega arith), entries_of) (omega (arith, e)), omega (arith, e, pow_mono {i = n} {j = form_flags} (omega arith)))
