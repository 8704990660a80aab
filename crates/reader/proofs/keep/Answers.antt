-- `reader::keep` meets its contract: a record with no operand is stored, and of any other what is to be stored is there already.
use mathlib.Core.Path.{sym, ap, ◌∙◌}
use Prim.Native.Nat.{ℕ}
use native.Mathlib.Omega.{arith}
use lib.ListN.{set, get_or}
use lib.Seq.{set-get_or}
use Rattle.expr.specs.Answers.{kind_of}
use Rattle.reader.proofs.Stack.{begun-none, begun-some}
use Rattle.reader.proofs.keep.Goals as goal

pub returns-then-arity-eq0 : goal.returns-then-arity-eq0
returns-then-arity-eq0 c =
    let a = c.args in
    let none = begun-none (kind_of a.kind) a.place (get_or a.starts.now a.base 0) (sym c.arity.ensures ∙ c.if-arity-eq0.true) in
    ap (set a.starts.now a.base) (sym none)

pub returns-else-arity-eq0 : goal.returns-else-arity-eq0
returns-else-arity-eq0 c =
    let a = c.args in
    let x : ℕ = get_or a.starts.now a.base 0 in
    let same = begun-some (kind_of a.kind) a.place x (omega (arith, c.arity.ensures)) in
    sym (ap (set a.starts.now a.base) same ∙ set-get_or a.starts.now a.base 0)
