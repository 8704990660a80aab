-- `search::better_family` meets its contract, by the cases of its tests.
use mathlib.Core.Path.{sym}
use native.Mathlib.Omega.{arith}
use Rattle.search.proofs.Chosen.{chosen-stays, chosen-fewer, chosen-takes}
use Rattle.search.proofs.Partial.{partial-few, partial-missing, partial-whole, partial-true}
use Rattle.search.proofs.better_family.Goals as goal

pub returns-then-ones-lt2 : goal.returns-then-ones-lt2
returns-then-ones-lt2 c = sym (chosen-stays _ _ _ (partial-few _ c.args.mask.mask.bits (rw (← c.from.ensures) (omega arith))))

pub returns-then-ones-flags_of : goal.returns-then-ones-flags_of
returns-then-ones-flags_of c = sym (chosen-fewer _ _ _ (rw (← c.from.ensures) (omega arith)))

pub returns-then-monomials-subsets : goal.returns-then-monomials-subsets
returns-then-monomials-subsets c =
    let m = c.args.mask.mask in
    sym (chosen-stays _ _ _ (partial-missing _ _ _ (omega arith) c.requires m.within c.subsets-subsets.ensures c.if-monomials-subsets.true))

pub returns-then-monomials-subsets-2 : goal.returns-then-monomials-subsets-2
returns-then-monomials-subsets-2 c =
    let m = c.args.mask.mask in
    sym (chosen-stays _ _ _ (partial-whole _ _ _ (omega arith) c.requires m.within c.subsets-subsets.ensures c.if-monomials-subsets-2.true))

pub returns : goal.returns
returns c =
    let m = c.args.mask.mask in
    sym (chosen-takes _ _ _
    (partial-true _ _ _ (omega arith) c.requires m.within c.subsets-subsets.ensures (rw (← c.from.ensures) (omega arith)) c.if-monomials-subsets.false
    c.if-monomials-subsets-2.false)
    (rw (← c.from.ensures) (omega arith)))
