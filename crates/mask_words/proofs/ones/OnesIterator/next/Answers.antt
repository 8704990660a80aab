-- `Ones::next` gives the lowest place of a word's ones, and leaves the others: the place is the number of zeros below, and the word less 1 has the
-- same ones above it.
use mathlib.Core.Path.{ap, ◌∙◌}
use native.Mathlib.Omega.{arith}
use lib.ListN.{length}
use Rattle.bits.specs.Word.{places}
use Rattle.bits.proofs.Places.{places-zero}
use Rattle.bits.proofs.Word.{places-lowest}
use Rattle.mask_words.proofs.ones.OnesIterator.next.Goals as goal

pub returns-then-self-eq0-clause-steps : goal.returns-then-self-eq0-clause-steps
returns-then-self-eq0-clause-steps c =
    let none = ap (places 64) c.if-self-eq0.true ∙ places-zero 64 in (none, none)

pub returns-clause-steps : goal.returns-clause-steps
returns-clause-steps c = places-lowest 64 c.args.self.now.left (omega arith) (omega arith)

pub returns-clause-goes : goal.returns-clause-goes
returns-clause-goes c =
    let lowest = ap length (places-lowest 64 c.args.self.now.left (omega arith) (omega arith)) in
    record { on = λ _. (tt, tt, omega (arith, lowest)); keeps = tt; rests = λ _. tt }
