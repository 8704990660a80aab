-- `form::Form::pair` meets its contract: the monomials are the places of the word without its lowest bit, and these are taken lowest first.
use native.Mathlib.Nat.{lt_of_le_of_lt}
use native.Mathlib.Omega.{arith}
use lib.Count.{trailing_le}
use lib.Dec.{lit<}
use Rattle.form.proofs.Masks.{pair-bounds}
use Rattle.form.proofs.WordOperations.{pair-positive, pair-word}
use Rattle.form.proofs.Form.pair.Goals as goal

pub overflow_cast-first : goal.overflow_cast-first
overflow_cast-first c = record { fits = lt_of_le_of_lt (trailing_le 64 _) (lit< tt) }

pub overflow_sub-second : goal.overflow_sub-second
overflow_sub-second c = pair-positive c.args.self.word _ (omega arith) c.monomials-both.ensures c.requires

pub overflow_cast-second : goal.overflow_cast-second
overflow_cast-second c = record { fits = lt_of_le_of_lt (trailing_le 64 _) (lit< tt) }

pub of-requires : goal.of-requires
of-requires c =
    let pair = pair-word c.args.self.word _ (omega arith) c.monomials-both.ensures c.requires in
    omega (arith, pair-bounds c.args.self _ _ pair)

pub of-requires-2 : goal.of-requires-2
of-requires-2 c =
    let pair = pair-word c.args.self.word _ (omega arith) c.monomials-both.ensures c.requires in
    omega (arith, pair-bounds c.args.self _ _ pair)

pub returns : goal.returns
returns c = rw (c.of.ensures, c.of-2.ensures) (pair-word c.args.self.word _ (omega arith) c.monomials-both.ensures c.requires)
