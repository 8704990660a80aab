-- `form::Form::count` meets its contract: the size of the monomials. A word that keeps all its bits is the same.
use mathlib.Core.Path.{◌≡◌, ◌∙◌}
use native.Mathlib.Omega.{arith}
use lib.Bits.{bit_and, and_mask}
use Rattle.form.proofs.Form.count.Goals as goal

pub returns : goal.returns
returns c =
    let w = c.monomials.result.word in
    let all : bit_and w 18446744073709551615 ≡ w = and_mask w 64 ∙ omega arith in
    cc
