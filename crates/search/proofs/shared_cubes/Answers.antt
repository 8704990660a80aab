-- `search::shared_cubes` meets its contract: its turns add the six flags, one after the other (Shared), by the words of the masks that have a
-- flag (mask_words, Entries).
use mathlib.Core.Path.{◌≡◌, sym, ap, ◌∙◌, subst}
use Prim.Native.Nat.{ℕ}
use native.Mathlib.Numerals.{add-one}
use native.Mathlib.Omega.{arith}
use lib.Bits.{and_zero_r, or_zero_r}
use Rattle.bits.proofs.Sets.{without_zero}
use Rattle.mask_words.proofs.Entries.{bit-flag}
use Rattle.form.proofs.WordOperations.{monomials-same, monomials-word}
use Rattle.rules.specs.Monomial.{monomials}
use Rattle.search.specs.Inner.{Reached}
use Rattle.search.proofs.Shared.{reached-start, shared-word}
use Rattle.search.proofs.shared_cubes.Goals as goal

pub loop-flag-init : goal.loop-flag-init
loop-flag-init c =
    let w = c.args.form.word in
    let same = monomials-same w _ (omega arith) c.monomials.ensures (omega arith) in
    subst (λ (v : ℕ). Reached (without_zero 64 w) 0 v 0) (sym same) (reached-start (without_zero 64 w))

pub loop-flag-preserved : goal.loop-flag-preserved
loop-flag-preserved c =
    let having = bit-flag c.flag_words.result c.flag_words.ensures c.loop-flag.flag c.loop-flag-test.true in
    rw (add-one c.loop-flag.flag) (c.without_flag-found.ensures _ having c.loop-flag.invariant)

pub returns : goal.returns
returns c =
    let w = c.args.form.word in
    let l = c.loop-flag in
    let all : l.flag ≡ 6 = omega arith in
    let shared =
    c.monomials-2.ensures ∙ ap monomials c.of_coefficients.ensures ∙ sym (monomials-word l.found.twice)
    ∙ shared-word w l.found.once l.found.twice (omega arith)
    (subst (λ (k : ℕ). Reached (without_zero 64 w) k l.found.once l.found.twice) all l.invariant) in
    let none = and_zero_r l.found.twice in
    let same = or_zero_r c.monomials-2.result.word in
    cc
