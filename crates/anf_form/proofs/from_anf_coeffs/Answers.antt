-- `anf_form::from_anf_coeffs` meets its contract: past the rows of lent coefficients (packed_anf, Rows), what the counting and the listing of the
-- words' masks ensure is what listing tells (Listed).
use Rattle.std.proofs.Common.{◌∙◌, ap, arith, length}
use Rattle.rules.specs.Calls.{listing}
use Rattle.rules.specs.Limits.{form_flags}
use Rattle.rules.specs.Monomial.{monomials}
use Rattle.laws.proofs.form.Ordered.{length-ordered}
use Rattle.laws.proofs.transform.Packed.{word_count-pos}
use Rattle.packed_anf.proofs.Rows.{exit, past_coefficients}
use Rattle.anf_form.specs.Inner.{held}
use Rattle.anf_form.proofs.Held.{word_count-most}
use Rattle.anf_form.proofs.Listed.{placed, masks-count, told-short, told-listing}
use Rattle.anf_form.proofs.from_anf_coeffs.Goals as goal

pub returns-in_err-coefficients : goal.returns-in_err-coefficients
unfolding listing
returns-in_err-coefficients c =
    let e = past_coefficients form_flags _ _ _ _ _ c.in_err-coefficients.ensures in
    record { answer = exit _ _ _ c.from_residual.ensures.1 ∙ e; lent = ap (placed c.args.out.now) e }

pub get-constant-requires : goal.get-constant-requires
get-constant-requires c = let a = c.in_ok-coefficients.coefficients in omega (arith, a.all, word_count-pos a.flags.count)

pub mask_count-requires : goal.mask_count-requires
mask_count-requires c = let a = c.in_ok-coefficients.coefficients in omega (arith, a.all, word_count-most a.flags.count a.flags.within)

pub overflow_sub-count : goal.overflow_sub-count
overflow_sub-count c =
    let a = c.in_ok-coefficients.coefficients in
    omega (arith, masks-count a _ c.get-constant.ensures)

pub returns-then-out-count : goal.returns-then-out-count
returns-then-out-count c =
    let a = c.in_ok-coefficients.coefficients in
    let total = masks-count a _ c.get-constant.ensures in
    let both = told-short a _ c.get-constant.ensures _ _ c.args.out.now c.in_ok-coefficients.ensures _ (omega (arith, total)) c.if-out-count.true in
    rw c.at.ensures record { answer = both.0; lent = both.1 }

pub list-requires : goal.list-requires
list-requires c =
    let a = c.in_ok-coefficients.coefficients in
    let total = masks-count a _ c.get-constant.ensures in
    omega (arith, total, length-ordered (monomials (held (length a.words.now) a.words.now)))

pub returns : goal.returns
returns c =
    let a = c.in_ok-coefficients.coefficients in
    let total = masks-count a _ c.get-constant.ensures in
    let both = told-listing a _ c.get-constant.ensures _ _ c.args.out.now c.in_ok-coefficients.ensures _ (omega (arith, total)) _ (omega arith)
    c.list.ensures in
    record { answer = both.0; lent = both.1 }
