-- `anf_form::raw_anf_cost` meets its contract: past the rows of lent coefficients (packed_anf, Rows) the masks of the words are those of the form
-- (Held).
use Rattle.std.proofs.Common.{◌∙◌, ℕ, sym, ap, arith}
use Rattle.rules.specs.Calls.{raw_costing}
use Rattle.rules.specs.Form.{raw_cost}
use Rattle.rules.specs.Limits.{rule_flags}
use Rattle.rules.specs.Outcome.{Outcome, gives}
use Rattle.packed_anf.proofs.Rows.{exit, past_coefficients}
use Rattle.anf_form.proofs.Held.{word_count-most, held-lent}
use Rattle.anf_form.proofs.raw_anf_cost.Goals as goal

pub returns-in_err-coefficients : goal.returns-in_err-coefficients
unfolding raw_costing
returns-in_err-coefficients c = exit _ _ _ c.from_residual.ensures.1 ∙ past_coefficients rule_flags _ _ _ _ _ c.in_err-coefficients.ensures

pub raw_cost-requires : goal.raw_cost-requires
raw_cost-requires c =
    let a = c.in_ok-coefficients.coefficients in
    omega (arith, a.all, word_count-most a.flags.count (omega arith))

pub returns : goal.returns
unfolding raw_costing
returns c =
    let a = c.in_ok-coefficients.coefficients in
    ap {B = Outcome ℕ} gives
    (c.raw_cost.ensures ∙ ap raw_cost (sym (held-lent _ _ a c.in_ok-coefficients.ensures)))
    ∙ past_coefficients rule_flags _ _ _ _ _ c.in_ok-coefficients.ensures
