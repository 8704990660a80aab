-- `anf_form::degree::list_block` meets its contract by the laws of the masks of one degree in a word (Held).
use Rattle.std.proofs.Common.{◌≡◌, ◌-◌, ◌∙◌, ℕ, ap, arith, length}
use Rattle.bits.specs.Word.{places}
use Rattle.form.specs.Masks.{masks}
use Rattle.mask_words.specs.inner.Degree.{of_degree}
use Rattle.bits.proofs.Stored.{stored-none}
use Rattle.anf_form.specs.Inner.{of_block}
use Rattle.anf_form.proofs.Held.{block_none, block-some}
use Rattle.anf_form.proofs.degree.list_block.Goals as goal

pub returns-then-degree-above : goal.returns-then-degree-above
returns-then-degree-above c = rw (block_none c.args.degree c.args.i c.args.word (omega arith)) (stored-none 0 c.args.out.now (omega arith))

pub list_degree-requires : goal.list_degree-requires
list_degree-requires c =
    let a = c.args in
    let cut : of_degree (a.degree - c.flag_count-above.result) (masks c.of_coefficients.result) ≡ of_block a.degree a.i a.word =
    ap (of_degree (a.degree - c.flag_count-above.result)) c.of_coefficients.ensures
    ∙ ap (λ (k : ℕ). of_degree (a.degree - k) (places 64 a.word)) c.flag_count-above.ensures.0 ∙ block-some a.degree a.i a.word (omega arith) in
    omega (arith, ap length cut)

pub returns : goal.returns
returns c =
    let a = c.args in
    let cut : of_degree (a.degree - c.flag_count-above.result) (masks c.of_coefficients.result) ≡ of_block a.degree a.i a.word =
    ap (of_degree (a.degree - c.flag_count-above.result)) c.of_coefficients.ensures
    ∙ ap (λ (k : ℕ). of_degree (a.degree - k) (places 64 a.word)) c.flag_count-above.ensures.0 ∙ block-some a.degree a.i a.word (omega arith) in
    rw (← cut) c.list_degree.ensures
