-- `anf_form::mask_count` meets its contract: the ones of the words are the masks that they hold (Held).
use Rattle.std.proofs.Common.{◌≡◌, ◌∙◌, rules}
use Rattle.std.specs.Int.Count.{ones}
use Rattle.std.specs.List.{sum_by}
use Rattle.anf_form.proofs.Held.{ones-held}
use Rattle.anf_form.proofs.mask_count.Goals as goal

pub returns : goal.returns
returns c =
    let total : c.sum.result ≡ sum_by ones c.args.words.now = search rules in
    total ∙ ones-held c.args.words.now (λ i. (c.type_inv.words i).fits)
