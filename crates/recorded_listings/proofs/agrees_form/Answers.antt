-- `recorded_listings::agrees_form` meets its contract: the words that are lent are those on paper.
use mathlib.Core.List.{List}
use mathlib.Core.Path.{refl, ap, ◌∙◌}
use Prim.Native.Nat.{ℕ}
use borrow.Author.Rules.{rules}
use Rattle.recorded_listings.specs.Listings.{form_agrees}
use Rattle.recorded_listings.proofs.Form.{words-set}
use Rattle.recorded_listings.proofs.agrees_form.Goals as goal

pub returns : goal.returns
returns c =
    let a = c.args in
    c.agrees.ensures
    ∙ ap (λ (w : List ℕ). form_agrees a.flags w a.head.now a.masks.now a.asked.flags a.asked.lacking)
    (words-set a.flags a.bytes.now c.words-count.ensures.0 (search rules) (search rules) refl c.set_words.ensures)
