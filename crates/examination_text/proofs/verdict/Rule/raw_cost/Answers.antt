-- `examination_text::verdict::Rule::raw_cost` meets its contract: the table by value has the form of its entries (table, Truth).
use mathlib.Core.Path.{refl, ap, ◌∙◌}
use Rattle.rules.specs.Coefficient.{coefficient}
use Rattle.rules.specs.Form.{raw_cost}
use Rattle.rules.specs.Monomial.{form}
use Rattle.rules.specs.Table.{entry}
use Rattle.table.specs.Truth.{truth, table_of}
use Rattle.table.specs.declared.Table.{Table}
use Rattle.table.proofs.Truth.{form-entries}
use Rattle.examination_text.proofs.verdict.Rule.raw_cost.Goals as goal

pub returns : goal.returns
returns c =
    let a = c.args.self.now in
    c.raw_cost.ensures
    ∙ ap raw_cost (c.form.ensures
    ∙ ap (λ (t : Table). form t.flags.count (coefficient t.flags.count (truth t))) c.of_entries.ensures
    ∙ form-entries a.table.flags.count a.table.entries.now (table_of a.table.flags (entry a.table.entries.now)) refl)
