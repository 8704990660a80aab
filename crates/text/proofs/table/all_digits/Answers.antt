-- `text::table::all_digits` meets its contract: what the library's `all` answers of the test.
use Rattle.std.proofs.Common.{rules, tests, ◌∙◌}
use Rattle.std.proofs.lemmas.Iterator.{YieldsList-from_slice}
use Rattle.std.proofs.lemmas.Iterator.Search.{all_from_yields_List}
use Rattle.text.specs.TableDigits.{is_digit}
use Rattle.text.proofs.TableDigits.{all-listed}
use Rattle.text.proofs.table.all_digits.Goals as goal

pub returns : goal.returns
returns c =
    all_from_yields_List is_digit _ _ _ c.all.ensures.ran (YieldsList-from_slice c.args.bytes.now cc) (λ x b q k. search (rules, tests))
    ∙ all-listed is_digit c.args.bytes.now
