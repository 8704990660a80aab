-- `examination_text::notation::is_record` meets its contract: the length, the mark's letters and the payload's digit.
use mathlib.Core.Bool.{Bool, ◌&&◌}
use mathlib.Core.Path.{◌≡◌, sym, ap, ◌∙◌}
use native.Mathlib.Omega.{arith}
use lib.ListN.{length, length-drop}
use Rattle.std.proofs.Common.{rules, tests}
use Rattle.std.proofs.lemmas.Iterator.{YieldsList-from_slice}
use Rattle.std.proofs.lemmas.Iterator.Search.{all_from_yields_List}
use Rattle.bits.specs.Range.{all}
use Rattle.text.proofs.TableDigits.{all-listed}
use Rattle.examination_text.specs.Notation.{is_capital, is_numeral, is_record}
use Rattle.examination_text.proofs.Records.{record-short, record-long, record-parts}
use Rattle.examination_text.proofs.notation.is_record.Goals as goal
use Rattle.examination_text.proofs.notation.is_record.Goals.{After-all}

-- a record is told by its letters, as they were tested, and by its digit
spelled : (c : After-all) → is_record c.args.text.now ≡ (c.all.result && all is_numeral c.in-Some.payload.now)
spelled c =
    let p = c.in-Some.ensures.cases in
    let letters = all_from_yields_List is_capital _ _ c.all.result c.all.ensures.ran (YieldsList-from_slice c.in-Some.mark.now cc)
    (λ x b q k. search (rules, tests)) ∙ all-listed is_capital c.in-Some.mark.now in
    record-parts c.args.text.now (p.0, p.1, p.2) c.if-payload-gt1.false
    ∙ ap (λ (b : Bool). b && all is_numeral c.in-Some.payload.now) (sym letters)

pub returns-in_default : goal.returns-in_default
returns-in_default c = sym (record-short c.args.text.now c.in_default.ensures.cases)

pub returns-then-payload-gt1 : goal.returns-then-payload-gt1
returns-then-payload-gt1 c =
    let p = c.in-Some.ensures.cases in
    sym (record-long c.args.text.now (omega (arith, ap length p.2, length-drop 2 c.args.text.now)))

pub returns-then-all : goal.returns-then-all
returns-then-all c =
    let payload = c.in-Some.payload.now in
    all_from_yields_List is_numeral _ _ c.all-then-all.result c.all-then-all.ensures.ran (YieldsList-from_slice payload cc)
    (λ x b q k. search (rules, tests)) ∙ all-listed is_numeral payload
    ∙ sym (spelled (goal.at.returns-then-all c).After-all ∙ ap (λ (b : Bool). b && all is_numeral payload) c.if-all.true)

pub returns-else-all : goal.returns-else-all
returns-else-all c =
    c.if-all.false
    ∙ sym (spelled (goal.at.returns-else-all c).After-all
    ∙ ap (λ (b : Bool). b && all is_numeral c.in-Some.payload.now) c.if-all.false)
