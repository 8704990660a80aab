-- `examination_text::notation::expression` meets its contract. The loop's invariant: the parts passed are records, and the bytes of the parts that
-- are left are still to come.
use Rattle.std.proofs.Common.{◌≡◌, ◌++◌}
use Rattle.bits.specs.Range.{all}
use Rattle.examination_text.specs.Notation.{is_record, record_texts, expression}
use Rattle.examination_text.specs.inner.Parts.{parts_left}
use Rattle.examination_text.proofs.notation.expression.Given as goal

abbrev pub invariant-loop-text : goal.invariant-loop-text
invariant-loop-text l =
    (goal.iterator-loop-text).can_next l.text-iterator × (goal.iterator-loop-text).is_finite l.text-iterator
    × (all is_record (record_texts l.line) ≡ all is_record (parts_left l.text-iterator))
    × (l.bytes.items ++ expression (parts_left l.text-iterator) ≡ expression (record_texts l.line))
