-- `examination_text::notation::record_number` meets its contract. The loop's invariant: the number among the parts that are left, and those passed.
use Rattle.std.proofs.Common.{◌≡◌, ◌+◌, ◌≤◌, length}
use Rattle.examination_text.specs.Notation.{record_texts, record_of}
use Rattle.examination_text.specs.inner.Parts.{parts_left}
use Rattle.examination_text.proofs.notation.record_number.Given as goal

abbrev pub invariant-loop-text : goal.invariant-loop-text
invariant-loop-text l =
    (goal.iterator-loop-text).can_next l.text-iterator × (goal.iterator-loop-text).is_finite l.text-iterator
    × (l.number + length (parts_left l.text-iterator) ≤ length l.line + 1)
    × (l.number + record_of (parts_left l.text-iterator) l.left ≡ record_of (record_texts l.line) l.place)
