-- `examination_text::verdict::push_flag_names` meets its contract. The loop's invariant: whatever writes the flags that are left has written all.
use Rattle.std.proofs.Common.{ℕ}
use Rattle.arrayvec.specs.ArrayVec.{ArrayVec}
use Rattle.bits.specs.Word.{places}
use Rattle.text.specs.Page.{page_bytes, Written}
use Rattle.examination_text.specs.Verdict.{named, flag_names}
use Rattle.examination_text.proofs.verdict.push_flag_names.Given as goal

abbrev pub invariant-loop-flag : goal.invariant-loop-flag
invariant-loop-flag l =
    (goal.iterator-loop-flag).can_next l.flag-iterator × (goal.iterator-loop-flag).is_finite l.flag-iterator
    × ((new : ArrayVec ℕ) → Written page_bytes (named (places 64 l.flag-iterator.left)) l.page new
    → Written page_bytes (flag_names (places 64 l.fn.flags.left)) l.initial.page new)
