-- `recorded_packages::readings::agrees` meets its contract: what is handed in is what the head says, and the byte that was changed is put back. From
-- the laws of a recorded reading (Reading).
use mathlib.Core.Path.{refl, sym}
use lib.ListN.{length-set}
use lib.Seq.{length-take-le}
use borrow.Author.Rules.{rules}
use Rattle.recorded_packages.proofs.Reading.{agrees-past, agrees-whole, agrees-changed, put_back}
use Rattle.recorded_packages.proofs.readings.agrees.Goals as goal

pub returns-then-handed-bytes : goal.returns-then-handed-bytes
returns-then-handed-bytes c =
    record { answer = agrees-past _ _ c.half_at-handed.ensures c.if-handed-bytes.true; lent = refl }

pub slice_bounds-asked-end-then-at-bytes : goal.slice_bounds-asked-end-then-at-bytes
slice_bounds-asked-end-then-at-bytes c = sym (length-take-le _ _ (search rules))

pub returns-then-at-bytes : goal.returns-then-at-bytes
returns-then-at-bytes c =
    record {
      answer = agrees-whole _ _ c.half_at-handed.ensures c.if-handed-bytes.false c.half_at-at.ensures c.if-at-bytes.true c.asked.ensures;
      lent = refl;
    }

pub slice_bounds-asked-end-3 : goal.slice_bounds-asked-end-3
slice_bounds-asked-end-3 c = sym (length-take-le _ _ (simp length-set (search rules)))

pub returns : goal.returns
returns c =
    record {
      answer = agrees-changed _ _ c.half_at-handed.ensures c.if-handed-bytes.false c.half_at-at.ensures c.byte_at.ensures
          c.asked-is_same.ensures;
      lent = put_back _ _ _;
    }
