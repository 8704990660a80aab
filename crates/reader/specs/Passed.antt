-- A walk over an expression's records, for the contracts of inner functions: where it may ask, and one record more.
--   IsReached r a          == the reader's answer at the place of the walk r goes by its stack, whose operands' first bytes are the array a
--   HasRoom r a x          == the operands of the record x are there, there is an entry for it, and its place and the number of records fit
--   passed_over r x        == the walk r and the record x more
--   started r a x          == the first bytes after it
use Rattle.std.specs.Prelude.{ℕ, ◌+◌, ◌-◌, ◌^◌, ◌≤◌, ◌<◌, List, length, get_or, set}
use Rattle.rules.specs.Machine.{Node}
use Rattle.rules.specs.Record.{operand_count}
use Rattle.reader.specs.Inner.{Reached, begun}
use Rattle.reader.specs.declared.Reader.{Reader}

abbrev pub IsReached : Reader → List ℕ → Type 0
IsReached r a = Reached r.flags.count r.bytes.now a r.depth r.place r.count

abbrev pub HasRoom : Reader → List ℕ → Node → Type 0
HasRoom r a x =
    (operand_count x.kind ≤ r.depth) × (r.depth - operand_count x.kind < length a) × (r.place < 2 ^ 16) × (r.count < 2 ^ 16)

abbrev pub passed_over : Reader → Node → Reader
passed_over r x = record {
  flags = r.flags;
  bytes = r.bytes;
  depth = r.depth - operand_count x.kind + 1;
  place = x.next;
  count = r.count + 1;
}

abbrev pub started : Reader → List ℕ → Node → List ℕ
started r a x =
    let base : ℕ = r.depth - operand_count x.kind in
    set a base (begun x.kind r.place (get_or a base 0))
