-- `package_reader::header::read` meets its contract: 15, 16 for the header and for the expression, 1 and 17. From the laws of a header's bytes
-- (Fields), of exits by `?` (packed_anf, Rows) and of what `ok_or` makes (Checked).
use mathlib.Core.Path.{refl, ◌∙◌}
use Rattle.packed_anf.proofs.Rows.{exit}
use Rattle.package_reader.proofs.Checked.{missing, present}
use Rattle.package_reader.proofs.Fields.{unmarked, short, told, beyond, within}
use Rattle.package_reader.proofs.header.read.Goals as goal

pub returns-then-not-starts_with : goal.returns-then-not-starts_with
returns-then-not-starts_with c = rw (c.at.ensures, unmarked _ _ c.requires.0 c.starts_with.ensures.value c.if-not-starts_with.true) refl

pub returns-in_err-header : goal.returns-in_err-header
returns-in_err-header c =
    let gone = missing _ _ _ c.first_chunk.ensures.cases c.in_err-header.ensures.value in
    let row = short _ _ c.requires.0 c.starts_with.ensures.value c.if-not-starts_with.false _ _ c.first_chunk.ensures.cases
    c.in_err-header.ensures.value in
    exit _ _ _ c.from_residual.ensures.1 ∙ rw (gone.1, c.at-2.ensures, row) refl

pub returns-in_err-ok_or : goal.returns-in_err-ok_or
returns-in_err-ok_or c =
    let rows = told _ _ c.requires.0 c.starts_with.ensures.value c.if-not-starts_with.false _ _ c.first_chunk.ensures.cases
    c.in_ok-header.ensures.value c.from_le_bytes-table.ensures (c.from-length.ensures ∙ c.from_le_bytes.ensures) in
    let gone = missing _ _ _ c.get.ensures.lookup.0 c.in_err-ok_or.ensures.value in
    exit _ _ _ c.from_residual-in_err-ok_or.ensures.1 ∙ rw (gone.1, c.at-3.ensures, rows, beyond _ _ _ _ _ gone.0) refl

pub returns-in_err-flags : goal.returns-in_err-flags
returns-in_err-flags c =
    let rows = told _ _ c.requires.0 c.starts_with.ensures.value c.if-not-starts_with.false _ _ c.first_chunk.ensures.cases
    c.in_ok-header.ensures.value c.from_le_bytes-table.ensures (c.from-length.ensures ∙ c.from_le_bytes.ensures) in
    let whole = present _ _ _ _ c.get.ensures.lookup.0 c.in_ok-ok_or.ensures.value in
    exit _ _ _ c.from_residual-in_err-flags.ensures.1 ∙ rw rows (within _ _ _ _ _ whole.1 (rw c.from.ensures at c.in_err-flags.ensures))

pub returns : goal.returns
returns c =
    let rows = told _ _ c.requires.0 c.starts_with.ensures.value c.if-not-starts_with.false _ _ c.first_chunk.ensures.cases
    c.in_ok-header.ensures.value c.from_le_bytes-table.ensures (c.from-length.ensures ∙ c.from_le_bytes.ensures) in
    let whole = present _ _ _ _ c.get.ensures.lookup.0 c.in_ok-ok_or.ensures.value in
    rw rows (within _ _ _ _ _ whole.1 (rw c.from.ensures at c.in_ok-flags.ensures))
