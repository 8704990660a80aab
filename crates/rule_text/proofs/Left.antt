-- What the walk that prints an expression's records keeps: the records from its place on are left to print. It rests on the records of a tree
-- (RecordList), and on what is read at a place (expr, ReadRecord and Marks; laws, RecordAt).
--   after p ks               == the text of the records ks, of which the first begins at byte p
--   after_none, after_more   == of no record, and of one before others
--   Left                     == what the walk keeps: whatever writes that text on the page has written the whole
--   Next w r, left-next      == r is the next record; what is read over two operands is
--   left-found               == where bytes are left none is refused
--   left-start, left_step    == before the first record; one record more
--   left_end                 == where no bytes are left all is printed
use mathlib.Core.List.{List, [], ◌∷◌, ◌++◌}
use mathlib.Core.Path.{◌≡◌, refl, sym, ap, subst, ◌∙◌}
use Prim.Native.Nat.{ℕ, zero, suc, ◌+◌, ◌≤◌, ◌<◌}
use native.Mathlib.Omega.{arith}
use lib.ListN.{length, drop, length-append, length-drop}
use Rattle.bits.specs.Range.{Below}
use Rattle.bits.proofs.Every.{Every}
use Rattle.rules.specs.Ascii.{ascii}
use Rattle.rules.specs.Machine.{made, WellFormed}
use Rattle.rules.specs.Outcome.{gives, refuses}
use Rattle.rules.specs.Record.{Kind, FlagBelow, Found}
use Rattle.rules.specs.Text.{records}
use Rattle.rules.specs.Tree.{Tree}
use Rattle.laws.proofs.calls.Outcome.{gives_same, not-both}
use Rattle.laws.proofs.reading.RecordAt.{bytes_of, bytes_of-long, drop_past, record-at}
use Rattle.laws.proofs.reading.WellFormed.{made-is}
use Rattle.expr.specs.Inner.{record_over}
use Rattle.expr.proofs.Marks.{over-two}
use Rattle.expr.proofs.ReadRecord.{Read, found-read}
use Rattle.arrayvec.specs.ArrayVec.{ArrayVec}
use Rattle.text.specs.Page.{page_bytes, Written}
use Rattle.text.proofs.Shown.{written-eq, written-none, written-then}
use Rattle.rule_text.specs.inner.Parts.{gap, kind_text, shown}
use Rattle.rule_text.proofs.RecordList.{kinds, each, spaced, write-kinds, records-kinds, flags-kinds}

unfoldable pub after : ℕ → List Kind → List ℕ
after zero ks = drop 1 (each spaced ks)
after (suc p) ks = each spaced ks

pub after_none : (p : ℕ) → after p [] ≡ []
unfolding after
after_none zero = refl
after_none (suc p) = refl

pub after_more : (p : ℕ) (k : Kind) (ks : List Kind) (q : ℕ) → p < q → after p (k ∷ ks) ≡ gap p ++ kind_text k ++ after q ks
unfolding after gap ascii
after_more p k ks zero h = absurd (omega arith)
after_more zero k ks (suc q) h = refl
after_more (suc p) k ks (suc q) h = refl

pub record Left (n : ℕ) (s whole : List ℕ) (place : ℕ) (old now : ArrayVec ℕ) : Type 0 where
  pub rest : List Kind
  pub bytes : drop place s ≡ each bytes_of rest
  pub flags : Every (FlagBelow n) rest
  pub comes : (new : ArrayVec ℕ) → Written page_bytes (after place rest) now new → Written page_bytes whole old new

module _ (n : ℕ) (s : List ℕ) (old : ArrayVec ℕ) where
  start_of : (t : Tree) → Below 256 s → made n s ≡ gives t → Left n s (records t) 0 old old
  unfolding after
  start_of t small e =
      let w = made-is n s t small e in
      record {
        rest = kinds t;
        bytes = w.bytes ∙ write-kinds t;
        flags = flags-kinds n t w.flags;
        comes = λ new v. written-eq (ap (λ (l : List ℕ). drop 1 l) (sym (records-kinds t))) v;
      }

  pub left-start : WellFormed n s → Below 256 s → Left n s (shown (made n s)) 0 old old
  unfolding WellFormed
  left-start m small = subst (λ (l : List ℕ). Left n s l 0 old old) (sym (ap shown m.1)) (start_of m.0 small m.1)

module _ {n : ℕ} {s whole : List ℕ} {place : ℕ} {old now : ArrayVec ℕ} (w : Left n s whole place old now) where
  -- the next record, and the records after it
  pub record Next (r : Found) : Type 0 where
    pub read : Read n s place r
    pub others : List Kind
    pub is : w.rest ≡ r.kind ∷ others
    pub behind : r.next ≡ place + length (bytes_of r.kind)

  module _ (h : place < length s) where
    -- where bytes are left a record stands
    stands : (r : Found) × Next r
    stands = go w.rest refl w.bytes w.flags
      where
        go : (ks : List Kind) → w.rest ≡ ks → drop place s ≡ each bytes_of ks → Every (FlagBelow n) ks → (r : Found) × Next r
        go [] e b f = absurd (omega (arith, length-drop place s, ap length b))
        go (k ∷ ks) e b f =
            let r : Found = record { kind = k; next = place + length (bytes_of k) } in
            let q = record-at n s place k (each bytes_of ks) b f.0 in
            (r, record { read = found-read n s place r q; others = ks; is = e; behind = refl })

    over : record_over n s 2 place ≡ gives stands.0
    over = over-two n s place stands.0 stands.1.read.stands

    pub left-next : (r : Found) → record_over n s 2 place ≡ gives r → Next r
    left-next r e = subst Next (gives_same (sym over ∙ e)) stands.1

    pub left-found : {k p : ℕ} → ¬ (record_over n s 2 place ≡ refuses k p)
    left-found e = not-both (sym over ∙ e)

  pub left_end : length s ≤ place → Written page_bytes whole old now
  left_end h = go w.rest w.bytes w.comes
    where
      go : (ks : List Kind) → drop place s ≡ each bytes_of ks
          → ((new : ArrayVec ℕ) → Written page_bytes (after place ks) now new → Written page_bytes whole old new)
          → Written page_bytes whole old now
      go [] b e = e now (written-eq (sym (after_none place)) (written-none now))
      go (k ∷ ks) b e = absurd (omega (arith, bytes_of-long k, length-drop place s, ap length b, length-append (bytes_of k) (each bytes_of ks)))

  module _ {r : Found} (d : Next r) where
    pub left_step : {spaced next : ArrayVec ℕ} → Written page_bytes (gap place) now spaced → Written page_bytes (kind_text r.kind) spaced next
        → Left n s whole r.next old next
    left_step v u = record {
      rest = d.others;
      bytes =
          ap (λ (i : ℕ). drop i s) d.behind
          ∙ drop_past s place (bytes_of r.kind) (each bytes_of d.others) (w.bytes ∙ ap (each bytes_of) d.is);
      flags = (subst (Every (FlagBelow n)) d.is w.flags).1;
      comes = λ new x.
          w.comes new (written-eq (sym (ap (after place) d.is ∙ after_more place r.kind d.others r.next d.read.after))
          (written-then (written-then v u) x));
    }
