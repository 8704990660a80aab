-- What a walk keeps that prints an expression's records into a buffer: the records from its place on are left to print, and what is printed before
-- them is stored. No proof of a function needs these laws today: the records are printed on a page (Left). They rest on the text of the records
-- (Left), on what is read at a place (expr, ReadRecord and Marks; laws, RecordAt) and on runs of stores (bits, Stored).
--   Left                     == what the walk keeps
--   Next w r, left-next      == r is the next record; what is read over two operands is
--   left-found               == where bytes are left none is refused
--   left-start, left_step    == before the first record; one record more
--   left_end                 == where no bytes are left all is stored
--   left-gap, left-kind      == there is room for the space and for the record's text
use mathlib.Core.List.{List, [], ◌∷◌, ◌++◌, append_assoc, append-nil}
use mathlib.Core.Path.{◌≡◌, refl, sym, ap, subst, ◌∙◌}
use Prim.Native.Nat.{ℕ, ◌+◌, ◌≤◌, ◌<◌}
use native.Mathlib.Omega.{arith}
use lib.ListN.{length, drop, length-append, length-drop}
use Rattle.bits.specs.Range.{Below}
use Rattle.bits.proofs.Every.{Every}
use Rattle.rules.specs.Machine.{made, WellFormed}
use Rattle.rules.specs.Outcome.{gives, refuses}
use Rattle.rules.specs.Record.{Kind, FlagBelow, Found}
use Rattle.rules.specs.Text.{records}
use Rattle.rules.specs.Tree.{Tree}
use Rattle.laws.proofs.calls.Outcome.{gives_same, not-both}
use Rattle.laws.proofs.reading.RecordAt.{bytes_of, bytes_of-long, drop_past, record-at}
use Rattle.laws.proofs.reading.WellFormed.{made-is}
use Rattle.expr.specs.Inner.{record_over}
use Rattle.expr.proofs.Marks.{over-two}
use Rattle.expr.proofs.ReadRecord.{Read, found-read}
use Rattle.bits.specs.Stored.{Room, Stored}
use Rattle.bits.proofs.Stored.{stored-none, stored-append, stored-eq, room-eq, room-first, room_next}
use Rattle.rule_text.specs.inner.Parts.{gap, kind_text, shown}
use Rattle.rule_text.proofs.Left.{after, after_none, after_more}
use Rattle.rule_text.proofs.RecordList.{kinds, each, write-kinds, records-kinds, flags-kinds}

pub record Left (n : ℕ) (s text : List ℕ) (at place next : ℕ) (out now : List ℕ) : Type 0 where
  pub rest : List Kind
  pub bytes : drop place s ≡ each bytes_of rest
  pub flags : Every (FlagBelow n) rest
  pub done : List ℕ
  pub put : Stored done at next out now
  pub whole : done ++ after place rest ≡ text

module _ (n : ℕ) (s : List ℕ) where
  start_of : (t : Tree) → Below 256 s → made n s ≡ gives t → (at : ℕ) (out : List ℕ) → at ≤ length out → Left n s (records t) at 0 at out out
  unfolding after
  start_of t small e at out h =
      let w = made-is n s t small e in
      record {
        rest = kinds t;
        bytes = w.bytes ∙ write-kinds t;
        flags = flags-kinds n t w.flags;
        done = [];
        put = stored-none at out h;
        whole = ap (drop 1) (sym (records-kinds t));
      }

  pub left-start : WellFormed n s → Below 256 s → (at : ℕ) (out : List ℕ) → at ≤ length out → Left n s (shown (made n s)) at 0 at out out
  unfolding WellFormed
  left-start m small at out h =
      subst (λ (l : List ℕ). Left n s l at 0 at out out) (sym (ap shown m.1)) (start_of m.0 small m.1 at out h)

module _ {n : ℕ} {s text : List ℕ} {at place next : ℕ} {out now : List ℕ} (w : Left n s text at place next out now) where
  -- the next record, and the records after it
  pub record Next (r : Found) : Type 0 where
    pub read : Read n s place r
    pub others : List Kind
    pub is : w.rest ≡ r.kind ∷ others
    pub behind : r.next ≡ place + length (bytes_of r.kind)

  module _ (h : place < length s) where
    -- where bytes are left a record stands
    stands : (r : Found) × Next r
    stands = go w.rest refl w.bytes w.flags
      where
        go : (ks : List Kind) → w.rest ≡ ks → drop place s ≡ each bytes_of ks → Every (FlagBelow n) ks → (r : Found) × Next r
        go [] e b f = absurd (omega (arith, length-drop place s, ap length b))
        go (k ∷ ks) e b f =
            let r : Found = record { kind = k; next = place + length (bytes_of k) } in
            let q = record-at n s place k (each bytes_of ks) b f.0 in
            (r, record { read = found-read n s place r q; others = ks; is = e; behind = refl })

    over : record_over n s 2 place ≡ gives stands.0
    over = over-two n s place stands.0 stands.1.read.stands

    pub left-next : (r : Found) → record_over n s 2 place ≡ gives r → Next r
    left-next r e = subst Next (gives_same (sym over ∙ e)) stands.1

    pub left-found : {k p : ℕ} → ¬ (record_over n s 2 place ≡ refuses k p)
    left-found e = not-both (sym over ∙ e)

  pub left_end : length s ≤ place → Stored text at next out now
  left_end h = go w.rest w.bytes w.whole
    where
      go : (ks : List Kind) → drop place s ≡ each bytes_of ks → w.done ++ after place ks ≡ text → Stored text at next out now
      go [] b e = stored-eq (sym (append-nil w.done) ∙ ap (λ (l : List ℕ). w.done ++ l) (sym (after_none place)) ∙ e) w.put
      go (k ∷ ks) b e = absurd (omega (arith, bytes_of-long k, length-drop place s, ap length b, length-append (bytes_of k) (each bytes_of ks)))

  module _ {r : Found} (d : Next r) where
    -- what is left to print, from the next record on
    text-left : after place w.rest ≡ gap place ++ kind_text r.kind ++ after r.next d.others
    text-left = ap (after place) d.is ∙ after_more place r.kind d.others r.next d.read.after

    room-left : Room text at out → Room (gap place ++ kind_text r.kind) next now
    room-left h =
        room-first (after r.next d.others)
        (room-eq text-left (room_next (after place w.rest) (room-eq (sym w.whole) h) w.put))

    pub left-gap : Room text at out → Room (gap place) next now
    left-gap h = room-first (kind_text r.kind) (room-left h)

    module _ {mid : ℕ} {then : List ℕ} (p : Stored (gap place) next mid now then) where
      pub left-kind : Room text at out → Room (kind_text r.kind) mid then
      left-kind h = room_next (kind_text r.kind) (room-left h) p

      pub left_step : {end : ℕ} {last : List ℕ} → Stored (kind_text r.kind) mid end then last → Left n s text at r.next end out last
      left_step q = record {
        rest = d.others;
        bytes =
            ap (λ (i : ℕ). drop i s) d.behind
            ∙ drop_past s place (bytes_of r.kind) (each bytes_of d.others) (w.bytes ∙ ap (each bytes_of) d.is);
        flags = (subst (Every (FlagBelow n)) d.is w.flags).1;
        done = w.done ++ (gap place ++ kind_text r.kind);
        put = stored-append w.put (stored-append p q);
        whole =
            append_assoc w.done (gap place ++ kind_text r.kind) (after r.next d.others)
            ∙ ap (λ (l : List ℕ). w.done ++ l) (sym text-left) ∙ w.whole;
      }
