-- What a walk keeps that writes an expression's bytes into a buffer along the places of a line's spaces: the records from its place on are left to
-- write, and the bytes of those before are written. No proof of a function needs these laws today. They rest on the records of a line (RuleAt) and on
-- runs of stores (bits, Stored).
--   Walk                     == what the walk keeps
--   walk_start, walk_step    == before the first record; one record more
--   walk-room                == there is room for the record's bytes
--   walk_end                 == after the last record all is written
use mathlib.Core.Bool.{true}
use mathlib.Core.List.{List, [], ◌++◌, append_assoc}
use mathlib.Core.Path.{◌≡◌, sym, ap, ◌∙◌}
use Prim.Native.Nat.{ℕ, ◌+◌, ◌≤◌}
use native.Mathlib.Omega.{arith}
use lib.ListN.{length}
use Rattle.bits.specs.Range.{all}
use Rattle.bits.specs.Stored.{Room, Stored}
use Rattle.bits.proofs.Stored.{stored-none, stored-append, stored-eq, stored-length}
use Rattle.examination_text.specs.Notation.{record_texts, is_record, record_bytes, expression}
use Rattle.examination_text.specs.inner.PartAt.{Part}
use Rattle.examination_text.proofs.Records.{texts-some}
use Rattle.examination_text.proofs.RuleAt.{piece, rest, rule-record, rule-more, bytes-last, bytes-more, length-piece}

pub record Walk (l : List ℕ) (start at : ℕ) (out now : List ℕ) : Type 0 where
  pub inside : start ≤ length l
  pub short : at ≤ start
  pub records : all is_record (rest l start) ≡ true
  pub done : List ℕ
  pub put : Stored done 0 at out now
  pub whole : done ++ expression (rest l start) ≡ expression (record_texts l)

pub walk_start : (l out : List ℕ) → (length l ≡ 0 → ⊥) → all is_record (record_texts l) ≡ true → Walk l 0 0 out out
walk_start l out h e = record {
  inside = omega arith;
  short = omega arith;
  records = ap (all is_record) (sym (texts-some l h)) ∙ e;
  done = [];
  put = stored-none 0 out (omega arith);
  whole = ap expression (sym (texts-some l h));
}

module _ {l : List ℕ} {start at : ℕ} {out now : List ℕ} (w : Walk l start at out now) {end : ℕ} (p : Part 32 l start end) where
  pub walk-room : length l ≤ length out → Room (record_bytes (piece l start end)) at now
  walk-room h = omega (arith, length-piece p, stored-length w.put, w.short, p.behind, p.within)

  module _ {b : ℕ} {after : List ℕ} (q : Stored (record_bytes (piece l start end)) at b now after) where
    pub walk_end : end ≡ length l → Stored (expression (record_texts l)) 0 b out after
    walk_end e = stored-eq (ap (λ (s : List ℕ). w.done ++ s) (sym (bytes-last p e)) ∙ w.whole) (stored-append w.put q)

    pub walk_step : (end ≡ length l → ⊥) → Walk l (end + 1) b out after
    walk_step e = record {
      inside = omega (arith, p.within);
      short = omega (arith, length-piece p, w.short, p.behind, q.place);
      records = sym (rule-more p (rule-record p w.records) e) ∙ w.records;
      done = w.done ++ record_bytes (piece l start end);
      put = stored-append w.put q;
      whole =
          append_assoc w.done (record_bytes (piece l start end)) (expression (rest l (end + 1)))
          ∙ ap (λ (s : List ℕ). w.done ++ s) (sym (bytes-more p e)) ∙ w.whole;
    }
