-- What the search for the record at a place keeps while it reads the records before it, and what each way to leave it says. It rests on the laws of
-- Walk, Turn and Reading.
--   Finding n s asked starts depth at count
--                        == count records are read, up to byte at, and what is asked for goes by the stack that they leave
--   finding-start, finding-step    == before the first record; one record more before the place
--   finding-reached      == the reader's step can be asked
--   finding-refused, finding-end == where the step at an earlier byte gives no record, its answer is the one asked for
--   finding-inside       == a place inside the record before is refused
use mathlib.Core.List.{List}
use mathlib.Core.Option.{none}
use mathlib.Core.Path.{◌≡◌, sym, ap, ◌∙◌}
use Prim.Native.Nat.{ℕ, ◌+◌, ◌-◌, ◌≤◌, ◌<◌}
use native.Mathlib.Omega.{arith}
use lib.ListN.{length, get_or, set, length-set}
use borrow.Author.Tests.{le-ltb}
use Rattle.rules.specs.Calls.{read}
use Rattle.rules.specs.Limits.{record_limit, rule_flags, few_operands}
use Rattle.rules.specs.Machine.{node_from}
use Rattle.rules.specs.Outcome.{gives, refuses}
use Rattle.rules.specs.Record.{Found, operand_count}
use Rattle.laws.proofs.reading.Run.{node-before}
use Rattle.reader.specs.Inner.{Image, Reached, begun}
use Rattle.reader.proofs.Reading.{later-refused, later-end}
use Rattle.reader.proofs.Stack.{image-empty}
use Rattle.reader.proofs.Turn.{Stepped, answer-past}
use Rattle.reader.proofs.Walk.{Walk, walk_start, walk_step, walk-asked, walk-stack, walk_begins, walk-reached}

pub record Finding (n : ℕ) (s : List ℕ) (asked : ℕ) (starts : List ℕ) (depth at count : ℕ) : Type 0 where
  pub walk : Walk n s count at depth
  pub begins : Image (λ o. o.start) walk.stack starts
  pub room : length starts ≡ record_limit
  pub asks : read n s asked ≡ node_from (record_limit - count) n s asked at walk.stack

pub finding-start : (n : ℕ) (s : List ℕ) (asked : ℕ) (starts : List ℕ) → n ≤ rule_flags → length starts ≡ record_limit
    → Finding n s asked starts 0 0 0
unfolding walk_start read
finding-start n s asked starts l h = record {
  walk = walk_start n s;
  begins = image-empty (λ o. o.start) starts;
  room = h;
  asks = rw (le-ltb rule_flags n l);
}

module _ {n : ℕ} {s : List ℕ} {asked : ℕ} {starts : List ℕ} {depth at count : ℕ} (w : Finding n s asked starts depth at count) where
  pub finding-reached : n ≤ rule_flags → Reached n s starts depth at count
  finding-reached l = walk-reached w.walk l starts w.begins (omega (arith, w.walk.high, w.walk.few, w.room))

  pub finding-step : {r : Found} → Stepped n s depth at count r → at < asked → (base : ℕ) → base + operand_count r.kind ≡ depth
      → Finding n s asked (set starts base (begun r.kind at (get_or starts base 0))) (base + 1) r.next (count + 1)
  finding-step {r} f before base h =
      let low : base < length starts = omega (arith, w.walk.high, w.room, f.more) in
      record {
        walk = walk_step w.walk f.stands f.more base h;
        begins = walk_begins w.walk f.stands f.more base h starts low w.begins;
        room = simp length-set w.room;
        asks = w.asks ∙ walk-asked w.walk f.stands f.more base h asked before
            ∙ ap (node_from (record_limit - (count + 1)) n s asked r.next) (sym (walk-stack w.walk f.stands f.more base h));
      }

  pub finding-refused : n ≤ rule_flags → at ≤ asked → {k q : ℕ} → read n s at ≡ refuses k q → read n s asked ≡ refuses k q
  finding-refused l h {k} {q} e = later-refused (finding-reached l) asked h k q e

  pub finding-end : n ≤ rule_flags → at ≤ asked → read n s at ≡ gives none → read n s asked ≡ gives none
  finding-end l h e = later-end (finding-reached l) asked h (answer-past w.walk l e)

  pub finding-inside : asked < at → read n s asked ≡ refuses few_operands asked
  finding-inside h = w.asks ∙ node-before n s asked at w.walk.stack (record_limit - count) h
