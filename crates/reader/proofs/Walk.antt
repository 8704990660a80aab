-- Laws of a walk over an expression's records: what a loop knows when it has read some records from the front, how one more record changes
-- that, and what the reader's answer at its place says of the expression's tree. They hold for every walk, whatever its stack holds. They rest on
-- the machine's turns (laws, Run), on a record that was read (expr, ReadRecord) and on the laws of Stack.
--   Walk n s count place depth           == count records are read, up to place, and the machine's stack is depth deep there
--   held w i, grown w k base             == the stack's operand at place i; the operand of a record of kind k over those from place base on
--   walk_start, walk_step                == before the first record; one record more
--   walk-asked                           == a place behind the record is asked for after it as before it
--   walk-reached                         == a walk that keeps where its operands begin has reached its place
--   walk-size                            == a record's tree has no more records than are read
--   walk-stack                           == what a record leaves on the machine's stack
--   walk-image, walk_begins              == one store keeps an array up with a record; so with where its operand begins
--   walk-fits                            == a place of a walk fits in 16 bits
--   walk_refused                         == where the reader refuses the record at the place, the expression is refused so
--   walk_end                             == at the end of the bytes one operand must be left, of which the answer is made
use mathlib.Core.Bool.{Bool, true, false, not}
use mathlib.Core.List.{List, [], ◌∷◌}
use mathlib.Core.Option.{some}
use mathlib.Core.Path.{◌≡◌, refl, sym, ap, ◌∙◌}
use Prim.Native.Nat.{ℕ, suc, ◌+◌, ◌-◌, ◌*◌, ◌^◌, ◌≤◌, ◌<◌}
use native.Mathlib.Decide.{dec_lt}
use native.Mathlib.Omega.{arith}
use lib.Dec.{eqb, lit≤}
use lib.ListN.{length, get_or, drop, set, length-drop}
use borrow.Author.Tests.{eqb-true, ne_eqb, le-ltb}
use Rattle.bits.specs.Sum.{sum, total}
use Rattle.rules.specs.Calls.{read}
use Rattle.rules.specs.Limits.{record_limit, rule_flags, bad_end}
use Rattle.rules.specs.Machine.{Operand, Turn, turn, finish, run, made, node_from}
use Rattle.rules.specs.Outcome.{Outcome, gives, refuses, refuse, ◌then◌}
use Rattle.rules.specs.Record.{Kind, Found, operand_count}
use Rattle.rules.specs.Tree.{Tree, size}
use Rattle.laws.proofs.reading.Run.{turn_of, turn-read, run-turn, run_end, run-refused, node-after}
use Rattle.expr.proofs.ReadRecord.{Read}
use Rattle.reader.specs.Inner.{operand, Image, Reached, begun, ended}
use Rattle.reader.proofs.Stack.{built, left_by, push-enough, size_of, size-push, image-push, begun-none}

pub record Walk (n : ℕ) (s : List ℕ) (count place depth : ℕ) : Type 0 where
  pub stack : List Operand
  pub runs : made n s ≡ run (record_limit - count) n s place stack
  pub finds : (at : ℕ) → place ≤ at → node_from record_limit n s at 0 [] ≡ node_from (record_limit - count) n s at place stack
  pub deep : length stack ≡ depth
  pub high : depth ≤ count
  pub few : count ≤ record_limit
  pub near : place ≤ 3 * count
  pub sizes : total size_of stack ≡ count

finish-ended : (len : ℕ) (ts : List Operand) → finish len ts ≡ ended (length ts) len (gives (operand ts 0).tree)
unfolding finish operand
finish-ended len [] = refl
finish-ended len (t ∷ []) = refl
finish-ended len (t ∷ u ∷ ts) = rw (ne_eqb (length (t ∷ u ∷ ts)) 1 (λ e. omega arith))

-- ---- the walk

unfoldable pub walk_start : (n : ℕ) (s : List ℕ) → Walk n s 0 0 0
unfolding made sum
walk_start n s = record {
  stack = [];
  runs = refl;
  finds = λ at h. refl;
  deep = refl;
  high = lit≤ tt;
  few = lit≤ tt;
  near = lit≤ tt;
  sizes = refl;
}

module _ {n : ℕ} {s : List ℕ} {count place depth : ℕ} (w : Walk n s count place depth) where
  -- the operand on the stack at place i, counted from the bottom
  abbrev pub held : ℕ → Operand
  held i = operand w.stack i

  -- the operand of a record of kind k that takes its operands from place base on
  abbrev pub grown : Kind → ℕ → Operand
  grown k base = built place k (held base) (held (base + 1))

  pub walk-fits : place < 2 ^ 16
  walk-fits = omega (arith, w.few, w.near)

  pub walk-reached : n ≤ rule_flags → (starts : List ℕ) → Image (λ o. o.start) w.stack starts → depth ≤ length starts
      → Reached n s starts depth place count
  unfolding read
  walk-reached l starts i h =
      record { stack = w.stack; finds = λ at g. rw (le-ltb rule_flags n l) (w.finds at g); deep = w.deep; begins = i; room = h }

  pub walk_refused : {k q : ℕ} → turn (record_limit - count) n s place w.stack ≡ refuses k q → made n s ≡ refuses k q
  walk_refused {k} {q} e = w.runs ∙ run-refused (record_limit - count) n s place w.stack k q e

  pub walk_end : {B : Type 0} (g : Tree → Outcome B) (o : Outcome B) → length s ≤ place → (length w.stack ≡ 1 → g (held 0).tree ≡ o)
      → made n s then g ≡ ended depth (length s) o
  walk_end {B} g o h is =
      ap (λ (x : Outcome Tree). x then g)
      (w.runs ∙ run_end (record_limit - count) n s place w.stack h ∙ finish-ended (length s) w.stack
      ∙ ap (λ (k : ℕ). ended k (length s) (gives (held 0).tree)) w.deep)
      ∙ go (eqb depth 1) refl
    where
      go : (b : Bool) → eqb depth 1 ≡ b → refuse (not b) bad_end (length s) (gives (held 0).tree) then g ≡ refuse (not b) bad_end (length s) o
      go true q = is (w.deep ∙ eqb-true depth 1 q)
      go false q = refl

  module _ {r : Found} (f : Read n s place r) (l : count < record_limit) (base : ℕ) (h : base + operand_count r.kind ≡ depth) where
    abbrev left : Turn
    left = turn_of r (left_by r.kind place w.stack base)

    same : record_limit - count ≡ suc (record_limit - (count + 1))
    same = omega arith

    -- the machine's turn that reads the record
    turned : turn (suc (record_limit - (count + 1))) n s place w.stack ≡ gives (some left)
    turned =
        let q : base + operand_count r.kind ≡ length w.stack = omega arith in
        turn-read n s place w.stack (omega arith) (record_limit - (count + 1)) r _ f.stands (push-enough r.kind place w.stack base q)

    pub walk-asked : (at : ℕ) → place < at
        → node_from (record_limit - count) n s at place w.stack ≡ node_from (record_limit - (count + 1)) n s at r.next left.stack
    walk-asked at g =
        ap (λ (k : ℕ). node_from k n s at place w.stack) same
        ∙ node-after n s at place w.stack (record_limit - (count + 1)) left turned g

    pub walk_step : Walk n s (count + 1) r.next (base + 1)
    walk_step =
        let q : base + operand_count r.kind ≡ length w.stack = omega arith in
        record {
          stack = grown r.kind base ∷ drop (operand_count r.kind) w.stack;
          runs = w.runs ∙ ap (λ (k : ℕ). run k n s place w.stack) same
              ∙ run-turn (record_limit - (count + 1)) n s place w.stack left turned;
          finds = λ at g. w.finds at (omega (arith, f.after)) ∙ walk-asked at (omega (arith, f.after));
          deep = omega (arith, length-drop (operand_count r.kind) w.stack);
          high = omega arith;
          few = omega arith;
          near = omega (arith, f.near, w.near);
          sizes = size-push r.kind place w.stack base q ∙ ap (λ (k : ℕ). k + 1) w.sizes;
        }

    pub walk-stack : walk_step.stack ≡ grown r.kind base ∷ drop (operand_count r.kind) w.stack
    unfolding walk_step
    walk-stack = refl

    pub walk-size : size (grown r.kind base).tree ≤ count + 1
    unfolding sum walk_step
    walk-size = omega (arith, walk_step.sizes)

    pub walk-image : {A : Type 0} (e : Operand → A) (a : List A) (v : A) → base < length a → v ≡ e (grown r.kind base)
        → Image e w.stack a → Image e walk_step.stack (set a base v)
    unfolding walk_step
    walk-image e a v room is old =
        image-push e (grown r.kind base) w.stack (operand_count r.kind) base a v (omega arith) room is old

    pub walk_begins : (starts : List ℕ) → base < length starts → Image (λ o. o.start) w.stack starts
        → Image (λ o. o.start) walk_step.stack (set starts base (begun r.kind place (get_or starts base 0)))
    walk_begins starts room old =
        walk-image (λ o. o.start) starts _ room (elim (dec_lt 0 (operand_count r.kind)) [
          | yes q ↦ ap (begun r.kind place) (old 0 base (omega (arith, w.deep)))
          | no q ↦
              let z : operand_count r.kind ≡ 0 = omega arith in
              begun-none r.kind place _ z ∙ sym (begun-none r.kind place _ z)
        ]) old
