-- What the machine makes a tree of is what that tree writes, so that bytes and trees are two readings of one expression. It rests on RecordAt, Run,
-- Stack and ReadBack. Where bytes are given they are to be below 256, as a slice of bytes always is; beyond that it assumes nothing.
--   Adds, turn-adds            == a turn moves the bytes of one record to the stack, and adds one record and no flag but its own
--   Ran, run_is                == a run that gives t: the stack's bytes and those left are t's
--   Written, made-is, is_made  == `made` gives t exactly where t writes the bytes, has at most 385 records, and its flags are below n
--   well-formed                == bytes are well formed exactly where there is such a tree
--   write_same                 == that tree is the only one
use mathlib.Core.List.{List, [], ◌∷◌, ◌++◌, append_assoc, append-nil}
use mathlib.Core.Logic.{◌↔◌}
use mathlib.Core.Path.{◌≡◌, sym, ap, ◌∙◌, subst}
use Prim.Native.Nat.{ℕ, zero, suc, ◌+◌, ◌≤◌}
use native.Mathlib.Decide.{dec_lt}
use native.Mathlib.Omega.{arith}
use lib.Dec.{lit<}
use lib.ListN.{length, drop, length-append, drop_of_length-le}
use Rattle.bits.specs.Range.{Below}
use Rattle.bits.proofs.Below.{below-get_or}
use Rattle.bits.proofs.Every.{Every}
use Rattle.rules.specs.Limits.{record_limit}
use Rattle.rules.specs.Machine.{Operand, Turn, finish, run, made, WellFormed}
use Rattle.rules.specs.Outcome.{gives}
use Rattle.rules.specs.Tree.{Tree, AN, size, write, FlagsBelow}
use Rattle.laws.proofs.reading.FlagsBelow.{flags-some}
use Rattle.laws.proofs.calls.Outcome.{gives_same, not-both}
use Rattle.laws.proofs.reading.ReadBack.{run-whole, made-write}
use Rattle.laws.proofs.reading.RecordAt.{bytes_of, record-read}
use Rattle.laws.proofs.reading.Run.{Taken, turn-taken, run_end, run-gives}
use Rattle.laws.proofs.reading.Stack.{trees, writes, sizes, pushed}

-- what a turn that reads a record adds to the stack
pub record Adds (n : ℕ) (s : List ℕ) (p : ℕ) (os : List Operand) (u : Turn) : Type 0 where
  pub bytes : Below 256 s → writes (trees os) ++ drop p s ≡ writes (trees u.stack) ++ drop u.node.next s
  pub grows : length (writes (trees u.stack)) + p ≡ length (writes (trees os)) + u.node.next
  pub records : sizes (trees u.stack) ≡ suc (sizes (trees os))
  pub flags : Every (FlagsBelow n) (trees os) → Every (FlagsBelow n) (trees u.stack)

pub turn-adds : (n : ℕ) (s : List ℕ) (p : ℕ) (os : List Operand) (u : Turn) → Taken n s p os u → Adds n s p os u
turn-adds n s p os u g =
    let r = record-read n s p g.found g.reads in
    let d = pushed g.found.kind p os g.left g.pushes in
    subst (Adds n s p os) g.is record {
      bytes = λ small. rw (r.bytes (below-get_or 256 s 0 (lit< tt) small (p + 1)), d.bytes, append_assoc);
      grows = omega (arith, r.next, ap length d.bytes, length-append (writes (trees os)) (bytes_of g.found.kind));
      records = d.records;
      flags = d.flags n r.flag;
    }

-- the stack's bytes and the rest are those of t, in at most k further records
pub record Ran (k n : ℕ) (s : List ℕ) (p : ℕ) (os : List Operand) (t : Tree) : Type 0 where
  pub bytes : writes (trees os) ++ drop p s ≡ write t
  pub records : size t ≤ sizes (trees os) + k
  pub flags : Every (FlagsBelow n) (trees os) → FlagsBelow n t

module _ (n : ℕ) (s : List ℕ) (t : Tree) where
  finished : (k p : ℕ) (os : List Operand) → finish (length s) os ≡ gives t → length s ≤ p → Ran k n s p os t
  unfolding finish
  finished k p [] e h = absurd (not-both (sym e))
  finished k p (o ∷ []) e h =
      subst (Ran k n s p (o ∷ [])) (gives_same e) record {
        bytes = ap (λ (l : List ℕ). write o.tree ++ l) (drop_of_length-le s h) ∙ append-nil (write o.tree);
        records = omega arith;
        flags = λ f. f.0;
      }
  finished k p (o ∷ u ∷ os) e h = absurd (not-both (sym e))

  -- a record more, and then t
  after_turn : Below 256 s → (k p : ℕ) (os : List Operand) (u : Turn) → Taken n s p os u → Ran k n s u.node.next u.stack t
      → Ran (suc k) n s p os t
  after_turn small k p os u g i =
      let d = turn-adds n s p os u g in
      record { bytes = d.bytes small ∙ i.bytes; records = omega (arith, d.records, i.records); flags = λ f. i.flags (d.flags f) }

  pub run_is : Below 256 s → (k p : ℕ) (os : List Operand) → run k n s p os ≡ gives t → Ran k n s p os t
  run_is small zero p os e = elim (dec_lt p (length s)) [
    | yes h ↦ absurd (let a = run-gives zero n s p os t h e in omega (arith, a.1))
    | no h ↦ finished zero p os (sym (run_end zero n s p os (omega arith)) ∙ e) (omega arith)
  ]
  run_is small (suc k) p os e = elim (dec_lt p (length s)) [
    | yes h ↦
        let a = run-gives (suc k) n s p os t h e in
        let u = a.2.0 in
        let same : k ≡ a.0 = omega (arith, a.1) in
        let rest : run k n s u.node.next u.stack ≡ gives t = ap (λ (i : ℕ). run i n s u.node.next u.stack) same ∙ a.2.2 in
        after_turn small k p os u (turn-taken n s p os h k u a.2.1) (run_is small k u.node.next u.stack rest)
    | no h ↦ finished (suc k) p os (sym (run_end (suc k) n s p os (omega arith)) ∙ e) (omega arith)
  ]

pub record Written (n : ℕ) (s : List ℕ) (t : Tree) : Type 0 where
  pub bytes : s ≡ write t
  pub records : size t ≤ record_limit
  pub flags : FlagsBelow n t

module _ (n : ℕ) (s : List ℕ) where
  pub made-is : (t : Tree) → Below 256 s → made n s ≡ gives t → Written n s t
  unfolding made
  made-is t small e = let r = run_is n s t small record_limit 0 [] e in record { bytes = r.bytes; records = omega arith; flags = r.flags tt }

  pub is_made : (t : Tree) → Written n s t → made n s ≡ gives t
  is_made t w = ap (made n) w.bytes ∙ made-write n t w.flags w.records

  pub well-formed : Below 256 s → WellFormed n s ↔ ((t : Tree) × Written n s t)
  unfolding WellFormed
  well-formed small = ((λ m. (m.0, made-is m.0 small m.1)), (λ w. (w.0, is_made w.0 w.1)))

-- ---- one tree

pub write_same : (t u : Tree) → write t ≡ write u → t ≡ u
write_same t u e =
    let b = flags-some (AN t u) in
    let k : ℕ = size t + size u in
    gives_same
    (sym (run-whole b.0 t b.1.0 k (omega arith)) ∙ ap (λ (s : List ℕ). run k b.0 s 0 []) e ∙ run-whole b.0 u b.1.1 k (omega arith))
