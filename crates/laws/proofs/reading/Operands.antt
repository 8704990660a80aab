-- The operands that the reader answers are whole: the bytes from one start up to the next, and from the last up to the record, are well formed by
-- themselves and give one tree each, as many as the record's kind has. It rests on Run, Stack, ReadBack and WellFormed, and wants bytes below 256, as
-- those of a slice always are.
--   whole            == the bytes of a tree, wherever they stand, are that tree whole
--   Laid os          == every operand of the stack begins behind the bytes of those below it
--   Standing         == the machine at a byte: the stack's bytes are those before it, and with k more records there are at most 385
--   Spans, push-spans == a push takes as many operands as its kind has, each whole, and every operand on the stack still begins behind those below it
--   node-spanned     == such is what the reader finds from a byte on
--   read-operands    == the operands of a record that was read are whole
use mathlib.Core.List.{List, [], ◌∷◌, ◌++◌, append_assoc}
use mathlib.Core.Option.{Option, none, some}
use mathlib.Core.Path.{◌≡◌, refl, sym, ◌∙◌, subst}
use Prim.Native.Nat.{ℕ, zero, suc, ◌+◌, ◌-◌, ◌≤◌, ◌<◌}
use native.Mathlib.Decide.{dec_lt}
use native.Mathlib.Omega.{arith}
use lib.Dec.{ltb}
use lib.ListN.{length, drop, length-append}
use lib.Seq.{take_at, drop-append_seam}
use Rattle.bits.specs.Part.{part}
use Rattle.bits.specs.Range.{Below}
use Rattle.bits.proofs.Every.{Every}
use Rattle.rules.specs.Calls.{read}
use Rattle.rules.specs.Limits.{record_limit, rule_flags, too_many_flags}
use Rattle.rules.specs.Machine.{Operand, Node, Left, Turn, leaf, binary, unary, push, turn, finish, made, node_from}
use Rattle.rules.specs.Nodes.{Whole, Two, One, Spanned}
use Rattle.rules.specs.Outcome.{Outcome, gives, refuses}
use Rattle.rules.specs.Record.{Kind, Constant, Flag, And, Or, Xor, Not}
use Rattle.rules.specs.Tree.{Tree, CO, VA, AN, OR, XO, NO, size, write, FlagsBelow}
use Rattle.laws.proofs.calls.Outcome.{not-both, none-some, refuse-gives}
use Rattle.laws.proofs.reading.ReadBack.{made-write}
use Rattle.laws.proofs.reading.Run.{Taken, turn-taken, turn-full, turn-none, run_end}
use Rattle.laws.proofs.reading.Run.{node-before, node-refused, node_end, node-after, node-here}
use Rattle.laws.proofs.reading.Stack.{trees, writes, sizes, no-left, some_left}
use Rattle.laws.proofs.reading.WellFormed.{turn-adds}

-- ---- an operand

whole : (n : ℕ) (s : List ℕ) (t : Tree) (a b : List ℕ) → s ≡ (a ++ write t) ++ b → FlagsBelow n t → size t ≤ record_limit
    → Whole n s (length a) (length (a ++ write t)) t
unfolding made finish
whole n s t a b e f l =
    let d : length (write t) ≡ length (a ++ write t) - length a = omega (arith, length-append a (write t)) in
    let w : part s (length a) (length (a ++ write t) - length a) ≡ write t = rw (e, append_assoc, drop-append_seam) (take_at (write t) b _ d) in
    let m : made n (write t) ≡ gives t = made-write n t f l in
    record {
      nonempty = elim (dec_lt 0 (length (write t))) [
        | yes h ↦ omega (arith, length-append a (write t))
        | no h ↦ absurd (not-both (sym m ∙ run_end record_limit n (write t) 0 [] (omega arith)))
      ];
      written = w;
      formed = rw w m;
    }

-- ---- the stack

abbrev pub Laid : List Operand → Type 0
Laid [] = Unit
Laid (o ∷ os) = (o.start ≡ length (writes (trees os))) × Laid os

-- at byte p with the stack os, when at most k more records may begin
pub record Standing (n : ℕ) (s : List ℕ) (k p : ℕ) (os : List Operand) : Type 0 where
  pub bytes : s ≡ writes (trees os) ++ drop p s
  pub place : p ≡ length (writes (trees os))
  pub flags : Every (FlagsBelow n) (trees os)
  pub records : sizes (trees os) + k ≤ record_limit
  pub laid : Laid os

pub record Spans (n : ℕ) (s : List ℕ) (p : ℕ) (k : Kind) (l : Left) : Type 0 where
  pub spanned : Spanned n s p k l.first l.second
  pub laid : Laid l.stack

module _ (n : ℕ) (s : List ℕ) (j p : ℕ) where
  -- the operand on top of the stack
  top : (o : Operand) (os : List Operand) → Standing n s j p (o ∷ os) → Whole n s o.start p o.tree
  top o os h =
      rw (h.laid.0, h.place) (whole n s o.tree (writes (trees os)) (drop p s) h.bytes h.flags.0 (omega arith))

  -- and the one below it
  next : (y x : Operand) (os : List Operand) → Standing n s j p (y ∷ x ∷ os) → Whole n s x.start y.start x.tree
  next y x os h =
      rw (h.laid.1.0, h.laid.0)
      (whole n s x.tree (writes (trees os)) (write y.tree ++ drop p s)
      (h.bytes ∙ append_assoc (writes (trees os) ++ write x.tree) (write y.tree) (drop p s)) h.flags.1.0 (omega arith))

  none-taken : (k : Kind) (t : Tree) → Spanned n s p k 0 0 → (os : List Operand) (l : Left) → leaf t p os ≡ some l → Standing n s j p os
      → Spans n s p k l
  unfolding leaf
  none-taken k t d os l e h = subst (Spans n s p k) (some_left e) (record { spanned = d; laid = (h.place, h.laid) })

  two-taken : (k : Kind) (op : Tree → Tree → Tree) → ((a b : ℕ) → Two n s p a b → Spanned n s p k a b)
      → (os : List Operand) (l : Left) → binary op os ≡ some l → Standing n s j p os → Spans n s p k l
  unfolding binary
  two-taken k op d [] l e h = no-left l e
  two-taken k op d (y ∷ []) l e h = no-left l e
  two-taken k op d (y ∷ x ∷ os) l e h =
      let i : Two n s p x.start y.start =
      record { one = x.tree; other = y.tree; one-whole = next y x os h; other-whole = top y (x ∷ os) h } in
      subst (Spans n s p k) (some_left e) (record { spanned = d _ _ i; laid = h.laid.1 })

  one-taken : (op : Tree → Tree) (os : List Operand) (l : Left) → unary op os ≡ some l → Standing n s j p os → Spans n s p Not l
  unfolding unary
  one-taken op [] l e h = no-left l e
  one-taken op (x ∷ os) l e h =
      let i : One n s p x.start 0 = record { operand = x.tree; whole = top x os h; no_other = refl } in
      subst (Spans n s p Not) (some_left e) (record { spanned = i; laid = h.laid })

  push-spans : (k : Kind) (os : List Operand) (l : Left) → push k p os ≡ some l → Standing n s j p os → Spans n s p k l
  unfolding push
  push-spans (Constant b) = none-taken (Constant b) (CO b) (refl, refl)
  push-spans (Flag i) = none-taken (Flag i) (VA i) (refl, refl)
  push-spans And = two-taken And AN (λ a b d. d)
  push-spans Or = two-taken Or OR (λ a b d. d)
  push-spans Xor = two-taken Xor XO (λ a b d. d)
  push-spans Not = one-taken NO

-- ---- a record that was found

-- the record r at byte p has whole operands
abbrev Answer : ℕ → List ℕ → ℕ → Node → Type 0
Answer n s p r = Spanned n s p r.kind r.first r.second

module _ (n : ℕ) (s : List ℕ) (small : Below 256 s) where
  after_turn : (k p : ℕ) (os : List Operand) (u : Turn) → Taken n s p os u → Standing n s (suc k) p os
      → Standing n s k u.node.next u.stack × Answer n s p u.node
  after_turn k p os u g h =
      let d = turn-adds n s p os u g in
      let v = push-spans n s (suc k) p g.found.kind os g.left g.pushes h in (
        record {
          bytes = h.bytes ∙ d.bytes small;
          place = omega (arith, h.place, d.grows);
          flags = d.flags h.flags;
          records = omega (arith, h.records, d.records);
          laid = subst (λ (x : Turn). Laid x.stack) g.is v.laid;
        },
        subst (λ (x : Turn). Answer n s p x.node) g.is v.spanned,
      )

  module _ (at : ℕ) (r : Node) where
    -- a record that was found came by a turn
    node-gives : (k p : ℕ) (os : List Operand) → node_from k n s at p os ≡ gives (some r)
        → (p ≤ at) × (p < length s) × ((u : Turn) × (turn k n s p os ≡ gives (some u)))
    node-gives k p os e = elim (dec_lt at p) [
      | yes h ↦ absurd (not-both (sym e ∙ node-before n s at p os k h))
      | no h ↦
          let le : p ≤ at = omega arith in
          elim (dec_lt p (length s)) [
            | yes g ↦ (le, g, go le g (turn k n s p os) refl)
            | no g ↦ absurd (none-some (sym (node_end n s at p os le k (omega arith)) ∙ e))
          ]
    ]
      where
        go : p ≤ at → p < length s → (o : Outcome (Option Turn)) → turn k n s p os ≡ o → (u : Turn) × (turn k n s p os ≡ gives (some u))
        go le g (gives none) f = absurd (omega (arith, turn-none n s p os k f))
        go le g (gives (some u)) f = (u, f)
        go le g (refuses j q) f = absurd (not-both (sym e ∙ node-refused n s at p os le k j q f))

    node-spanned : (k p : ℕ) (os : List Operand) → Standing n s k p os → node_from k n s at p os ≡ gives (some r) → Answer n s at r
    node-spanned zero p os h e = let a = node-gives zero p os e in absurd (not-both (sym a.2.1 ∙ turn-full n s p os a.1))
    node-spanned (suc k) p os h e =
        let a = node-gives (suc k) p os e in
        let u : Turn = a.2.0 in
        let v = after_turn k p os u (turn-taken n s p os a.1 k u a.2.1) h in
        elim (dec_lt p at) [
          | yes g ↦ node-spanned k u.node.next u.stack v.0 (sym (node-after n s at p os k u a.2.1 g) ∙ e)
          | no g ↦
              let same : at ≡ p = omega (arith, a.0) in
              let f : node_from (suc k) n s p p os ≡ gives (some r) = rw same at e in
              let i : u.node ≡ r = cc (rw a.2.1 at (sym (node-here (suc k) n s p os) ∙ f)) in
              rw (same, ← i) v.1
        ]

pub read-operands : (n : ℕ) (s : List ℕ) → Below 256 s → (at : ℕ) (r : Node) → read n s at ≡ gives (some r)
    → Spanned n s at r.kind r.first r.second
unfolding read
read-operands n s small at r e =
    node-spanned n s small at r record_limit 0 [] (record { bytes = refl; place = refl; flags = tt; records = omega arith; laid = tt })
    (refuse-gives (ltb rule_flags n) too_many_flags 0 (node_from record_limit n s at 0 []) (some r) e).1
