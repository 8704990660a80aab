-- One turn of a walk over records, by the reader's answer at its place: a record, the end or a refusal, and what each says where the walk stands.
-- They hold for every walk, and rest on the laws of Walk and on the machine's turns (laws, Run).
--   Stepped r, answer-found    == the record r stands there, more may begin, and its operands are on the stack
--   answer-past, answer-end      == the bytes end there, by the reader's answer and by the code's
--   answer-refused             == the expression is refused so
use mathlib.Core.List.{List}
use Rattle.std.proofs.Math.Option.{none, some}
use Rattle.std.proofs.Math.Option as math
use Rattle.std.specs.Prelude.{Option, Some, None, Result, Ok, Err}
use mathlib.Core.Path.{◌≡◌, refl, sym, ap, ◌∙◌, subst}
use Prim.Native.Nat.{ℕ, zero, suc, ◌-◌, ◌≤◌, ◌<◌}
use native.Mathlib.Decide.{dec_lt}
use native.Mathlib.Nat.{le_refl}
use native.Mathlib.Omega.{arith}
use lib.ListN.{length}
use borrow.Author.Tests.{le-ltb}
use Rattle.rules.specs.Calls.{read}
use Rattle.rules.specs.Limits.{record_limit, rule_flags}
use Rattle.rules.specs.Machine as paper
use Rattle.rules.specs.Machine.{Operand, Turn, turn, made}
use Rattle.rules.specs.Outcome.{gives, refuses, ◌then◌}
use Rattle.rules.specs.Record.{Found, operand_count}
use Rattle.rules.specs.Refusal.{number}
use Rattle.rules.specs.declared.refusal.Refusal.{Refusal}
use Rattle.laws.proofs.calls.Outcome.{gives_same, not-both, none-some, then-gives, then-refuses}
use Rattle.laws.proofs.reading.Run.{turn_node, turn-taken, turn-full, turn_end, turn-none, node-here}
use Rattle.laws.proofs.reading.Stack.{no-left}
use Rattle.expr.proofs.ReadRecord.{Read, found-read}
use Rattle.expr.specs.Answers.{kind_of}
use Rattle.reader.specs.Answers.{node_of, reading_of}
use Rattle.reader.specs.declared.Node.{Node}
use Rattle.reader.proofs.Stack.{push-few}
use Rattle.reader.proofs.Walk.{Walk, walk_refused}

-- what a record that a turn gives tells
pub record Stepped (n : ℕ) (s : List ℕ) (depth place count : ℕ) (r : Found) : Type 0 where
  pub stands : Read n s place r
  pub more : count < record_limit
  pub enough : operand_count r.kind ≤ depth

module _ {n : ℕ} {s : List ℕ} {count place depth : ℕ} (w : Walk n s count place depth) (l : n ≤ rule_flags) where
  abbrev os : List Operand
  os = w.stack

  -- the reader's answer at the walk's place is the machine's turn there
  here : read n s place ≡ turn (record_limit - count) n s place os then (λ o. gives (turn_node o))
  unfolding read
  here = rw (le-ltb rule_flags n l) (w.finds place (le_refl place) ∙ node-here (record_limit - count) n s place os)

  taken : (k : ℕ) → record_limit - count ≡ k → (t : Turn) → turn k n s place os ≡ gives (some t)
      → Stepped n s depth place count (record { kind = t.node.kind; next = t.node.next })
  taken zero e t f = absurd (elim (dec_lt place (length s)) [
    | yes h ↦ not-both (sym f ∙ turn-full n s place os h)
    | no h ↦ none-some (sym (turn_end zero n s place os (omega arith)) ∙ f)
  ])
  taken (suc k) e t f = elim (dec_lt place (length s)) [
    | yes h ↦
        let g = turn-taken n s place os h k t f in
        let same : ◌≡◌ {A = Found} g.found (record { kind = t.node.kind; next = t.node.next }) =
        ap (λ (u : Turn). record { kind = u.node.kind; next = u.node.next }) g.is in
        rw (← same) record {
          stands = found-read n s place g.found g.reads;
          more = omega arith;
          enough = elim (dec_lt depth (operand_count g.found.kind)) [
            | yes q ↦ no-left g.left (sym (push-few g.found.kind place os (omega (arith, w.deep))) ∙ g.pushes)
            | no q ↦ omega arith
          ];
        }
    | no h ↦ absurd (none-some (sym (turn_end (suc k) n s place os (omega arith)) ∙ f))
  ]

  -- the turn that gave the reader's answer
  answered : (o : math.Option paper.Node) → read n s place ≡ gives o
      → (u : math.Option Turn) × (turn (record_limit - count) n s place os ≡ gives u) × (gives (turn_node u) ≡ gives o)
  answered o e = then-gives (turn (record_limit - count) n s place os) _ o (sym here ∙ e)

  pub answer-found : {r : Result (Option Node) Refusal} {node : Node} → r ≡ Ok (Some node) → reading_of r ≡ read n s place
      → Stepped n s depth place count (record { kind = kind_of node.kind; next = node.next })
  answer-found {node = node} e told = let a = answered (some (node_of node)) (sym told ∙ ap reading_of e) in go a.0 a.1 (gives_same a.2)
    where
      go : (u : math.Option Turn) → turn (record_limit - count) n s place os ≡ gives u → turn_node u ≡ some (node_of node)
          → Stepped n s depth place count (record { kind = kind_of node.kind; next = node.next })
      go none f g = absurd (none-some (ap gives g))
      go (some t) f g =
          let same : t.node ≡ node_of node = cc in
          subst (λ (x : paper.Node). Stepped n s depth place count (record { kind = x.kind; next = x.next })) same
          (taken (record_limit - count) refl t f)

  pub answer-past : read n s place ≡ gives none → length s ≤ place
  answer-past e = let a = answered none e in go a.0 a.1 (gives_same a.2)
    where
      go : (u : math.Option Turn) → turn (record_limit - count) n s place os ≡ gives u → turn_node u ≡ none → length s ≤ place
      go none f g = turn-none n s place os (record_limit - count) f
      go (some t) f g = absurd (none-some (ap gives (sym g)))

  pub answer-end : {r : Result (Option Node) Refusal} → r ≡ Ok None → reading_of r ≡ read n s place → length s ≤ place
  answer-end e told = answer-past (sym told ∙ ap reading_of e)

  pub answer-refused : {r : Result (Option Node) Refusal} {refusal : Refusal} → r ≡ Err refusal → reading_of r ≡ read n s place
      → made n s ≡ refuses (number refusal.reason) refusal.place
  answer-refused e told =
      walk_refused w (then-refuses (turn (record_limit - count) n s place os) turn_node _ _ (sym here ∙ sym told ∙ ap reading_of e))
