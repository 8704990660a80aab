-- Laws of the reader's step: what it answers where a walk has reached a place, one equation for each way through the code, and what the answer at a
-- place says of a later one. They rest on `Reached` of the definitions, on the machine's turns (laws, Run) and on the laws of Stack.
--   read-over                        == too many flags
--   reached-end, reached-many        == no byte is left; no more records may begin
--   Passed, over-passed              == a record that rows 6, 7 and 8 pass, with its operands
--   reached-refused, reached-found   == the record is refused by rows 6, 7 or 8; it is read
--   later-refused, later-end         == a place behind a refused record, and one behind the end
use mathlib.Core.Bool.{Bool, true, false}
use mathlib.Core.List.{List}
use mathlib.Core.Option.{none, some}
use mathlib.Core.Path.{◌≡◌, refl, sym, ap, ap₂, ◌∙◌}
use Prim.Native.Nat.{ℕ, suc, ◌+◌, ◌-◌, ◌≤◌, ◌<◌}
use native.Mathlib.Nat.{le_refl}
use native.Mathlib.Omega.{arith}
use lib.Dec.{ltb}
use lib.ListN.{length, get_or}
use borrow.Author.Tests.{ltb-true, ltb-false, lt-ltb, le-ltb}
use Rattle.rules.specs.Calls.{read}
use Rattle.rules.specs.Limits.{record_limit, rule_flags, too_many_flags, many_records, few_operands}
use Rattle.rules.specs.Machine.{Node, Operand, turn}
use Rattle.rules.specs.Outcome.{Outcome, gives, refuses, refuse, ◌then◌}
use Rattle.rules.specs.Record.{Kind, Constant, Flag, And, Or, Xor, Not, Found, operand_count, record_at}
use Rattle.laws.proofs.calls.Outcome.{gives_same, not-both, then-gives, then-refuses}
use Rattle.laws.proofs.reading.Run.{turn_of, turn_node, turn_end, turn-full, turn-bad, turn-few, turn-read, node-here, node-refused, node_end}
use Rattle.expr.specs.Inner.{over, record_over}
use Rattle.reader.specs.Inner.{operand, Reached, start_at, node_over}
use Rattle.reader.proofs.Stack.{left_by, first_of, second_of, push-enough, push-few}

-- row 1
pub read-over : (n : ℕ) (s : List ℕ) (at : ℕ) → rule_flags < n → read n s at ≡ refuses too_many_flags 0
unfolding read
read-over n s at l = rw (lt-ltb rule_flags n l)

start-held : (a : List ℕ) (d i : ℕ) → i < d → start_at a d i ≡ get_or a i 0
unfolding start_at
start-held a d i h = rw (lt-ltb i d h, start_at)

start_none : (a : List ℕ) (d i : ℕ) → d ≤ i → start_at a d i ≡ 0
unfolding start_at
start_none a d i h = rw (le-ltb i d h, start_at)

-- a refusal is the same of any result
pub refuses-again : {A B : Type 0} {k p j q : ℕ} → ◌≡◌ {A = Outcome A} (refuses k p) (refuses j q) → ◌≡◌ {A = Outcome B} (refuses k p) (refuses j q)
refuses-again {k = k} {p} {j} {q} e =
    let a : k ≡ j = cc in
    let b : p ≡ q = cc in
    ap₂ refuses a b

module _ {n : ℕ} {s starts : List ℕ} {depth place count : ℕ} (w : Reached n s starts depth place count) where
  abbrev os : List Operand
  os = w.stack

  -- the machine's turn at the place
  here : read n s place ≡ turn (record_limit - count) n s place os then (λ o. gives (turn_node o))
  here = w.finds place (le_refl place) ∙ node-here (record_limit - count) n s place os

  pub reached-end : length s ≤ place → read n s place ≡ gives none
  reached-end h = here ∙ rw (turn_end (record_limit - count) n s place os h)

  pub reached-many : record_limit ≤ count → place < length s → read n s place ≡ refuses many_records place
  reached-many l h =
      let e : record_limit - count ≡ 0 = omega arith in
      here ∙ ap (λ (k : ℕ). turn k n s place os then (λ o. gives (turn_node o))) e ∙ rw (turn-full n s place os h)

  module _ (l : count < record_limit) (h : place < length s) where
    -- the same where more records may begin
    turned : read n s place ≡ turn (suc (record_limit - (count + 1))) n s place os then (λ o. gives (turn_node o))
    turned =
        let e : record_limit - count ≡ suc (record_limit - (count + 1)) = omega arith in
        here ∙ ap (λ (k : ℕ). turn k n s place os then (λ o. gives (turn_node o))) e

    pub reached-refused : (k q : ℕ) → record_over n s depth place ≡ refuses k q → read n s place ≡ refuses k q
    unfolding record_over
    reached-refused k q e = go (record_at n s place) refl e
      where
        few : (r : Found) → record_at n s place ≡ gives r → (b : Bool) → ltb depth (operand_count r.kind) ≡ b
            → refuse b few_operands place (gives r) ≡ refuses k q → read n s place ≡ refuses k q
        few r f true g x =
            let lack : length os < operand_count r.kind = omega (arith, ltb-true depth (operand_count r.kind) g, w.deep) in
            turned ∙ rw (turn-few n s place os h (record_limit - (count + 1)) r f (push-few r.kind place os lack)) (refuses-again x)
        few r f false g x = absurd (not-both x)

        go : (o : Outcome Found) → record_at n s place ≡ o
            → o then over depth place ≡ refuses k q
            → read n s place ≡ refuses k q
        go (gives r) f x = few r f (ltb depth (operand_count r.kind)) refl x
        go (refuses j i) f x = turned ∙ rw (turn-bad n s place os h (record_limit - (count + 1)) j i f) (refuses-again x)

    module _ (r : Found) (base : ℕ) (b : base + operand_count r.kind ≡ depth) where
      same_base : base ≡ depth - operand_count r.kind
      same_base = omega arith

      first-same : first_of r.kind (operand os base) ≡ start_at starts depth base
      first-same = go r.kind b
        where
          held : (k : ℕ) → 0 < k → base + k ≡ depth → (operand os base).start ≡ start_at starts depth base
          held k p e = sym (start-held starts depth base (omega arith) ∙ w.begins 0 base (omega (arith, w.deep)))

          go : (k : Kind) → base + operand_count k ≡ depth → first_of k (operand os base) ≡ start_at starts depth base
          go (Constant c) e = sym (start_none starts depth base (omega arith))
          go (Flag i) e = sym (start_none starts depth base (omega arith))
          go And e = held 2 (omega arith) e
          go Or e = held 2 (omega arith) e
          go Xor e = held 2 (omega arith) e
          go Not e = held 1 (omega arith) e

      second-same : second_of r.kind (operand os (base + 1)) ≡ start_at starts depth (base + 1)
      second-same = go r.kind b
        where
          held : base + 2 ≡ depth → (operand os (base + 1)).start ≡ start_at starts depth (base + 1)
          held e = sym (start-held starts depth (base + 1) (omega arith) ∙ w.begins 0 (base + 1) (omega (arith, w.deep)))

          go : (k : Kind) → base + operand_count k ≡ depth → second_of k (operand os (base + 1)) ≡ start_at starts depth (base + 1)
          go (Constant c) e = sym (start_none starts depth (base + 1) (omega arith))
          go (Flag i) e = sym (start_none starts depth (base + 1) (omega arith))
          go And e = held e
          go Or e = held e
          go Xor e = held e
          go Not e = sym (start_none starts depth (base + 1) (omega arith))

      node-same : (turn_of r (left_by r.kind place os base)).node ≡ node_over r starts depth
      node-same =
          ap₂ (λ (x y : ℕ). record { kind = r.kind; first = x; second = y; next = r.next })
          (first-same ∙ ap (start_at starts depth) same_base)
          (second-same ∙ ap (λ (i : ℕ). start_at starts depth (i + 1)) same_base)

    -- the record and its operands where rows 6, 7 and 8 pass it
    pub record Passed (r : Found) : Type 0 where
      pub stands : record_at n s place ≡ gives r
      pub enough : operand_count r.kind ≤ depth

    pub over-passed : (r : Found) → record_over n s depth place ≡ gives r → Passed r
    unfolding record_over
    over-passed r e = let a = then-gives (record_at n s place) _ r e in go a.0 a.1 (ltb depth (operand_count a.0.kind)) refl a.2
      where
        go : (x : Found) → record_at n s place ≡ gives x → (b : Bool) → ltb depth (operand_count x.kind) ≡ b
            → refuse b few_operands place (gives x) ≡ gives r → Passed r
        go x f true g q = absurd (not-both (sym q))
        go x f false g q =
            let same : x ≡ r = gives_same q in
            rw (← same) record { stands = f; enough = ltb-false depth (operand_count x.kind) g }

    pub reached-found : (r : Found) → record_over n s depth place ≡ gives r → read n s place ≡ gives (some (node_over r starts depth))
    reached-found r e =
        let d = over-passed r e in
        let base : ℕ = depth - operand_count r.kind in
        let b : base + operand_count r.kind ≡ depth = omega (arith, d.enough) in
        let push = push-enough r.kind place os base (omega (arith, b, w.deep)) in
        turned ∙ rw (turn-read n s place os h (record_limit - (count + 1)) r _ d.stands push)
        (ap (λ (x : Node). gives (some x)) (node-same r base b))

  -- ---- a later place

  module _ (at : ℕ) (h : place ≤ at) where
    pub later-refused : (k q : ℕ) → read n s place ≡ refuses k q → read n s at ≡ refuses k q
    later-refused k q e =
        w.finds at h
        ∙ node-refused n s at place os h (record_limit - count) k q
        (then-refuses (turn (record_limit - count) n s place os) turn_node k q (sym here ∙ e))

    pub later-end : length s ≤ place → read n s at ≡ gives none
    later-end p = w.finds at h ∙ node_end n s at place os h (record_limit - count) p
