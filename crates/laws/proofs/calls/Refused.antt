-- By which numbers and at which places an outcome refuses: the reading of an expression by 6 to 9 before the end of its bytes, and by 10 there. It
-- rests on the rows of the machine and of the examiner.
--   By P o                         == a refusal of o has a number and a place for which P holds
--   by_row, by-step, by-choice     == a row, two steps and a choice refuse so where their parts do
--   by_turn                        == a turn of a reader, where bytes are left and where none is
--   record-by                      == a record refuses by 6 and 7 at its own place
--   ReadingBy P len, made_by       == P holds of 6 to 9 at every place before len and of 10 at len; so an expression of len bytes refuses by P
--   read_by                        == and so does the reader at a place where P holds of 8
--   judged-by, examined-by         == a verdict refuses by 12 and 13; so do an expression's reading and its verdict together
--   PlaceWithin len k p, examine-places == unless k is 12 or 13, p is at most len; so it is where the examiner refuses an expression of len bytes
use mathlib.Core.Bool.{Bool, true, false, not}
use mathlib.Core.List.{List, [], ◌∷◌}
use mathlib.Core.Logic.{◌≢◌}
use mathlib.Core.Option.{Option, none, some}
use mathlib.Core.Path.{◌≡◌, refl, subst}
use Prim.Native.Nat.{ℕ, zero, suc, ◌+◌, ◌≤◌, ◌<◌}
use native.Mathlib.Omega.{arith}
use lib.Dec.{ltb, eqb}
use lib.ListN.{length}
use borrow.Author.Tests.{ltb-true}
use Rattle.rules.specs.Calls.{with_table, table_form, differences, judged, examine}
use Rattle.rules.specs.Form.{raw_cost}
use Rattle.rules.specs.Limits.{rule_flags, record_limit, bad_mark, bad_payload, few_operands, many_records, bad_end, differs, too_costly}
use Rattle.rules.specs.Machine.{Operand, Left, Turn, push, operands, record_turn, turn, onward, finish, run, made, node_from}
use Rattle.rules.specs.Outcome.{Outcome, gives, refuses, refuse, ◌then◌}
use Rattle.rules.specs.Record.{Kind, marked, plain, loaded, record_at}
use Rattle.rules.specs.Table.{complete}
use Rattle.rules.specs.Tree.{Tree, cost}
use Rattle.laws.proofs.calls.Outcome.{pick}

abbrev pub By : {A : Type 0} → (ℕ → ℕ → Type 0) → Outcome A → Type 0
By P (gives a) = Unit
By P (refuses k p) = P k p

pub record ReadingBy (P : ℕ → ℕ → Type 0) (len : ℕ) : Type 0 where
  pub mark : (p : ℕ) → p < len → P bad_mark p
  pub payload : (p : ℕ) → p < len → P bad_payload p
  pub few : (p : ℕ) → p < len → P few_operands p
  pub many : (p : ℕ) → p < len → P many_records p
  pub end : P bad_end len

module _ (P : ℕ → ℕ → Type 0) where
  -- ---- row by row

  pub by_row : {A : Type 0} (b : Bool) (k p : ℕ) (rest : Outcome A) → P k p → By P rest → By P (refuse b k p rest)
  by_row true k p rest h r = h
  by_row false k p rest h r = r

  pub by-step : {A B : Type 0} (o : Outcome A) (f : A → Outcome B) → By P o → ((a : A) → By P (f a)) → By P (o then f)
  by-step (gives a) f h r = r a
  by-step (refuses k p) f h r = h

  pub by-choice : {A : Type 0} (b : Bool) (x y : Outcome A) → By P x → By P y → By P (pick b x y)
  by-choice true x y h r = h
  by-choice false x y h r = r

  pub by_turn : {A : Type 0} (p len : ℕ) (x y : Outcome A) → (p < len → By P x) → By P y → By P (pick (ltb p len) x y)
  by_turn {A} p len x y f r = go (ltb p len) refl
    where
      go : (b : Bool) → ltb p len ≡ b → By P (pick b x y)
      go true e = f (ltb-true p len e)
      go false e = r

  -- ---- records

  module _ (n : ℕ) (s : List ℕ) (p : ℕ) (mark : P bad_mark p) (payload : P bad_payload p) where
    loaded-by : (fits : Bool) (k : Kind) → By P (loaded s p fits k)
    unfolding loaded
    loaded-by fits k =
        by_row (ltb (length s) (p + 3)) bad_payload p _ payload
        (by-choice fits (gives record { kind = k; next = p + 3 }) (refuses bad_payload p) tt payload)

    pub record-by : By P (record_at n s p)
    unfolding record_at plain
    record-by =
        by_row (ltb (length s) (p + 2)) bad_mark p _ mark
        (by-choice (marked s p "CO") _ _ (loaded-by _ _)
        (by-choice (marked s p "VA") _ _ (loaded-by _ _)
        (by-choice (marked s p "AN") _ _ tt
        (by-choice (marked s p "OR") _ _ tt
        (by-choice (marked s p "XO") _ _ tt
        (by-choice (marked s p "NO") _ _ tt mark))))))

  -- ---- expressions

  finish-by : (len : ℕ) (os : List Operand) → P bad_end len → By P (finish len os)
  unfolding finish
  finish-by len [] h = h
  finish-by len (o ∷ []) h = tt
  finish-by len (o ∷ u ∷ os) h = h

  operands-by : (p : ℕ) (o : Option Left) → P few_operands p → By P (operands p o)
  unfolding operands
  operands-by p none h = h
  operands-by p (some l) h = tt

  -- a turn's answer, and what comes after it
  onward-by : {A : Type 0} (end : Outcome A) (next : Turn → Outcome A) (o : Option Turn) → By P end → ((t : Turn) → By P (next t))
      → By P (onward end next o)
  onward-by end next none h r = h
  onward-by end next (some t) h r = r t

  module _ (n : ℕ) (s : List ℕ) (by : ReadingBy P (length s)) where
    turn_by : (k p : ℕ) (os : List Operand) → By P (turn k n s p os)
    unfolding turn record_turn
    turn_by zero p os = by_turn p (length s) _ _ (by.many p) tt
    turn_by (suc k) p os =
        by_turn p (length s) _ _
        (λ h. by-step (record_turn n s p os) _ (by-step (record_at n s p) _ (record-by n s p (by.mark p h) (by.payload p h))
        (λ r. by-step (operands p (push r.kind p os)) _ (operands-by p (push r.kind p os) (by.few p h)) (λ l. tt))) (λ t. tt)) tt

    run_by : (k p : ℕ) (os : List Operand) → By P (run k n s p os)
    unfolding run
    run_by zero p os = by-step (turn zero n s p os) _ (turn_by zero p os) (λ o. finish-by (length s) os by.end)
    run_by (suc k) p os =
        by-step (turn (suc k) n s p os) _ (turn_by (suc k) p os)
        (λ o. onward-by _ _ o (finish-by (length s) os by.end) (λ t. run_by k t.node.next t.stack))

    node_by : (at : ℕ) → P few_operands at → (k p : ℕ) (os : List Operand) → By P (node_from k n s at p os)
    unfolding node_from
    node_by at h zero p os =
        by_row (ltb at p) few_operands at _ h (by-step (turn zero n s p os) _ (turn_by zero p os) (λ o. tt))
    node_by at h (suc k) p os =
        by_row (ltb at p) few_operands at _ h
        (by-step (turn (suc k) n s p os) _ (turn_by (suc k) p os)
        (λ o. onward-by _ _ o tt (λ t. by-choice (eqb at p) _ _ tt (node_by at h k t.node.next t.stack))))

    pub read_by : (at : ℕ) → P few_operands at → By P (node_from record_limit n s at 0 [])
    read_by at h = node_by at h record_limit 0 []

    pub made_by : By P (made n s)
    unfolding made
    made_by = run_by record_limit 0 []

  -- ---- examinations

  module _ (differing : (at : ℕ) → P differs at) (costly : (c : ℕ) → P too_costly c) where
    pub judged-by : (raw : ℕ) (t : Tree) (l : List ℕ) → By P (judged raw t l)
    unfolding judged
    judged-by raw t (s ∷ l) = differing s
    judged-by raw t [] = by_row (ltb raw (cost t)) too_costly (cost t) _ (costly (cost t)) tt

    pub examined-by : (n : ℕ) (table s : List ℕ) → ReadingBy P (length s)
        → By P (made n s then (λ t. judged (raw_cost (table_form n table)) t (differences n table t)))
    examined-by n table s by =
        by-step (made n s) _ (made_by n s by) (λ t. judged-by (raw_cost (table_form n table)) t (differences n table t))

-- ---- the places of an examination's refusals

abbrev pub PlaceWithin : ℕ → ℕ → ℕ → Type 0
PlaceWithin len k p = k ≢ differs → k ≢ too_costly → p ≤ len

within-examine : (n : ℕ) (table s : List ℕ) → By (PlaceWithin (length s)) (examine n table s)
unfolding examine with_table
within-examine n table s =
    by_row (PlaceWithin (length s)) (ltb rule_flags n) _ _ _ (omega arith)
    (by_row (PlaceWithin (length s)) (not (complete n table)) _ _ _ (omega arith)
    (examined-by (PlaceWithin (length s)) (omega arith) (omega arith) n table s (omega arith)))

pub examine-places : (n : ℕ) (table s : List ℕ) (k p : ℕ) → examine n table s ≡ refuses k p → k ≢ differs → k ≢ too_costly → p ≤ length s
examine-places n table s k p e = subst (By (PlaceWithin (length s))) e (within-examine n table s)
