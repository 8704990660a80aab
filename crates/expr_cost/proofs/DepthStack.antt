-- One record over arrays of depths and of which operands are ORs, as a walk keeps them that keeps its own stack of depths. No proof of a function
-- needs these laws today: the walk of `walk` keeps any values. They rest on the laws of Depth, of reader's Costed and of walk's Applied.
--   Top                    == where an operand stands that was pushed, and what the ORs save with it
--   Stacked k o a ors depth saved b q r
--                          == r answers a record with k operands, an OR where o says so, which makes the arrays b and q of a and ors: its depth and
--                             kind stand where its first operand stood; it is stopped, which is none, only where it finds no entry
--   depth_below            == a record that is pushed has an entry
--   depth-step             == one record more
--   depth-full             == a record is stopped only over arrays with no more entries than there may be records
use mathlib.Core.Bool.{Bool, false, ◌&&◌}
use mathlib.Core.List.{List}
use mathlib.Core.Path.{◌≡◌, refl, subst}
use Rattle.std.specs.Prelude.{Option, Some, None}
use Prim.Native.Nat.{ℕ, ◌+◌, ◌≤◌, ◌<◌}
use native.Mathlib.Nat.{le_refl}
use native.Mathlib.Omega.{arith}
use lib.ListN.{length, get_or, set}
use mir.Val.{bool_byte}
use Rattle.rules.specs.Limits.{record_limit}
use Rattle.rules.specs.Record.{Found, operand_count}
use Rattle.rules.specs.Tree.{depth}
use Rattle.expr.specs.Inner.{or_of}
use Rattle.reader.specs.Inner.{begun}
use Rattle.reader.proofs.Turn.{Stepped}
use Rattle.reader.proofs.Costed.{Costed, costed-step}
use Rattle.walk.proofs.Applied.{applied}
use Rattle.expr_cost.proofs.Depth.{deepest, depth-applied}

pub record Top : Type 0 where
  pub base : ℕ
  pub saved : ℕ

abbrev pub Stacked : ℕ → Bool → List ℕ → List Bool → ℕ → ℕ → List ℕ → List Bool → Option Top → Type 0
Stacked k o a ors depth saved b q (Some t) =
    (t.base + k ≡ depth) × (t.base < length a) × (t.saved ≡ saved + bool_byte (o && get_or ors t.base false))
    × (b ≡ set a t.base (deepest k (get_or a t.base 0) (get_or a (t.base + 1) 0))) × (q ≡ set ors t.base o)
Stacked k o a ors depth saved b q None = length a ≤ depth

module _ {n : ℕ} {s : List ℕ} {entries count place deep : ℕ} {a : List ℕ} {ors : List Bool} {starts : List ℕ} {less : ℕ}
    (w : Costed depth n s entries count place deep a ors starts less) {r : Found} (f : Stepped n s deep place count r)
    (b : List ℕ) (q : List Bool) {x : Option Top} (h : Stacked (operand_count r.kind) (or_of r.kind) a ors deep less b q x) where
  told : {y : Option Top} → x ≡ y → Stacked (operand_count r.kind) (or_of r.kind) a ors deep less b q y
  told e = subst (λ (z : Option Top). Stacked (operand_count r.kind) (or_of r.kind) a ors deep less b q z) e h

  pub depth_below : {t : Top} → x ≡ Some t → t.base < entries
  depth_below e = omega (arith, (told e).1)

  pub depth-step : {t : Top} → x ≡ Some t
      → Costed depth n s entries (count + 1) r.next (t.base + 1) b q
      (set starts t.base (begun r.kind place (get_or starts t.base 0))) t.saved
  depth-step {t} e =
      let k = told e in
      rw (k.2, k.3, k.4)
      (costed-step w f t.base k.0 (depth_below e) _ (depth-applied r.kind (applied w f t.base k.0 n (le_refl n) 0 0)) _ refl)

  pub depth-full : x ≡ None → entries ≤ record_limit
  depth-full e = omega (arith, told e)
