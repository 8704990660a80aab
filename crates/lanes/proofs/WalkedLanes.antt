-- A walk that keeps the lanes of its operands in an array: a record's lanes over that array, one record more, and the walk's answer at the end and
-- where the bytes are refused. No proof of a function needs these laws today: the walk of `walk` keeps any values. They rest on the laws of InLanes
-- and on those of reader's Costed and walk's Applied.
--   applied_at ws k a i    == the lanes of a record, where the operands' lanes are the entries of the array a from place i on
--   lanes_step             == one record more
--   seen-refused, seen_end == the walk's answer where the bytes are refused, and at their end
use mathlib.Core.Bool.{Bool, false, ◌&&◌}
use mathlib.Core.List.{List}
use mathlib.Core.Path.{◌≡◌, ◌∙◌}
use Prim.Native.Nat.{ℕ, ◌+◌, ◌-◌, ◌^◌, ◌≤◌, ◌<◌}
use native.Mathlib.Nat.{le_refl}
use lib.ListN.{length, get_or, set}
use mir.Val.{bool_byte}
use Rattle.rules.specs.Machine.{made}
use Rattle.rules.specs.Outcome.{gives, refuses}
use Rattle.rules.specs.Record.{Kind, Constant, Flag, And, Or, Xor, Not, Found, operand_count}
use Rattle.rules.specs.Stars.{star_values}
use Rattle.expr.specs.Inner.{or_of}
use Rattle.reader.specs.Inner.{begun, ended}
use Rattle.reader.proofs.Costed.{Costed, costed-step}
use Rattle.reader.proofs.Turn.{Stepped}
use Rattle.walk.proofs.Applied.{walked-refused, walked_end}
use Rattle.walk.proofs.Applied as walk
use Rattle.lanes.specs.Lanes.{seen}
use Rattle.lanes.proofs.InLanes.{applied, Held, lanes-applied}

abbrev pub applied_at : List ℕ → Kind → List ℕ → ℕ → ℕ
applied_at ws k a i = applied ws k (get_or a i 0) (get_or a (i + 1) 0)

module _ (n : ℕ) (ws : List ℕ) where
  held-word : ((i : ℕ) → get_or ws i 0 < 2 ^ 64) → (k : Kind) → Held ws k
  held-word small (Constant b) = tt
  held-word small (Flag i) = small i
  held-word small And = tt
  held-word small Or = tt
  held-word small Xor = tt
  held-word small Not = tt

  module _ {s : List ℕ} {entries count place depth less : ℕ} {a : List ℕ} {ors : List Bool} {starts : List ℕ}
      (w : Costed (star_values n ws) n s entries count place depth a ors starts less) where
    pub lanes_step : ((i : ℕ) → get_or ws i 0 < 2 ^ 64) → {r : Found} → Stepped n s depth place count r
        → (base : ℕ) → base + operand_count r.kind ≡ depth → base < entries
        → (v : ℕ) → v ≡ applied_at ws r.kind a base → (o : Bool) → o ≡ or_of r.kind
        → Costed (star_values n ws) n s entries (count + 1) r.next (base + 1) (set a base v) (set ors base o)
        (set starts base (begun r.kind place (get_or starts base 0))) (less + bool_byte (o && get_or ors base false))
    lanes_step small {r} f base h below v is =
        costed-step w f base h below v (is ∙ lanes-applied n ws r.kind (held-word small r.kind) (walk.applied w f base h n (le_refl n) 0 0))

    pub seen_end : length s ≤ place → seen n s ws ≡ ended depth (length s) (gives (record {
      value = get_or a 0 0;
      size = count;
      cost =
          count - less;
    }))
    seen_end h = walked_end w h 0

  pub seen-refused : (s : List ℕ) {k p : ℕ} → made n s ≡ refuses k p → seen n s ws ≡ refuses k p
  seen-refused s e = walked-refused (star_values n ws) n s e
