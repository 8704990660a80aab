-- Laws of lanes: the operations on whole words are those of the records in every lane at once. They rest on the laws of bits (bits, Bit) and of a
-- tree's values for 64 stars (laws, Stars).
--   applied ws k x y     == the lanes of a record of kind k from those of its operands, of which it uses as many as it has
--   lanes-applied        == they are those of its tree
--   lanes-told           == so where the kind is told
--   combined n ws k x y  == the lanes of a record from those of its operands, for a flag of any index
--   lanes-folds          == so a record's lanes follow its tree, whatever the walk; no proof of a function needs it today
use mathlib.Core.Bool.{Bool, true, false, not, ◌&&◌, ◌||◌}
use mathlib.Core.List.{List}
use mathlib.Core.Path.{◌≡◌, refl, sym, ap, ap₂, ◌∙◌, subst}
use Prim.Native.Nat.{ℕ, ◌-◌, ◌^◌, ◌<◌}
use native.Mathlib.Nat.{lt_of_le_of_lt, sub-le}
use lib.Bits.{bit_and, bit_or, bit_xor, and_le_l, or_lt, xor_lt}
use lib.Dec.{lit<, lit≤}
use lib.ListN.{get_or}
use Rattle.bits.specs.Bit.{◌⊕◌}
use Rattle.bits.proofs.Bit.{bit-and, bit-or, bit-xor, bit_not, bit-zero}
use Rattle.rules.specs.Record.{Kind, Constant, Flag, And, Or, Xor, Not}
use Rattle.rules.specs.Stars.{star_values}
use Rattle.rules.specs.Tree.{Tree, CO, VA, AN, OR, XO, NO, value}
use Rattle.laws.proofs.calls.Stars.{bit-star_setting, bit-star_values, star_values-lt, star_values-ext}
use Rattle.expr.specs.Answers.{kind_of}
use Rattle.expr.specs.declared.Kind as code
use Rattle.reader.specs.Inner.{join}
use Rattle.reader.proofs.Folds.{Folds}
use Rattle.walk.specs.Walked.{Applied}
use Rattle.lanes.specs.Inner.{filled}

abbrev pub applied : List ℕ → Kind → ℕ → ℕ → ℕ
applied ws (Constant b) x y = filled b
applied ws (Flag i) x y = get_or ws i 0
applied ws And x y = bit_and x y
applied ws Or x y = bit_or x y
applied ws Xor x y = bit_xor x y
applied ws Not x y = (2 ^ 64 - 1) - x

-- the word of a flag is a word
abbrev pub Held : List ℕ → Kind → Type 0
Held ws (Constant b) = Unit
Held ws (Flag i) = get_or ws i 0 < 2 ^ 64
Held ws And = Unit
Held ws Or = Unit
Held ws Xor = Unit
Held ws Not = Unit

module _ (n : ℕ) (ws : List ℕ) where
  -- ---- one record

  lanes-co : (b : Bool) → filled b ≡ star_values n ws (CO b)
  unfolding value
  lanes-co true = star_values-ext n ws (CO true) (2 ^ 64 - 1) (lit< tt) (λ j h. bit_not 64 0 j (lit< tt) h ∙ ap not (bit-zero j))
  lanes-co false = star_values-ext n ws (CO false) 0 (lit< tt) (λ j h. bit-zero j)

  lanes-va : (i : ℕ) → i < n → get_or ws i 0 < 2 ^ 64 → get_or ws i 0 ≡ star_values n ws (VA i)
  unfolding value
  lanes-va i h small = star_values-ext n ws (VA i) (get_or ws i 0) small (λ j l. sym (bit-star_setting n ws i j h))

  module _ (x y : Tree) where
    lanes-an : bit_and (star_values n ws x) (star_values n ws y) ≡ star_values n ws (AN x y)
    unfolding value
    lanes-an =
        star_values-ext n ws (AN x y) _ (lt_of_le_of_lt (and_le_l (star_values n ws x) (star_values n ws y)) (star_values-lt n ws x))
        (λ j h. bit-and (star_values n ws x) (star_values n ws y) j ∙ ap₂ ◌&&◌ (bit-star_values n ws x j h) (bit-star_values n ws y j h))

    lanes-or : bit_or (star_values n ws x) (star_values n ws y) ≡ star_values n ws (OR x y)
    unfolding value
    lanes-or =
        star_values-ext n ws (OR x y) _ (or_lt 64 (star_values n ws x) (star_values n ws y) (star_values-lt n ws x) (star_values-lt n ws y))
        (λ j h. bit-or (star_values n ws x) (star_values n ws y) j ∙ ap₂ ◌||◌ (bit-star_values n ws x j h) (bit-star_values n ws y j h))

    lanes-xo : bit_xor (star_values n ws x) (star_values n ws y) ≡ star_values n ws (XO x y)
    unfolding value
    lanes-xo =
        star_values-ext n ws (XO x y) _ (xor_lt 64 (star_values n ws x) (star_values n ws y) (star_values-lt n ws x) (star_values-lt n ws y))
        (λ j h. bit-xor (star_values n ws x) (star_values n ws y) j ∙ ap₂ ◌⊕◌ (bit-star_values n ws x j h) (bit-star_values n ws y j h))

  lanes-no : (x : Tree) → (2 ^ 64 - 1) - star_values n ws x ≡ star_values n ws (NO x)
  unfolding value
  lanes-no x =
      star_values-ext n ws (NO x) _ (lt_of_le_of_lt (sub-le (2 ^ 64 - 1) (star_values n ws x)) (lit< tt))
      (λ j h. bit_not 64 (star_values n ws x) j (star_values-lt n ws x) h ∙ ap not (bit-star_values n ws x j h))

  pub lanes-applied : (k : Kind) → Held ws k → {a b : ℕ} {x y : Tree} → Applied (star_values n ws) n k a b x y
      → applied ws k a b ≡ star_values n ws (join k x y)
  lanes-applied (Constant b) h p = lanes-co b
  lanes-applied (Flag i) h p = lanes-va i p.flag h
  lanes-applied And h {x = x} {y} p = ap₂ bit_and (p.first (lit≤ tt)) (p.second (lit≤ tt)) ∙ lanes-an x y
  lanes-applied Or h {x = x} {y} p = ap₂ bit_or (p.first (lit≤ tt)) (p.second (lit≤ tt)) ∙ lanes-or x y
  lanes-applied Xor h {x = x} {y} p = ap₂ bit_xor (p.first (lit≤ tt)) (p.second (lit≤ tt)) ∙ lanes-xo x y
  lanes-applied Not h {x = x} p = ap (λ (w : ℕ). (2 ^ 64 - 1) - w) (p.first (lit≤ tt)) ∙ lanes-no x

  pub lanes-told : {kind k : code.Kind} → kind ≡ k → Held ws (kind_of k) → {a b : ℕ} {x y : Tree}
      → Applied (star_values n ws) n (kind_of kind) a b x y → applied ws (kind_of k) a b ≡ star_values n ws (join (kind_of kind) x y)
  lanes-told {kind} {k} e h {a} {b} {x} {y} p =
      let q = subst (λ z. Applied (star_values n ws) n (kind_of z) a b x y) e p in
      lanes-applied (kind_of k) h q ∙ ap (λ z. star_values n ws (join (kind_of z) x y)) (sym e)

module _ (n : ℕ) (ws : List ℕ) where
  abbrev pub combined : Kind → ℕ → ℕ → ℕ
  combined (Constant b) x y = filled b
  combined (Flag i) x y = star_values n ws (VA i)
  combined And x y = bit_and x y
  combined Or x y = bit_or x y
  combined Xor x y = bit_xor x y
  combined Not x y = (2 ^ 64 - 1) - x

  pub lanes-folds : Folds (star_values n ws) combined
  lanes-folds (Constant b) x y a c p q = lanes-co n ws b
  lanes-folds (Flag i) x y a c p q = refl
  lanes-folds And x y a c p q = ap₂ bit_and (p (lit≤ tt)) (q (lit≤ tt)) ∙ lanes-an n ws x y
  lanes-folds Or x y a c p q = ap₂ bit_or (p (lit≤ tt)) (q (lit≤ tt)) ∙ lanes-or n ws x y
  lanes-folds Xor x y a c p q = ap₂ bit_xor (p (lit≤ tt)) (q (lit≤ tt)) ∙ lanes-xo n ws x y
  lanes-folds Not x y a c p q = ap (λ (w : ℕ). (2 ^ 64 - 1) - w) (p (lit≤ tt)) ∙ lanes-no n ws x
