-- The room for a number behind a label, where it ends that is stored there, and bytes that pass a test up to a place, one after another. No proof
-- of a function needs these laws today: a page has its own text, and digits are tested by the library's `all`. They rest on the lengths of numbers
-- (Decimal), on the definition of `all` and on runs in a buffer (bits, Stored).
--   room-number, room-numbers == there is room for a text and a number of 64 bits, and for two of them, where there is for twenty digits each
--   number_short         == a number of 64 bits that is stored behind a label ends twenty bytes behind it at most
--   all_none, all_more   == the bytes before a place all pass: none, and one more
use mathlib.Core.Bool.{Bool, true}
use mathlib.Core.List.{List, ◌++◌}
use mathlib.Core.Path.{◌≡◌, refl}
use Prim.Native.Nat.{ℕ, ◌+◌, ◌^◌, ◌≤◌, ◌<◌}
use native.Mathlib.Numerals.{add-one}
use native.Mathlib.Omega.{arith}
use lib.ListN.{length, get_or, take, length-append}
use lib.Seq.{take-suc}
use Rattle.bits.specs.Range.{all}
use Rattle.bits.specs.Stored.{Room, Stored}
use Rattle.bits.proofs.Range.{all_append}
use Rattle.rules.specs.Text.{decimal}
use Rattle.text.proofs.Decimal.{length-decimal}

length-word : (k : ℕ) → k < 2 ^ 64 → length (decimal k) ≤ 20
length-word k h = length-decimal 19 k (omega arith)

pub room-number : (label : List ℕ) (k at : ℕ) (out : List ℕ) → k < 2 ^ 64 → at + length label + 20 ≤ length out → Room (label ++ decimal k) at out
room-number label k at out h r = omega (arith, length-append label (decimal k), length-word k h)

pub room-numbers : (label : List ℕ) (k : ℕ) (second : List ℕ) (j at : ℕ) (out : List ℕ) → k < 2 ^ 64 → j < 2 ^ 64
    → at + length label + length second + 40 ≤ length out → Room (label ++ decimal k ++ (second ++ decimal j)) at out
room-numbers label k second j at out h g r =
    omega (
      arith,
      length-append (label ++ decimal k) (second ++ decimal j),
      length-append label (decimal k),
      length-append second (decimal j),
      length-word k h,
      length-word j g,
    )

pub number_short : (label : List ℕ) (k : ℕ) {a b : ℕ} {out after : List ℕ} → k < 2 ^ 64 → Stored (label ++ decimal k) a b out after
    → b ≤ a + length label + 20
number_short label k h p = omega (arith, length-append label (decimal k), length-word k h)

module _ (p : ℕ → Bool) where
  pub all_none : (l : List ℕ) → all p (take 0 l) ≡ true
  unfolding all
  all_none l = refl

  pub all_more : (l : List ℕ) (i : ℕ) → i < length l → all p (take i l) ≡ true → p (get_or l i 0) ≡ true → all p (take (i + 1) l) ≡ true
  unfolding all
  all_more l i h e q = rw (add-one, take-suc l i 0, all_append, e, q)
