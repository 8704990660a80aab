-- The literals of a form in one word, counted by the binary digits of its masks' counts of ones, and its raw cost. The three digits' words are right
-- by one computed test over the masks. It rests on the laws of places and of totals (bits, Places and Sum) and on raw cost by literals (laws, Cost).
--   digit_word j          == the word whose bit m is binary digit j of the count of ones of m, for j below 3 and m below 64
--   literals-digits      == literals are counted digit by digit
--   literals-le          == they are few
--   raw-some, raw-full   == the raw cost of a form that has a mask; so by the answer of `is_empty`
--   constant-digit       == a form's constant as a number, by the answer of `constant`
use mathlib.Core.Bool.{Bool, true, false}
use mathlib.Core.List.{[], ◌∷◌}
use mathlib.Core.Path.{◌≡◌, refl, sym, ap, ◌∙◌}
use Prim.Native.Nat.{ℕ, suc, ◌+◌, ◌*◌, ◌^◌, ◌≤◌, ◌<◌}
use native.Mathlib.Nat.{lt_of_le_of_lt}
use native.Mathlib.Omega.{arith}
use lib.Bits.{bit_and, and_le_l}
use lib.Count.{ones, ones-le}
use lib.Dec.{eqb}
use lib.ListN.{length, get_or}
use borrow.Author.Tests.{eqb-true, eqb-false, lt-ltb}
use mir.Val.{bool_byte}
use Rattle.bits.specs.Bit.{bit, digit}
use Rattle.bits.specs.Range.{from, upto, all}
use Rattle.bits.specs.Sum.{sum, total}
use Rattle.bits.specs.Word.{places}
use Rattle.bits.proofs.Bit.{byte-digit}
use Rattle.bits.proofs.Places.{ones_and, length-total}
use Rattle.bits.proofs.Range.{all-mem, mem-upto}
use Rattle.bits.proofs.Sum.{plus-laws, sum-ext, sum-ext-mem, sum-swap}
use Rattle.bits.proofs.Total.{total-mul}
use Rattle.bits.proofs.Ascending.{below-mem}
use Rattle.bits.proofs.Word.{ascending-places, below-places}
use Rattle.rules.specs.Form.{literals, raw_cost}
use Rattle.rules.specs.Monomial.{constant}
use Rattle.laws.proofs.cost.Cost.{raw-literals}
use Rattle.form.specs.Masks.{masks}
use Rattle.form.specs.declared.Form.{Form}

unfoldable pub digit_word : ℕ → ℕ
digit_word j = get_or (0x6996_9669_9669_6996 ∷ 0x8117_177e_177e_7ee8 ∷ 0xfee8_e880_e880_8000 ∷ []) j 0

-- a mask's count of ones, by its digits
abbrev counted : ℕ → ℕ
counted m = total (λ j. 2 ^ j * digit (bit (digit_word j) m)) (upto 3)

cell : ℕ → Bool
unfolding digit_word from bit sum ones
cell m = eqb (ones m) (counted m)

cells : all cell (upto 64) ≡ true
unfolding all from cell
cells = refl

ones-counted : (m : ℕ) → m < 64 → ones m ≡ counted m
unfolding cell
ones-counted m h = eqb-true (ones m) (counted m) (all-mem cell (upto 64) m cells (mem-upto 64 m ∙ lt-ltb m 64 h))

module _ (w : ℕ) (h : w < 2 ^ 64) where
  pub literals-digits : literals (places 64 w) ≡ total (λ j. 2 ^ j * ones (bit_and w (digit_word j))) (upto 3)
  literals-digits =
      let l = places 64 w in
      sum-ext-mem ◌+◌ 0 ones counted l (λ m e. ones-counted m (below-mem 64 l m (below-places 64 w) e))
      ∙ sum-swap plus-laws (λ m j. 2 ^ j * digit (bit (digit_word j) m)) l (upto 3)
      ∙ sum-ext ◌+◌ 0 (λ j. total (λ m. 2 ^ j * digit (bit (digit_word j) m)) l) (λ j. 2 ^ j * ones (bit_and w (digit_word j))) (upto 3)
      (λ j. total-mul (2 ^ j) (λ m. digit (bit (digit_word j) m)) l
      ∙ ap (λ (n : ℕ). 2 ^ j * n) (sym (ones_and 64 w (digit_word j) h ∙ length-total (bit (digit_word j)) l)))

  few : (v : ℕ) → ones (bit_and w v) ≤ 64
  few v = ones-le 64 (bit_and w v) (lt_of_le_of_lt (and_le_l w v) h)

  pub literals-le : literals (places 64 w) ≤ 448
  unfolding sum from
  literals-le = omega (arith, literals-digits, few (digit_word 0), few (digit_word 1), few (digit_word 2))

  pub raw-some : (length (places 64 w) ≡ 0 → ⊥) → suc (raw_cost (places 64 w)) ≡ 2 * literals (places 64 w) + 2 * digit (constant (places 64 w))
  raw-some p = raw-literals (places 64 w) (ascending-places 64 w) (omega arith)

module _ (f : Form) where
  pub raw-full : f.word < 2 ^ 64 → {e : Bool} → e ≡ eqb (length (masks f)) 0 → e ≡ false
      → suc (raw_cost (masks f)) ≡ 2 * literals (masks f) + 2 * digit (constant (masks f))
  raw-full h e t = raw-some f.word h (eqb-false _ 0 (sym e ∙ t))

  pub constant-digit : {b : Bool} {d : ℕ} → b ≡ constant (masks f) → d ≡ bool_byte b → d ≡ digit (constant (masks f))
  constant-digit {b} e k = k ∙ byte-digit b ∙ ap digit e
