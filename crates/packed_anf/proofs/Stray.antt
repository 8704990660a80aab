-- Stray coefficients: with six flags or more there is no room for one, and with fewer the first word tells by its size.
-- It rests on the laws of coefficient words (laws, Packed; Room) and of bits (bits, Bit).
--   stray-none       == six flags or more
--   stray-first      == fewer than six: the first word is greater than its low bits
use mathlib.Core.Bool.{Bool, true, false, ◌&&◌, false≢true}
use mathlib.Core.List.{List}
use mathlib.Core.Path.{◌≡◌, refl, sym, ap, ◌∙◌}
use Prim.Native.Nat.{ℕ, ◌+◌, ◌-◌, ◌*◌, ◌%◌, ◌^◌, ◌≤◌, ◌<◌}
use native.Mathlib.Nat.{mod-le, mod-eq_of_lt}
use native.Mathlib.Omega.{arith}
use lib.Dec.{leb, ltb}
use lib.ListN.{get_or}
use borrow.Author.Tests.{ltb-true, ltb-false, leb-true, lt-ltb, le-ltb}
use Rattle.bits.specs.Bit.{bit}
use Rattle.bits.specs.Range.{from, any}
use Rattle.bits.proofs.Truth.{and-true-l, and_true_r}
use Rattle.bits.proofs.Range.{any-mem, mem-from}
use Rattle.bits.proofs.Bit.{bit-above, bit-mod-high, bits-lt}
use Rattle.rules.specs.Coefficient.{word_count, packed, stray}
use Rattle.laws.proofs.transform.Packed.{word_count-small, packed-at, not-stray}
use Rattle.packed_anf.proofs.Room.{word_count-full}

pub stray-none : (n : ℕ) (ws : List ℕ) → 6 ≤ n → stray n ws ≡ false
unfolding stray from any
stray-none n ws h =
    let z : 64 * word_count n - 2 ^ n ≡ 0 = omega (arith, word_count-full n h) in
    ap (λ (k : ℕ). any (packed ws) (from (2 ^ n) k)) z

module _ (n : ℕ) (ws : List ℕ) (few : n < 6) where
  -- the first word's bits are the coefficients
  first : (m : ℕ) → m < 64 → packed ws m ≡ bit (get_or ws 0 0) m
  first m h = let e : m ≡ 64 * 0 + m = omega arith in ap (packed ws) e ∙ packed-at ws 0 m h

  room : 64 * word_count n ≡ 64
  room = ap (λ (k : ℕ). 64 * k) (word_count-small n (omega arith))

  pub stray-first : get_or ws 0 0 < 2 ^ 64 → stray n ws ≡ ltb (get_or ws 0 0 % 2 ^ (2 ^ n)) (get_or ws 0 0)
  unfolding stray
  stray-first small = go (stray n ws) refl
    where
      w : ℕ
      w = get_or ws 0 0

      -- a coefficient that stands too high is lost with the word's high bits
      lost : (m : ℕ) → 2 ^ n ≤ m → bit w m ≡ true → w % 2 ^ (2 ^ n) ≡ w → ⊥
      lost m l b e = false≢true (sym (bit-mod-high w (2 ^ n) m l) ∙ ap (λ (x : ℕ). bit x m) e ∙ b)

      none : stray n ws ≡ false → (m : ℕ) → 2 ^ n ≤ m → (b : Bool) → ltb m 64 ≡ b → bit w m ≡ false
      none h m l true e = let u = ltb-true m 64 e in sym (first m u) ∙ not-stray n ws h m l (omega (arith, room))
      none h m l false e = bit-above w 64 m small (ltb-false m 64 e)

      go : (b : Bool) → stray n ws ≡ b → b ≡ ltb (w % 2 ^ (2 ^ n)) w
      go true h =
          let k = 64 * word_count n - 2 ^ n in
          let t = any-mem (packed ws) (from (2 ^ n) k) h in
          let m = t.0 in
          let i : (leb (2 ^ n) m && ltb m (2 ^ n + k)) ≡ true = sym (mem-from (2 ^ n) k m) ∙ t.1 in
          let l = leb-true (2 ^ n) m (and-true-l (leb (2 ^ n) m) (ltb m (2 ^ n + k)) i) in
          let u = ltb-true m (2 ^ n + k) (and_true_r (leb (2 ^ n) m) (ltb m (2 ^ n + k)) i) in
          let b : bit w m ≡ true = sym (first m (omega (arith, room))) ∙ t.2 in
          sym (lt-ltb (w % 2 ^ (2 ^ n)) w (omega (arith, mod-le w (2 ^ (2 ^ n)), lost m l b)))
      go false h =
          let l = bits-lt (2 ^ n) w (λ m l. none h m l (ltb m 64) refl) in
          sym (le-ltb (w % 2 ^ (2 ^ n)) w (omega (arith, mod-eq_of_lt l)))
