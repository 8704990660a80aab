-- Numbers in bytes, low byte first: a number below 256 ^ k and its k bytes tell each other. It rests on quotient and remainder by 256, on the
-- library's laws of powers and on parts of a list (Part).
--   low_first-limit                           == bytes hold a number below that power of 256
--   low_first-append                          == bytes one after another
--   low_first-low_bytes, low_bytes-low_first     == each undoes the other
--   number-again                             == the number in a part of a list, written again
--   sets-low_bytes                            == a number stored byte by byte: one byte more
use mathlib.Core.List.{List, [], ◌∷◌, ◌++◌}
use mathlib.Core.Path.{◌≡◌, refl, sym, ap, ◌∙◌}
use Prim.Native.Nat.{ℕ, zero, suc, ◌+◌, ◌-◌, ◌*◌, ◌/◌, ◌%◌, ◌^◌, ◌≤◌, ◌<◌}
use native.Mathlib.Nat.{zero-add, mul_assoc, pow-suc, pow-succ', mod-eq_of_lt, div-eq_of_lt, mod-add-div, div-lt_iff_lt-mul}
use native.Mathlib.Nat.{add-mul-div_left, add-mul-mod_self_left}
use native.Mathlib.Omega.{arith}
use lib.Dec.{lit<}
use lib.ListN.{length, set}
use lib.Seq.{sets}
use Rattle.bits.specs.LowFirst.{low_first, low_bytes}
use Rattle.bits.specs.Part.{part}
use Rattle.bits.specs.Range.{Below}
use Rattle.bits.proofs.Part.{length_part, below-part}

pub low_first-limit : (l : List ℕ) → Below 256 l → low_first l < 256 ^ length l
unfolding low_first
low_first-limit [] h = lit< tt
low_first-limit (b ∷ l) h = rw pow-succ' (omega (arith, low_first-limit l h.1))

pub low_first-append : (a b : List ℕ) → low_first (a ++ b) ≡ low_first a + 256 ^ length a * low_first b
unfolding low_first
low_first-append [] b = omega arith
low_first-append (x ∷ a) b = rw (low_first-append a b, pow-succ', mul_assoc) (omega arith)

pub low_first-low_bytes : (k w : ℕ) → w < 256 ^ k → low_first (low_bytes k w) ≡ w
unfolding low_first low_bytes
low_first-low_bytes zero w h = omega arith
low_first-low_bytes (suc k) w h =
    rw (low_first-low_bytes k (w / 256) ((div-lt_iff_lt-mul (lit< tt)).1 (rw pow-suc at h))) (mod-add-div w 256)

pub low_bytes-low_first : (l : List ℕ) → Below 256 l → low_bytes (length l) (low_first l) ≡ l
unfolding low_first low_bytes
low_bytes-low_first [] h = refl
low_bytes-low_first (b ∷ l) h =
    rw (add-mul-mod_self_left b 256 (low_first l), mod-eq_of_lt h.0, add-mul-div_left b (low_first l) (lit< tt), div-eq_of_lt h.0, zero-add)
    (ap {B = List ℕ} (λ r. b ∷ r) (low_bytes-low_first l h.1))

-- ---- numbers in a part of a list

module _ (s : List ℕ) (p : ℕ) where
  pub number-again : Below 256 s → (k : ℕ) → p + k ≤ length s → low_bytes k (low_first (part s p k)) ≡ part s p k
  number-again small k h =
      ap (λ (n : ℕ). low_bytes n (low_first (part s p k))) (sym (length_part s p k h)) ∙ low_bytes-low_first (part s p k) (below-part s p 256 k small)

-- ---- a number stored byte by byte

pub sets-low_bytes : (out : List ℕ) (at i count w : ℕ) → suc i ≤ count
    → sets (set out (at + i) (w % 256)) (at + (i + 1)) (low_bytes (count - (i + 1)) (w / 256)) ≡ sets out (at + i) (low_bytes (count - i) w)
unfolding low_bytes
sets-low_bytes out at i count w h =
    let k = count - (i + 1) in
    let e : count - i ≡ suc k = omega arith in
    let f : at + (i + 1) ≡ suc (at + i) = omega arith in
    ap (λ (p : ℕ). sets (set out (at + i) (w % 256)) p (low_bytes k (w / 256))) f
    ∙ sym (ap (λ (j : ℕ). sets out (at + i) (low_bytes j w)) e)
