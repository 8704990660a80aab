-- One coefficient more is 1 where its bit is set in the word that holds it, and no other changes.
-- It rests on the laws of bits (bits, Bit) and on those of stores into a list (lib.Seq).
--   raised           == the words after that store
use mathlib.Core.Bool.{Bool, true, false, ◌||◌, or_comm}
use mathlib.Core.List.{List}
use mathlib.Core.Path.{◌≡◌, refl, sym, ap, ap₂, ◌∙◌}
use Prim.Native.Nat.{ℕ, ◌/◌, ◌%◌, ◌^◌, ◌<◌}
use native.Mathlib.Omega.{arith}
use lib.Bits.{bit_or}
use lib.Dec.{eqb}
use lib.ListN.{length, get_or, set, length-set}
use lib.Seq.{get_or-set_same, get_or-set_other}
use borrow.Author.Tests.{eqb-true, eqb-false, eq-eqb, ne_eqb}
use Rattle.bits.specs.Bit.{bit}
use Rattle.bits.proofs.Bit.{bit-or, bit-pow}
use Rattle.rules.specs.Coefficient.{packed}
use Rattle.packed_anf.specs.Raised.{Raised}

-- two numbers of one quotient are equal where their remainders are
eqb-rem : (k m : ℕ) → k / 64 ≡ m / 64 → eqb (k % 64) (m % 64) ≡ eqb k m
eqb-rem k m h = go (eqb k m) refl
  where
    go : (b : Bool) → eqb k m ≡ b → eqb (k % 64) (m % 64) ≡ b
    go true e = let q = eqb-true k m e in eq-eqb (k % 64) (m % 64) (omega arith)
    go false e = ne_eqb (k % 64) (m % 64) (λ r. eqb-false k m e (omega arith))

module _ (ws : List ℕ) (m : ℕ) (h : m / 64 < length ws) where
  w : ℕ
  w = get_or ws (m / 64) 0

  -- the word that holds coefficient m, with its bit set
  v : ℕ
  v = bit_or w (2 ^ (m % 64))

  packed-stored : (k : ℕ) → packed (set ws (m / 64) v) k ≡ (eqb k m || packed ws k)
  unfolding packed w v
  packed-stored k = go (eqb (k / 64) (m / 64)) refl
    where
      go : (b : Bool) → eqb (k / 64) (m / 64) ≡ b → packed (set ws (m / 64) v) k ≡ (eqb k m || packed ws k)
      go true e =
          let q = eqb-true (k / 64) (m / 64) e in
          ap (λ (i : ℕ). bit (get_or (set ws (m / 64) v) i 0) (k % 64)) q
          ∙ ap (λ (x : ℕ). bit x (k % 64)) (get_or-set_same ws (m / 64) v 0 h)
          ∙ bit-or w (2 ^ (m % 64)) (k % 64)
          ∙ or_comm (bit w (k % 64)) (bit (2 ^ (m % 64)) (k % 64))
          ∙ ap₂ ◌||◌ (bit-pow (m % 64) (k % 64) ∙ eqb-rem k m q) (ap (λ (i : ℕ). bit (get_or ws i 0) (k % 64)) (sym q))
      go false e =
          let n = eqb-false (k / 64) (m / 64) e in
          ap (λ (x : ℕ). bit x (k % 64)) (get_or-set_other ws (m / 64) (k / 64) v 0 n)
          ∙ ap (λ (b : Bool). b || packed ws k) (sym (ne_eqb k m (λ q. n (ap (λ (x : ℕ). x / 64) q))))

  pub raised : Raised ws m (set ws (m / 64) (bit_or (get_or ws (m / 64) 0) (2 ^ (m % 64))))
  unfolding w v
  raised = record { count = length-set ws (m / 64) v; coefficients = packed-stored }
