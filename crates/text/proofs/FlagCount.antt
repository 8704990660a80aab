-- The flag count of a table's digits. It rests on the definition of `flags_of` (rules, Text).
--   flags-some           == so many digits with a flag count n are 2^n, and n is at most 6
--   flags-none           == a number that is no power of two up to 64 has no flag count
--   flags-most           == 2^n is at most 64 where n is at most 6
use mathlib.Core.Bool.{Bool, true, false, not}
use mathlib.Core.List.{List, [], ◌∷◌}
use mathlib.Core.Option.{Option, none, some}
use mathlib.Core.Path.{◌≡◌, refl, sym, ap, ◌∙◌}
use Prim.Native.Nat.{ℕ, ◌+◌, ◌^◌, ◌≤◌}
use native.Mathlib.Omega.{arith}
use lib.Dec.{eqb}
use lib.Pow.{pow_mono}
use borrow.Author.Tests.{ltb-true, eqb-true, ne_eqb}
use Rattle.bits.specs.Range.{from, upto, keep, all, mem}
use Rattle.bits.proofs.Range.{mem-upto, mem-head, mem-tail, keep-true, keep-false, keep-none}
use Rattle.rules.specs.Limits.{rule_flags}
use Rattle.rules.specs.Text.{first_of, flags_of}

module _ (p : ℕ → Bool) where
  first_more : (x : ℕ) (l : List ℕ) (n : ℕ) → (first_of (keep p l) ≡ some n → (p n ≡ true) × (mem n l ≡ true)) → (b : Bool) → p x ≡ b
      → first_of (keep p (x ∷ l)) ≡ some n → (p n ≡ true) × (mem n (x ∷ l) ≡ true)
  unfolding first_of
  first_more x l n h true q e =
      let same : ◌≡◌ {A = Option ℕ} (some x) (some n) = sym (ap first_of (keep-true p x l q)) ∙ e in
      let is : x ≡ n = cc in
      (ap p (sym is) ∙ q, ap (λ (i : ℕ). mem i (x ∷ l)) (sym is) ∙ mem-head x l)
  first_more x l n h false q e = let g = h (sym (ap first_of (keep-false p x l q)) ∙ e) in (g.0, mem-tail x l n g.1)

  first-of : (l : List ℕ) (n : ℕ) → first_of (keep p l) ≡ some n → (p n ≡ true) × (mem n l ≡ true)
  unfolding first_of keep
  first-of [] n e = let z : ◌≡◌ {A = ℕ} 0 1 = cc in absurd (omega arith)
  first-of (x ∷ l) n e = first_more x l n (first-of l n) (p x) refl e

pub flags-some : (d n : ℕ) → flags_of d ≡ some n → (d ≡ 2 ^ n) × (n ≤ rule_flags)
unfolding flags_of
flags-some d n e =
    let f = first-of (λ i. eqb d (2 ^ i)) (upto (rule_flags + 1)) n e in
    (eqb-true d (2 ^ n) f.0, omega (arith, ltb-true n (rule_flags + 1) (sym (mem-upto (rule_flags + 1) n) ∙ f.1)))

module _ (d : ℕ) where
  pub flags-none : (d ≡ 1 → ⊥) → (d ≡ 2 → ⊥) → (d ≡ 4 → ⊥) → (d ≡ 8 → ⊥) → (d ≡ 16 → ⊥) → (d ≡ 32 → ⊥) → (d ≡ 64 → ⊥) → flags_of d ≡ none
  unfolding flags_of first_of from all
  flags-none a b c e f g h =
      let no : all (λ i. not (eqb d (2 ^ i))) (upto (rule_flags + 1)) ≡ true =
      rw (ne_eqb d 1 a, ne_eqb d 2 b, ne_eqb d 4 c, ne_eqb d 8 e, ne_eqb d 16 f, ne_eqb d 32 g, ne_eqb d 64 h) in
      ap first_of (keep-none (λ i. eqb d (2 ^ i)) (upto (rule_flags + 1)) no)

pub flags-most : (n : ℕ) → n ≤ rule_flags → 2 ^ n ≤ 64
flags-most n h = pow_mono h
