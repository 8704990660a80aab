-- The XOR over subsets flag by flag: with no flag it is the function, each further flag adds one turn of `along`, and with all flags it is the
-- coefficient. It rests on the coefficient's split along the highest flag (laws, Mobius) and on the laws of bits (bits, Bit).
--   along-ext                  == functions that agree up to m
--   lowest-block               == at a mask cut above its k lowest flags
--   lowest-zero, lowest_step   == no flag, and one flag more
--   lowest-all                 == all flags
--   holds-coefficient          == words that hold the XOR for n flags or more hold the coefficients of n flags
use mathlib.Core.Bool.{Bool, true, false, ◌&&◌}
use mathlib.Core.List.{List}
use mathlib.Core.Path.{◌≡◌, refl, sym, ap, ap₂, ◌∙◌}
use Prim.Native.Nat.{ℕ, suc, ◌+◌, ◌-◌, ◌*◌, ◌/◌, ◌%◌, ◌^◌, ◌≤◌, ◌<◌}
use native.Mathlib.Nat.{mod-lt, lt_of_lt_of_le, pow-succ', two-pow-succ, mul_assoc}
use native.Mathlib.Omega.{arith}
use lib.ListN.{length}
use lib.Pow.{pow_pos, pow_mono, split, high, low}
use Rattle.bits.specs.Bit.{◌⊕◌, bit, digit}
use Rattle.bits.proofs.Truth.{xor-false, xor_comm}
use Rattle.bits.proofs.Bit.{mod-pow-suc}
use Rattle.rules.specs.Coefficient.{coefficient, word_count, packed}
use Rattle.laws.proofs.transform.Mobius.{coefficient-zero, coefficient-low, coefficient-high, coefficient-lower, coefficient-ext}
use Rattle.laws.proofs.transform.Packed.{word_count-room}
use Rattle.anf_transform.specs.inner.Flag.{along, lowest, Holds}

pub along-ext : (k : ℕ) (f g : ℕ → Bool) (m : ℕ) → ((i : ℕ) → i ≤ m → f i ≡ g i) → along k f m ≡ along k g m
unfolding along
along-ext k f g m h = ap₂ (λ (a b : Bool). a ⊕ (bit m k && b)) (h m (omega arith)) (h (m - 2 ^ k) (omega arith))

pub lowest-block : (k : ℕ) (f : ℕ → Bool) (a r : ℕ) → r < 2 ^ k → lowest k f (a * 2 ^ k + r) ≡ coefficient k (λ s. f (a * 2 ^ k + s)) r
unfolding lowest
lowest-block k f a r h = ap₂ (λ (b t : ℕ). coefficient k (λ s. f (b * 2 ^ k + s)) t) (high a k h) (low a k h)

pub lowest-zero : (f : ℕ → Bool) (m : ℕ) → lowest 0 f m ≡ f m
unfolding lowest
lowest-zero f m = coefficient-zero (λ s. f (m / 1 * 1 + s)) (m % 1) ∙ ap f (omega arith)

-- a mask in three parts: a above flag k, the flag, and r below it
module _ (k : ℕ) (f : ℕ → Bool) (a r : ℕ) (h : r < 2 ^ k) where
  double : a * 2 ^ suc k ≡ a * 2 * 2 ^ k
  double = ap (λ (x : ℕ). a * x) (pow-succ' 2 k) ∙ sym (mul_assoc a 2 (2 ^ k))

  without : lowest k f (a * 2 ^ suc k + r) ≡ coefficient k (λ s. f (a * 2 ^ suc k + s)) r
  without = rw double (lowest-block k f (a * 2) r h)

  with-flag : lowest k f (a * 2 ^ suc k + (2 ^ k + r)) ≡ coefficient k (λ s. f (a * 2 ^ suc k + (2 ^ k + s))) r
  with-flag =
      let e : (s : ℕ) → a * 2 ^ suc k + (2 ^ k + s) ≡ (a * 2 + 1) * 2 ^ k + s = λ s. omega (arith, double) in
      ap (lowest k f) (e r) ∙ lowest-block k f (a * 2 + 1) r h
      ∙ coefficient-ext k (λ s. f ((a * 2 + 1) * 2 ^ k + s)) (λ s. f (a * 2 ^ suc k + (2 ^ k + s))) r (λ s l. ap f (sym (e s)))

pub lowest_step : (k : ℕ) (f : ℕ → Bool) (m : ℕ) → lowest (suc k) f m ≡ along k (lowest k f) m
unfolding along
lowest_step k f m = go (bit m k) refl
  where
    a : ℕ
    a = m / 2 ^ suc k

    r : ℕ
    r = m % 2 ^ k

    small : r < 2 ^ k
    small = mod-lt m (pow_pos k)

    cut : (b : Bool) → bit m k ≡ b → m ≡ a * 2 ^ suc k + (digit b * 2 ^ k + r)
    cut b e = omega (arith, split m (suc k), mod-pow-suc m k, ap (λ (x : Bool). digit x * 2 ^ k) e)

    go : (b : Bool) → bit m k ≡ b → lowest (suc k) f m ≡ lowest k f m ⊕ (bit m k && lowest k f (m - 2 ^ k))
    go true e =
        let parts : m ≡ a * 2 ^ suc k + (2 ^ k + r) = omega (arith, cut true e) in
        let less : m - 2 ^ k ≡ a * 2 ^ suc k + r = omega arith in
        let g : ℕ → Bool = λ s. f (a * 2 ^ suc k + s) in
        ap (lowest (suc k) f) parts ∙ lowest-block (suc k) f a (2 ^ k + r) (omega (arith, small, two-pow-succ k)) ∙ coefficient-high k g r small
        ∙ xor_comm (coefficient k g r) (coefficient k (λ s. g (2 ^ k + s)) r)
        ∙ ap₂ ◌⊕◌ (sym (ap (lowest k f) parts ∙ with-flag k f a r small)) (sym (ap₂ ◌&&◌ e (ap (lowest k f) less ∙ without k f a r small)))
    go false e =
        let parts : m ≡ a * 2 ^ suc k + r = omega (arith, cut false e) in
        ap (lowest (suc k) f) parts ∙ lowest-block (suc k) f a r (omega (arith, small, two-pow-succ k))
        ∙ coefficient-low k (λ s. f (a * 2 ^ suc k + s)) r small
        ∙ sym (ap (lowest k f) parts ∙ without k f a r small)
        ∙ sym (ap (λ (b : Bool). lowest k f m ⊕ (b && lowest k f (m - 2 ^ k))) e ∙ xor-false (lowest k f m))

pub lowest-all : (n : ℕ) (f : ℕ → Bool) (m : ℕ) → m < 2 ^ n → lowest n f m ≡ coefficient n f m
lowest-all n f m h =
    ap (lowest n f) (omega arith) ∙ lowest-block n f 0 m h
    ∙ coefficient-ext n (λ s. f (0 * 2 ^ n + s)) f m (λ s l. ap f (omega arith))

pub holds-coefficient : (n k : ℕ) (f : ℕ → Bool) (ws : List ℕ) → n ≤ k → length ws ≡ word_count n → Holds (lowest k f) ws
    → (m : ℕ) → m < 2 ^ n → packed ws m ≡ coefficient n f m
holds-coefficient n k f ws l e h m s =
    h m (omega (arith, word_count-room n)) ∙ lowest-all k f m (lt_of_lt_of_le s (pow_mono l)) ∙ coefficient-lower n k f m l s
