-- The XOR over subsets between words: to XOR each word that has bit j in its place with the word 2 ^ j places before is one flag, 6 + j, of the
-- coefficients in the words, and block after block of 2 ^ (j + 1) words does that for all. It rests on the laws of bits (bits, Bit and Mask), of
-- packed coefficients (laws, Packed) and of one flag (Flag).
--   joined-low, joined-high    == a word whose place lacks bit j, and one whose place has it
--   pairs-all, pairs-room      == the pairs of halves are all words, and each one ends in the words
--   joined-next                == one pair more is joined, in the words
--   joined-part                == so where the pair is changed as a part of them
--   holds-joined, holds-next   == words that are all joined at bit j hold one flag more
use mathlib.Core.Bool.{Bool, true, false, ◌&&◌}
use mathlib.Core.List.{List}
use mathlib.Core.Path.{◌≡◌, refl, sym, ap, ap₂, ◌∙◌}
use Prim.Native.Nat.{ℕ, suc, ◌+◌, ◌-◌, ◌*◌, ◌/◌, ◌%◌, ◌^◌, ◌≤◌, ◌<◌}
use native.Mathlib.Nat.{add-zero, mul-le-mul_left, pow-succ'}
use native.Mathlib.Omega.{arith}
use lib.Bits.{bit_xor}
use lib.Dec.{ltb, eqb}
use lib.ListN.{length, get_or, take, drop, length-drop}
use lib.Pow.{pow-add}
use lib.Seq.{length-take-le}
use borrow.Rule.Slice.PartMut.{put_mid}
use borrow.Author.Tests.{ltb-true, ltb-false}
use Rattle.bits.specs.Bit.{◌⊕◌, bit}
use Rattle.bits.proofs.Truth.{xor-false}
use Rattle.bits.proofs.Bit.{bit-first, bit_up, bit-shr, bit-xor}
use Rattle.bits.proofs.Mask.{within-le, within-pow}
use Rattle.rules.specs.Coefficient.{packed}
use Rattle.laws.proofs.transform.Packed.{packed-at}
use Rattle.anf_transform.specs.inner.Change.{Changed}
use Rattle.anf_transform.specs.inner.Flag.{along, lowest, pair_xor, joined, Holds}
use Rattle.anf_transform.proofs.Written.{part-word, written-same, written-before, written-inside, written-after}
use Rattle.anf_transform.proofs.Flag.{lowest_step}

module _ (j : ℕ) (ws : List ℕ) (i : ℕ) where
  pub joined-low : bit i j ≡ false → joined j ws i ≡ get_or ws i 0
  unfolding joined
  joined-low e = ap (λ (b : Bool). elim b as (λ _. ℕ) [ true ↦ pair_xor (2 ^ j) ws i | false ↦ get_or ws i 0 ]) e

  pub joined-high : bit i j ≡ true → joined j ws i ≡ pair_xor (2 ^ j) ws i
  unfolding joined
  joined-high e = ap (λ (b : Bool). elim b as (λ _. ℕ) [ true ↦ pair_xor (2 ^ j) ws i | false ↦ get_or ws i 0 ]) e

bit-block : (j a r : ℕ) → r < 2 ^ j → bit (a * 2 ^ j + r) j ≡ eqb (a % 2) 1
bit-block j a r h = ap (bit (a * 2 ^ j + r)) (sym (add-zero j)) ∙ bit_up a j r 0 h ∙ bit-first a

-- the words of the first i pairs of halves are joined
abbrev Joined : ℕ → List ℕ → ℕ → List ℕ → Type 0
Joined j ws i vs = Changed 0 (2 * 2 ^ j * i) (joined j ws) ws vs

module _ (j n : ℕ) (h : j < n) where
  pub pairs-all : 2 * 2 ^ j * 2 ^ (n - 1 - j) ≡ 2 ^ n
  pairs-all =
      let e : n ≡ suc j + (n - 1 - j) = omega arith in
      ap (λ (x : ℕ). x * 2 ^ (n - 1 - j)) (sym (pow-succ' 2 j)) ∙ sym (ap (λ (x : ℕ). 2 ^ x) e ∙ pow-add 2 (suc j) (n - 1 - j))

  pub pairs-room : (i : ℕ) → i < 2 ^ (n - 1 - j) → 2 * 2 ^ j * i + 2 * 2 ^ j ≤ 2 ^ n
  pairs-room i l =
      let most : i + 1 ≤ 2 ^ (n - 1 - j) = omega arith in
      omega (arith, pairs-all, mul-le-mul_left (2 * 2 ^ j) most)

-- bit j of a place in the first half of pair i, and in its second
flag : (j i m r b : ℕ) → m ≡ (i * 2 + b) * 2 ^ j + r → b < 2 → r < 2 ^ j → bit m j ≡ eqb b 1
flag j i m r b e l h =
    let d : (i * 2 + b) % 2 ≡ b = omega arith in
    ap (λ (x : ℕ). bit x j) e ∙ bit-block j (i * 2 + b) r h ∙ ap (λ (x : ℕ). eqb x 1) d

-- one pair more, which begins at place s
module _ (j i s : ℕ) (ws vs : List ℕ) (t : Joined j ws i vs) (begins : s ≡ 2 * 2 ^ j * i) where
  pub joined-next : (us : List ℕ) → Changed (s + 2 ^ j) (s + 2 * 2 ^ j) (pair_xor (2 ^ j) vs) vs us → Joined j ws (i + 1) us
  joined-next us u = record {
    same = u.same ∙ t.same;
    before = λ m l. absurd (omega arith);
    here = λ m z l. go m (omega arith) (ltb m s) refl;
    after = λ m l. u.after m (omega arith) ∙ t.after m (omega arith);
  }
    where
      later : (m : ℕ) → m < s + 2 * 2 ^ j → s ≤ m → (b : Bool) → ltb m (s + 2 ^ j) ≡ b → get_or us m 0 ≡ joined j ws m
      later m l k true e =
          let h = ltb-true m (s + 2 ^ j) e in
          u.before m h ∙ t.after m (omega arith) ∙ sym (joined-low j ws m (flag j i m (m - s) 0 (omega arith) (omega arith) (omega arith)))
      later m l k false e =
          let h = ltb-false m (s + 2 ^ j) e in
          u.here m h l ∙ ap₂ bit_xor (t.after m (omega arith)) (t.after (m - 2 ^ j) (omega arith))
          ∙ sym (joined-high j ws m (flag j i m (m - s - 2 ^ j) 1 (omega arith) (omega arith) (omega arith)))

      go : (m : ℕ) → m < s + 2 * 2 ^ j → (b : Bool) → ltb m s ≡ b → get_or us m 0 ≡ joined j ws m
      go m l true e = let h = ltb-true m s e in u.before m (omega arith) ∙ t.here m (omega arith) (omega arith)
      go m l false e = later m l (ltb-false m s e) (ltb m (s + 2 ^ j)) refl

-- one pair more: its words, from place s on, are k, and each half has d
module _ (j i s k d : ℕ) (ws vs us : List ℕ) (t : Joined j ws i vs) (begins : s ≡ 2 * 2 ^ j * i) (half : d ≡ 2 ^ j)
    (size : k ≡ 2 * d) (within : s + k ≤ length ws)
    (u : Changed d (2 * d) (pair_xor d (take k (drop s vs))) (take k (drop s vs)) us) where
  room : s + k ≤ length vs
  room = omega (arith, t.same)

  part : length us ≡ k
  part = u.same ∙ length-take-le k (drop s vs) (omega (arith, length-drop s vs, room))

  after : List ℕ
  after = put_mid s k vs us

  inside : (r : ℕ) → r < k → get_or after (s + r) 0 ≡ joined j ws (s + r)
  unfolding after
  inside r h = go (ltb r (2 ^ j)) refl
    where
      word : (q : ℕ) → q < k → get_or (take k (drop s vs)) q 0 ≡ get_or ws (s + q) 0
      word q l = part-word s k vs q 0 l ∙ t.after (s + q) (omega arith)

      go : (b : Bool) → ltb r (2 ^ j) ≡ b → get_or after (s + r) 0 ≡ joined j ws (s + r)
      go true e =
          let l = ltb-true r (2 ^ j) e in
          written-inside s k vs us room part r h ∙ u.before r (omega arith) ∙ word r h
          ∙ sym (joined-low j ws (s + r) (flag j i (s + r) r 0 (omega arith) (omega arith) l))
      go false e =
          let l = ltb-false r (2 ^ j) e in
          let back : s + r - 2 ^ j ≡ s + (r - d) = omega arith in
          written-inside s k vs us room part r h ∙ u.here r (omega arith) (omega arith)
          ∙ ap₂ bit_xor (word r h) (word (r - d) (omega arith) ∙ ap (λ (x : ℕ). get_or ws x 0) (sym back))
          ∙ sym (joined-high j ws (s + r) (flag j i (s + r) (r - 2 ^ j) 1 (omega arith) (omega arith) (omega arith)))

  pub joined-part : Joined j ws (i + 1) (put_mid s k vs us)
  unfolding after
  joined-part = record {
    same = written-same s k vs us room part ∙ t.same;
    before = λ m l. absurd (omega arith);
    here = λ m z l. go m l (ltb m s) refl;
    after = λ m l. written-after s k vs us room part m (omega arith) ∙ t.after m (omega arith);
  }
    where
      go : (m : ℕ) → m < 2 * 2 ^ j * (i + 1) → (b : Bool) → ltb m s ≡ b → get_or (put_mid s k vs us) m 0 ≡ joined j ws m
      go m l true e =
          let h = ltb-true m s e in
          written-before s k vs us room part m h ∙ t.here m (omega arith) (omega arith)
      go m l false e =
          let h = ltb-false m s e in
          let q : s + (m - s) ≡ m = omega arith in
          ap (λ (x : ℕ). get_or (put_mid s k vs us) x 0) (sym q) ∙ inside (m - s) (omega arith) ∙ ap (joined j ws) q

pub holds-joined : (j : ℕ) (f : ℕ → Bool) (ws vs : List ℕ) → Changed 0 (length ws) (joined j ws) ws vs → Holds f ws → Holds (along (6 + j) f) vs
unfolding along packed
holds-joined j f ws vs c h m l = ap (λ (w : ℕ). bit w b) (c.here i (omega arith) (omega (arith, c.same))) ∙ go (bit i j) refl
  where
    i : ℕ
    i = m / 64

    b : ℕ
    b = m % 64

    here : packed ws m ≡ f m
    here = h m (omega (arith, c.same))

    place : (t : Bool) → bit i j ≡ t → bit m (6 + j) ≡ t
    place t e = sym (bit-shr m 6 j) ∙ e

    go : (t : Bool) → bit i j ≡ t → bit (joined j ws i) b ≡ f m ⊕ (bit m (6 + j) && f (m - 2 ^ (6 + j)))
    go true e =
        let size : 2 ^ (6 + j) ≡ 64 * 2 ^ j = pow-add 2 6 j in
        let room : 2 ^ j ≤ i = within-le (2 ^ j) i (within-pow j i ∙ e) in
        let back : m - 2 ^ (6 + j) ≡ 64 * (i - 2 ^ j) + b = omega arith in
        let there : bit (get_or ws (i - 2 ^ j) 0) b ≡ f (m - 2 ^ (6 + j)) =
        sym (packed-at ws (i - 2 ^ j) b (omega arith)) ∙ ap (packed ws) (sym back) ∙ h (m - 2 ^ (6 + j)) (omega (arith, c.same)) in
        ap (λ (w : ℕ). bit w b) (joined-high j ws i e) ∙ bit-xor (get_or ws i 0) (get_or ws (i - 2 ^ j) 0) b
        ∙ ap₂ ◌⊕◌ here (there ∙ sym (ap (λ (t : Bool). t && f (m - 2 ^ (6 + j))) (place true e)))
    go false e =
        ap (λ (w : ℕ). bit w b) (joined-low j ws i e) ∙ here
        ∙ sym (ap (λ (t : Bool). f m ⊕ (t && f (m - 2 ^ (6 + j)))) (place false e) ∙ xor-false (f m))

pub holds-next : (j : ℕ) (f : ℕ → Bool) (ws vs : List ℕ) → Changed 0 (length ws) (joined j ws) ws vs
    → Holds (lowest (6 + j) f) ws → Holds (lowest (6 + (j + 1)) f) vs
holds-next j f ws vs c h m l =
    let e : 6 + (j + 1) ≡ suc (6 + j) = omega arith in
    holds-joined j (lowest (6 + j) f) ws vs c h m l ∙ sym (lowest_step (6 + j) f m) ∙ ap (λ (k : ℕ). lowest k f m) (sym e)
