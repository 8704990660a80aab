-- Words that give way to their bits, one entry each, the last word first: what has been done down to word i, one word further, and at the end.
-- It rests on the laws of runs of stores (bits, Stores) and of coefficient words (laws, Packed; packed_anf, Room).
--   unpacked n l i                             == l with an entry a bit, from word i's first on
--   unpacked-none, unpacked-next, unpacked-all == no word yet, one word more, and all words
use mathlib.Core.List.{List, ◌++◌, map, map-map, map-append}
use mathlib.Core.Logic.{inl, inr}
use mathlib.Core.Path.{◌≡◌, sym, ap, ap₂, ◌∙◌}
use Prim.Native.Nat.{ℕ, ◌+◌, ◌-◌, ◌*◌, ◌^◌, ◌≤◌, ◌<◌, min}
use native.Mathlib.Nat.{add-zero, min-eq_left, min-eq_right}
use native.Mathlib.Omega.{arith}
use lib.ListN.{length, get_or, take, drop, length-drop}
use lib.Seq.{sets, length-take-le}
use borrow.Rule.Slice.PartMut.{put_mid}
use Rattle.bits.specs.Bit.{bit, digit}
use Rattle.bits.specs.Range.{from, upto}
use Rattle.bits.proofs.Range.{from-add, from-map}
use Rattle.rules.specs.Coefficient.{word_count, packed}
use Rattle.bits.proofs.Tabulated.{length-map-upto, get_or-map-upto, map-upto-of}
use Rattle.laws.proofs.transform.Packed.{word_count-room, packed-at}
use Rattle.packed_anf.proofs.Room.{Room, room}
use Rattle.bits.proofs.Stores.{sets-before, get_or-sets_before}
use Rattle.anf_transform.proofs.WordByWord.{part-room}
use Rattle.anf_transform.proofs.Written.{written-sets}

module _ (n : ℕ) (l : List ℕ) where
  -- k entries from place a on
  abbrev entries : ℕ → ℕ → List ℕ
  entries a k = map (λ s. digit (packed l s)) (from a k)

  abbrev pub unpacked : ℕ → List ℕ
  unpacked i = sets l (64 * i) (entries (64 * i) (2 ^ n - 64 * i))

  pub unpacked-none : l ≡ unpacked (word_count n)
  unfolding from
  unpacked-none =
      let z : 2 ^ n - 64 * word_count n ≡ 0 = omega (arith, word_count-room n) in
      sym (ap (λ (k : ℕ). sets l (64 * word_count n) (entries (64 * word_count n) k)) z)

  pub unpacked-all : unpacked 0 ≡ sets l 0 (map (λ s. digit (packed l s)) (upto (2 ^ n)))
  unpacked-all = let z : 2 ^ n - 0 ≡ 2 ^ n = omega arith in ap (λ (k : ℕ). sets l 0 (entries 0 k)) z

  get_or-unpacked : (i k : ℕ) → k < 64 * i → get_or (unpacked i) k 0 ≡ get_or l k 0
  get_or-unpacked i k h = get_or-sets_before (entries (64 * i) (2 ^ n - 64 * i)) l (64 * i) k 0 h

  -- the bits of word i
  abbrev bits : ℕ → ℕ → List ℕ
  bits i k = map (λ j. digit (bit (get_or l i 0) j)) (upto k)

  bits-entries : (i k : ℕ) → k ≤ 64 → bits i k ≡ entries (64 * i) k
  bits-entries i k h =
      map-upto-of k (λ j. digit (packed l (64 * i + j))) (bits i k) (length-map-upto k (λ j. digit (bit (get_or l i 0) j)))
      (λ j u. get_or-map-upto k (λ j. digit (bit (get_or l i 0) j)) j u ∙ ap digit (sym (packed-at l i j (omega arith))))
      ∙ sym (map-map (λ s. digit (packed l s)) (λ j. 64 * i + j) (upto k))
      ∙ ap (map (λ s. digit (packed l s))) (sym (from-map (64 * i) 0 k) ∙ ap (λ (a : ℕ). from a k) (add-zero (64 * i)))

  unpacked-more : (i : ℕ) → i < word_count n → sets (unpacked (i + 1)) (64 * i) (bits i (min (2 ^ n) 64)) ≡ unpacked i
  unfolding from
  unpacked-more i h = go (room n)
    where
      go : Room n → sets (unpacked (i + 1)) (64 * i) (bits i (min (2 ^ n) 64)) ≡ unpacked i
      go (inl s) =
          let z : 2 ^ n - 64 * (i + 1) ≡ 0 = omega arith in
          let k : min (2 ^ n) 64 ≡ 2 ^ n - 64 * i = min-eq_left {m = 64} (omega arith) ∙ omega arith in
          ap₂ (λ (a b : ℕ). sets (sets l (64 * (i + 1)) (entries (64 * (i + 1)) a)) (64 * i) (bits i b)) z k
          ∙ ap (sets l (64 * i)) (bits-entries i (2 ^ n - 64 * i) (omega arith))
      go (inr s) =
          let us = bits i 64 in
          let r = 2 ^ n - 64 * (i + 1) in
          let a : 64 * (i + 1) ≡ 64 * i + length us = omega (arith, length-map-upto 64 (λ j. digit (bit (get_or l i 0) j))) in
          let b : 64 * (i + 1) ≡ 64 * i + 64 = omega arith in
          let c : 2 ^ n - 64 * i ≡ 64 + r = omega arith in
          let whole : entries (64 * i) (2 ^ n - 64 * i) ≡ us ++ entries (64 * (i + 1)) r =
          ap (entries (64 * i)) c ∙ ap (map (λ s. digit (packed l s))) (from-add (64 * i) 64 r)
          ∙ map-append (λ s. digit (packed l s)) (from (64 * i) 64) (from (64 * i + 64) r)
          ∙ ap₂ (λ (x : List ℕ) (y : ℕ). x ++ entries y r) (sym (bits-entries i 64 (omega arith))) (sym b) in
          ap (λ (k : ℕ). sets (unpacked (i + 1)) (64 * i) (bits i k)) (min-eq_right s.0)
          ∙ ap (λ (k : ℕ). sets (sets l k (entries (64 * (i + 1)) r)) (64 * i) us) a
          ∙ sets-before us (entries (64 * (i + 1)) r) l (64 * i)
          ∙ ap (sets l (64 * i)) (sym whole)

  -- word i of such a list, whose k entries are written from place s on
  pub unpacked-next : (i s k : ℕ) (out us : List ℕ) → i < word_count n → 2 ^ n ≤ length out → out ≡ unpacked (i + 1) → s ≡ 64 * i → k ≡ min (2 ^ n) 64
      → us ≡ map (λ j. digit (bit (get_or out i 0) j)) (upto (length (take k (drop s out)))) → put_mid s k out us ≡ unpacked i
  unpacked-next i s k out us h complete e begins count given =
      let room : s + k ≤ length out = omega (arith, part-room n i h k count) in
      let size : length (take k (drop s out)) ≡ k = length-take-le k (drop s out) (omega (arith, length-drop s out)) in
      let word : get_or out i 0 ≡ get_or l i 0 = ap (λ (r : List ℕ). get_or r i 0) e ∙ get_or-unpacked (i + 1) i (omega arith) in
      let stored : us ≡ bits i (min (2 ^ n) 64) =
      given ∙ ap₂ (λ (w m : ℕ). map (λ j. digit (bit w j)) (upto m)) word (size ∙ count) in
      let many : length us ≡ k = ap length stored ∙ length-map-upto (min (2 ^ n) 64) (λ j. digit (bit (get_or l i 0) j)) ∙ sym count in
      written-sets s k out us room many ∙ ap₂ (λ (r : List ℕ) (b : ℕ). sets r b us) e begins
      ∙ ap (sets (unpacked (i + 1)) (64 * i)) stored ∙ unpacked-more i h
