-- A table's entries, 64 at a time: what a chunk's entries and those behind it are, and the word of the chunk. It rests on the words of a table
-- (WordByWord) and on the laws of `take`, `drop` and `++`.
--   chunks-all                              == where no entry is left, there is no word left
--   NextWord n i t x r, next-word           == the chunk x has word i, with the entries r behind it, and its word is that of the table
use Rattle.std.specs.Prelude.{List, ◌++◌, ◌≡◌, ℕ, ◌+◌, ◌-◌, ◌*◌, ◌^◌, ◌≤◌, ◌<◌, min, length, get_or, take, drop}
use Rattle.std.proofs.Common.{Bool, true, false, refl, arith, sym, ap, ◌∙◌, drop_at}
use Rattle.std.proofs.lemmas.List.{drop_all}
use mathlib.Core.Logic.{inl, inr}
use native.Mathlib.Nat.{min-eq_left, min-eq_right, min-le_right}
use lib.Dec.{ltb}
use lib.ListN.{length-drop, get_or-append}
use lib.Seq.{length-take-le, get_or-take, get_or-drop, drop-drop}
use borrow.Author.Tests.{ltb-true, ltb-false}
use Rattle.bits.specs.Bit.{bit}
use Rattle.bits.specs.Range.{keep, upto}
use Rattle.bits.specs.Word.{word}
use Rattle.bits.proofs.Range.{keep-ext, mem-upto}
use Rattle.rules.specs.Coefficient.{word_count, words}
use Rattle.rules.specs.Table.{entry}
use Rattle.laws.proofs.transform.Packed.{word_count-room}
use Rattle.packed_anf.proofs.Room.{Room, room}
use Rattle.anf_transform.proofs.WordByWord.{part-word}

pub record NextWord (n i : ℕ) (t x r : List ℕ) : Type 0 where
  pub place : i < word_count n
  pub rest : r ≡ drop (64 * (i + 1)) (take (2 ^ n) t)
  pub word_is : word (keep (entry x) (upto (length x))) ≡ get_or (words n (entry t)) i 0

module _ (n i : ℕ) (t l : List ℕ) (complete : 2 ^ n ≤ length t) (from : l ≡ drop (64 * i) (take (2 ^ n) t)) where
  whole : List ℕ
  whole = take (2 ^ n) t

  left : length l ≡ 2 ^ n - 64 * i
  left = ap length from ∙ length-drop (64 * i) (take (2 ^ n) t) ∙ ap (λ (k : ℕ). k - 64 * i) (length-take-le (2 ^ n) t complete)

  pub chunks-all : length l ≡ 0 → word_count n ≤ i
  unfolding word_count
  chunks-all e = omega (arith, left)

  module _ (x r : List ℕ) (parts : l ≡ x ++ r) (size : length x ≡ min 64 (length l)) (some : 0 < length l) where
    chunk-place : i < word_count n
    chunk-place = omega (arith, left, word_count-room n)

    behind : (k : ℕ) → length x ≡ k → r ≡ drop (64 * i + k) whole
    unfolding whole
    behind k e = sym (drop_at x r k e) ∙ ap (drop k) (sym parts ∙ from) ∙ drop-drop k (64 * i) whole

    chunk-rest : r ≡ drop (64 * (i + 1)) (take (2 ^ n) t)
    unfolding whole
    chunk-rest = go (ltb (2 ^ n) (64 * (i + 1))) refl
      where
        go : (b : Bool) → ltb (2 ^ n) (64 * (i + 1)) ≡ b → r ≡ drop (64 * (i + 1)) (take (2 ^ n) t)
        go true e =
            let h = ltb-true (2 ^ n) _ e in
            let k : length x ≡ length l = size ∙ min-eq_right {n = length l} (omega (arith, left)) in
            behind (length l) k ∙ drop_all _ whole (omega (arith, length-take-le (2 ^ n) t complete, left))
            ∙ sym (drop_all _ whole (omega (arith, length-take-le (2 ^ n) t complete)))
        go false e =
            let h = ltb-false (2 ^ n) _ e in
            let k : length x ≡ 64 = size ∙ min-eq_left {m = length l} (omega (arith, left)) in
            behind 64 k ∙ ap (λ (m : ℕ). drop m whole) (omega arith)

    count : length x ≡ min (2 ^ n) 64
    count = size ∙ ap (min 64) left ∙ go (room n)
      where
        go : Room n → min 64 (2 ^ n - 64 * i) ≡ min (2 ^ n) 64
        go (inl h) =
            let z : 2 ^ n - 64 * i ≡ 2 ^ n = omega (arith, chunk-place) in
            rw z (min-eq_right {n = 2 ^ n} (omega arith) ∙ sym (min-eq_left {m = 64} (omega arith)))
        go (inr h) = min-eq_left (omega (arith, chunk-place)) ∙ sym (min-eq_right h.0)

    chunk-word : word (keep (entry x) (upto (length x))) ≡ get_or (words n (entry t)) i 0
    unfolding whole
    chunk-word =
        ap word
        (keep-ext (entry x) (λ j. entry t (64 * i + j)) (upto (length x))
        (λ j m. ap (λ (w : ℕ). bit w 0) (same j (ltb-true j (length x) (sym (mem-upto (length x) j) ∙ m)))))
        ∙ ap (λ (k : ℕ). word (keep (λ j. entry t (64 * i + j)) (upto k))) count
        ∙ part-word n i chunk-place (entry t)
      where
        same : (j : ℕ) → j < length x → get_or x j 0 ≡ get_or t (64 * i + j) 0
        same j h =
            sym (get_or-append x r 0 j h) ∙ ap (λ (l : List ℕ). get_or l j 0) (sym parts ∙ from) ∙ get_or-drop (64 * i) whole j 0
            ∙ get_or-take (2 ^ n) t (64 * i + j) 0 (omega (arith, left, size, min-le_right 64 (length l)))

    pub next-word : NextWord n i t x r
    next-word = record { place = chunk-place; rest = chunk-rest; word_is = chunk-word }
