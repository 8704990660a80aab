-- The records of a line in turn, by the places of its spaces: what a walk along its parts finds at a part, and what it leaves for the next. No proof
-- of a function needs these laws today: the code goes by the parts themselves (Records). They rest on PartsAt and on the bytes of a record
-- (Records).
--   piece l start end, rest l start  == the part from one place to another, and the parts from a place on
--   rule-record                      == where all parts are records the first is
--   rule-bad, rule-last, rule-more   == whether all parts from a part on are records
--   bytes-last, bytes-more           == their bytes
--   length-piece                     == as many bytes as the part has
--   number-last, number-here, number_more == the number of the record of a place
use mathlib.Core.Bool.{Bool, true, false, ◌&&◌}
use mathlib.Core.List.{List, [], ◌++◌, append-nil}
use mathlib.Core.Path.{◌≡◌, refl, sym, ap, ◌∙◌}
use Prim.Native.Nat.{ℕ, suc, ◌+◌, ◌-◌, ◌≤◌, ◌<◌}
use native.Mathlib.Omega.{arith}
use lib.Dec.{ltb}
use lib.ListN.{length, take, drop}
use borrow.Author.Tests.{lt-ltb, le-ltb}
use Rattle.bits.specs.Range.{all}
use Rattle.bits.specs.Sum.{sum}
use Rattle.bits.proofs.Truth.{and-true-l}
use Rattle.examination_text.specs.Notation.{split, is_record, record_bytes, expression, record_of}
use Rattle.examination_text.specs.inner.PartAt.{others, Part}
use Rattle.examination_text.proofs.Records.{length-bytes}
use Rattle.examination_text.proofs.PartsAt.{part-last, part-more, length_part}

-- the number of the record, by whether the place lies in the first
abbrev turn : List ℕ → List (List ℕ) → ℕ → Bool → ℕ
turn t ts p b = elim b [ true ↦ 1 | false ↦ suc (record_of ts (p - length (record_bytes t))) ]

abbrev pub piece : List ℕ → ℕ → ℕ → List ℕ
piece l start end = take (end - start) (drop start l)

abbrev pub rest : List ℕ → ℕ → List (List ℕ)
rest l start = split 32 (drop start l)

module _ {l : List ℕ} {start end : ℕ} (p : Part 32 l start end) where
  pub rule-record : all is_record (rest l start) ≡ true → is_record (piece l start end) ≡ true
  unfolding all
  rule-record e = and-true-l (is_record (piece l start end)) (all is_record (others 32 l end)) (ap (all is_record) (sym p.parts) ∙ e)

  pub rule-bad : is_record (piece l start end) ≡ false → all is_record (rest l start) ≡ false
  unfolding all
  rule-bad e = ap (all is_record) p.parts ∙ ap (λ (b : Bool). b && all is_record (others 32 l end)) e

  pub rule-last : is_record (piece l start end) ≡ true → end ≡ length l → all is_record (rest l start) ≡ true
  unfolding all
  rule-last e q = ap (all is_record) (part-last p q) ∙ ap (λ (b : Bool). b && true) e

  pub rule-more : is_record (piece l start end) ≡ true → (end ≡ length l → ⊥) → all is_record (rest l start) ≡ all is_record (rest l (end + 1))
  unfolding all
  rule-more e q = ap (all is_record) (part-more p q) ∙ ap (λ (b : Bool). b && all is_record (rest l (end + 1))) e

  pub bytes-last : end ≡ length l → expression (rest l start) ≡ record_bytes (piece l start end)
  unfolding expression sum
  bytes-last q = ap expression (part-last p q) ∙ append-nil (record_bytes (piece l start end))

  pub bytes-more : (end ≡ length l → ⊥) → expression (rest l start) ≡ record_bytes (piece l start end) ++ expression (rest l (end + 1))
  unfolding expression sum
  bytes-more q = ap expression (part-more p q)

  pub length-piece : length (record_bytes (piece l start end)) ≡ end - start
  length-piece = length-bytes (piece l start end) ∙ length_part p

  module _ (at : ℕ) where
    pub number-here : at < end - start → record_of (rest l start) at ≡ 1
    unfolding record_of
    number-here h =
        ap (λ (ts : List (List ℕ)). record_of ts at) p.parts
        ∙ ap (turn (piece l start end) (others 32 l end) at) (lt-ltb at (length (record_bytes (piece l start end))) (omega (arith, length-piece)))

    pub number-last : end ≡ length l → record_of (rest l start) at ≡ 1
    unfolding record_of
    number-last q = ap (λ (ts : List (List ℕ)). record_of ts at) (part-last p q) ∙ go (ltb at (length (record_bytes (piece l start end))))
      where
        go : (b : Bool) → turn (piece l start end) [] at b ≡ 1
        go true = refl
        go false = refl

    pub number_more : end - start ≤ at → (end ≡ length l → ⊥) → record_of (rest l start) at ≡ suc (record_of (rest l (end + 1)) (at - (end - start)))
    unfolding record_of
    number_more h q =
        ap (λ (ts : List (List ℕ)). record_of ts at) (part-more p q)
        ∙ ap (turn (piece l start end) (rest l (end + 1)) at) (le-ltb at (length (record_bytes (piece l start end))) (omega (arith, length-piece)))
        ∙ ap (λ (k : ℕ). suc (record_of (rest l (end + 1)) (at - k))) length-piece
