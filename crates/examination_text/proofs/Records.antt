-- Records in the notation, by their length and their bytes, and those of a line in turn. It rests on the definitions of Notation.
--   record-short, record-long        == a record has two bytes or three
--   record-parts                     == such a text is one by its letters and its digit
--   record-size, record-digit        == what a record has: two bytes or three, the third a digit
--   bytes-two, bytes-three           == its bytes in an expression
--   length-bytes                     == as many as the text has
--   texts-none, texts-some           == the empty line has no record; another has its parts at spaces
--   length-texts                     == no more records than bytes and one
--   rule-first, expression-first     == all are records by the first and the others, and the bytes of the first
--   length-parts, length-expression  == no more than the bytes, or the line, have
--   number-here, number_more         == the place lies in the first record's bytes, or behind them
use mathlib.Core.Bool.{Bool, true, false, ◌&&◌, and-false}
use mathlib.Core.List.{List, [], ◌∷◌, ◌++◌, map}
use mathlib.Core.Path.{◌≡◌, refl, sym, ap, ap₂, ◌∙◌}
use Prim.Native.Nat.{ℕ, suc, ◌+◌, ◌-◌, ◌≤◌, ◌<◌}
use native.Mathlib.Numerals.{add-one}
use native.Mathlib.Omega.{arith}
use lib.Dec.{eqb, leb}
use lib.ListN.{length, get_or, take, drop, length-append, length-map, length-take, length-drop}
use borrow.Author.Tests.{leb-true, le-leb, lt-leb, lt-ltb, le-ltb}
use Rattle.bits.specs.Range.{all}
use Rattle.bits.specs.Sum.{sum}
use Rattle.bits.proofs.Truth.{and-true-l, and_true_r}
use Rattle.examination_text.specs.Notation.{attach, split, record_texts, is_capital, is_numeral, is_record, record_bytes, expression, record_of}
use Rattle.examination_text.proofs.Split.{length-split}

-- the length, and the bytes
abbrev sized : List ℕ → Bool
sized t = leb 2 (length t) && leb (length t) 3

abbrev spelled : List ℕ → Bool
spelled t = all is_capital (take 2 t) && all is_numeral (drop 2 t)

module _ (t : List ℕ) where
  pub record-short : length t < 2 → is_record t ≡ false
  unfolding is_record
  record-short h = rw (lt-leb 2 (length t) h)

  pub record-long : 3 < length t → is_record t ≡ false
  unfolding is_record
  record-long h = rw (lt-leb (length t) 3 h, and-false (leb 2 (length t)))

  record-spelled : 2 ≤ length t → length t ≤ 3 → is_record t ≡ spelled t
  unfolding is_record
  record-spelled h g = rw (le-leb 2 (length t) h, le-leb (length t) 3 g)

  pub record-parts : {mark payload : List ℕ} → (2 ≤ length t) × (mark ≡ take 2 t) × (payload ≡ drop 2 t) → length payload ≤ 1
      → is_record t ≡ (all is_capital mark && all is_numeral payload)
  record-parts p g =
      record-spelled p.0 (omega (arith, ap length p.2, length-drop 2 t))
      ∙ ap₂ (λ (m l : List ℕ). all is_capital m && all is_numeral l) (sym p.1) (sym p.2)

  pub record-size : is_record t ≡ true → (2 ≤ length t) × (length t ≤ 3)
  unfolding is_record
  record-size e =
      let s = and-true-l (sized t) (spelled t) e in
      let low = and-true-l (leb 2 (length t)) (leb (length t) 3) s in
      let high = and_true_r (leb 2 (length t)) (leb (length t) 3) s in
      (leb-true 2 (length t) low, leb-true (length t) 3 high)

  pub length-bytes : length (record_bytes t) ≡ length t
  unfolding record_bytes
  length-bytes =
      length-append (take 2 t) (map (λ b. b - 48) (drop 2 t))
      ∙ omega (arith, length-map (drop 2 t) (λ b. b - 48), length-take 2 t, length-drop 2 t)

pub record-digit : (t : List ℕ) → is_record t ≡ true → length t ≡ 3 → 48 ≤ get_or t 2 0
unfolding is_record all
record-digit [] e h = absurd (omega arith)
record-digit (a ∷ []) e h = absurd (omega arith)
record-digit (a ∷ b ∷ []) e h = absurd (omega arith)
record-digit (a ∷ b ∷ d ∷ []) e h =
    let s = and_true_r (sized (a ∷ b ∷ d ∷ [])) (spelled (a ∷ b ∷ d ∷ [])) e in
    let n = and-true-l (is_numeral d) true (and_true_r (all is_capital (a ∷ b ∷ [])) (is_numeral d && true) s) in
    leb-true 48 d (and-true-l (leb 48 d) (leb d 57) n)
record-digit (a ∷ b ∷ d ∷ x ∷ u) e h = absurd (omega arith)

pub bytes-two : (t : List ℕ) → length t ≡ 2 → record_bytes t ≡ get_or t 0 0 ∷ get_or t 1 0 ∷ []
unfolding record_bytes
bytes-two [] h = absurd (omega arith)
bytes-two (a ∷ []) h = absurd (omega arith)
bytes-two (a ∷ b ∷ []) h = refl
bytes-two (a ∷ b ∷ d ∷ u) h = absurd (omega arith)

pub bytes-three : (t : List ℕ) → length t ≡ 3 → record_bytes t ≡ get_or t 0 0 ∷ get_or t 1 0 ∷ (get_or t 2 0 - 48) ∷ []
unfolding record_bytes
bytes-three [] h = absurd (omega arith)
bytes-three (a ∷ []) h = absurd (omega arith)
bytes-three (a ∷ b ∷ []) h = absurd (omega arith)
bytes-three (a ∷ b ∷ d ∷ []) h = refl
bytes-three (a ∷ b ∷ d ∷ x ∷ u) h = absurd (omega arith)

-- ---- lines

pub texts-none : (l : List ℕ) → length l ≡ 0 → record_texts l ≡ []
unfolding record_texts
texts-none [] h = refl
texts-none (x ∷ l) h = absurd (omega arith)

pub texts-some : (l : List ℕ) → (length l ≡ 0 → ⊥) → record_texts l ≡ split 32 l
unfolding record_texts
texts-some [] h = absurd (h refl)
texts-some (x ∷ l) h = refl

pub length-texts : (l : List ℕ) → length (record_texts l) ≤ length l + 1
unfolding record_texts
length-texts [] = omega arith
length-texts (x ∷ l) = length-split 32 (x ∷ l)

expression-more : (t : List ℕ) (ts : List (List ℕ)) → expression (t ∷ ts) ≡ record_bytes t ++ expression ts
unfolding expression sum
expression-more t ts = refl

module _ {ls ts : List (List ℕ)} {t : List ℕ} (e : ls ≡ t ∷ ts) where
  pub rule-first : (b : Bool) → is_record t ≡ b → all is_record ls ≡ (b && all is_record ts)
  unfolding all
  rule-first b h = ap (all is_record) e ∙ ap (λ (c : Bool). c && all is_record ts) h

  pub expression-first : expression ls ≡ record_bytes t ++ expression ts
  expression-first = ap expression e ∙ expression-more t ts

length-more : (t : List ℕ) (ts : List (List ℕ)) → length (expression (t ∷ ts)) ≡ length t + length (expression ts)
length-more t ts = omega (arith, ap length (expression-more t ts), length-append (record_bytes t) (expression ts), length-bytes t)

length_attach : (x : ℕ) (ts : List (List ℕ)) → length (expression (attach x ts)) ≤ length (expression ts) + 1
unfolding attach
length_attach x [] = omega (arith, length-more (x ∷ []) [])
length_attach x (t ∷ ts) = omega (arith, length-more (x ∷ t) ts, length-more t ts)

length_turn : (x : ℕ) (ts : List (List ℕ)) (b : Bool)
    → length (expression (elim b [ true ↦ [] ∷ ts | false ↦ attach x ts ])) ≤ length (expression ts) + 1
length_turn x ts true = omega (arith, length-more [] ts)
length_turn x ts false = length_attach x ts

pub length-parts : (b : ℕ) (l : List ℕ) → length (expression (split b l)) ≤ length l
unfolding split expression sum record_bytes
length-parts b [] = omega arith
length-parts b (x ∷ l) = omega (arith, length_turn x (split b l) (eqb x b), length-parts b l)

pub length-expression : (l : List ℕ) → length (expression (record_texts l)) ≤ length l
unfolding record_texts expression sum
length-expression [] = omega arith
length-expression (x ∷ l) = length-parts 32 (x ∷ l)

-- the number of the record, by whether the place lies in the first
abbrev turn : List ℕ → List (List ℕ) → ℕ → Bool → ℕ
turn t ts p b = elim b [ true ↦ 1 | false ↦ suc (record_of ts (p - length (record_bytes t))) ]

module _ {ls ts : List (List ℕ)} {t : List ℕ} (e : ls ≡ t ∷ ts) (p : ℕ) where
  pub number-here : p < length t → record_of ls p ≡ 1
  unfolding record_of
  number-here h =
      ap (λ (us : List (List ℕ)). record_of us p) e ∙ ap (turn t ts p) (lt-ltb p (length (record_bytes t)) (omega (arith, length-bytes t)))

  pub number_more : length t ≤ p → record_of ls p ≡ record_of ts (p - length t) + 1
  unfolding record_of
  number_more h =
      ap (λ (us : List (List ℕ)). record_of us p) e
      ∙ ap (turn t ts p) (le-ltb p (length (record_bytes t)) (omega (arith, length-bytes t)))
      ∙ ap (λ (k : ℕ). suc (record_of ts (p - k))) (length-bytes t)
      ∙ sym (add-one (record_of ts (p - length t)))
