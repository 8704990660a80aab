-- What a slice's front says of a rule in it: its mark, and the fields of its header. It rests on parts and ranges (bits, Part and Range) and on
-- numbers low byte first as the library has them (rule_package, LowFirst).
--   rule p n w k      == the rule at p of n flags, the table word w and k bytes of expression
--   rows size p r     == what a whole header at p comes to that tells the rule r, in so many bytes
--   beyond, within    == row 16 of its expression; past it the rows 1 and 17
--   cut               == row 16 where the mark stands and the bytes are too few for a header
--   unmarked, short   == row 15, and row 16 of a header that is cut, by what the code read
--   told              == a whole header, by what its bytes tell
use Rattle.std.specs.Prelude.{Bool, true, false, ◌&&◌, Option, MatchOption, Ok, Err, List, [], ◌∷◌, length, get_or, take, drop, map}
use Rattle.std.specs.Prelude.{◌≡◌, refl, ◌⊎◌, ℕ, zero, suc, ◌+◌, ◌-◌, ◌≤◌, ◌<◌, ltb, eqb}
use Rattle.std.specs.Int.{w16, w64, from_le_bytes}
use Rattle.std.specs.Array.{IsFirstChunk}
use Rattle.std.specs.Borrow.{Bor}
use Rattle.std.specs.List.{starts_with}
use Rattle.std.specs.Option.{ok_or}
use mathlib.Core.Path.{sym, ap, ap₂, ◌∙◌}
use Rattle.std.proofs.Common.{rules}
use native.Mathlib.Nat.{le_of_lt}
use native.Mathlib.Omega.{arith}
use borrow.Author.Tests.{lt-ltb, le-ltb}
use lib.ListN.{length-take, length-drop}
use lib.Pointwise.{pointwise}
use lib.Seq.{take_all, take-take, drop-cons, drop-drop}
use Rattle.std.proofs.lemmas.List.{drop-take, get_or-take, get_or-drop}
use Rattle.bits.specs.LowFirst.{low_first}
use Rattle.bits.specs.Part.{part}
use Rattle.bits.specs.Range.{from, same}
use Rattle.laws.proofs.calls.Outcome.{refuse-then}
use Rattle.rules.specs.Ascii.{ascii}
use Rattle.rules.specs.Limits.{package_flags, bad_rule_mark, past_end, too_many_flags, stray_table_bit}
use Rattle.rules.specs.Outcome.{Outcome, gives, refuses, refuse, ◌then◌}
use Rattle.rules.specs.declared.refusal.Refusal.{Refusal}
use Rattle.rule_package.specs.Calls.{RuleAt, rule_at, headed}
use Rattle.rule_package.specs.Rule.{header_length, stray_bit}
use Rattle.rule_package.proofs.LowFirst.{from-low_first-2, from-low_first-8}
use Rattle.package_reader.proofs.Checked.{missing, present}

part-elements : (l : List ℕ) (p k : ℕ) → p + k ≤ length l → part l p k ≡ map (λ i. get_or l i 0) (from p k)
unfolding from
part-elements l p zero h = refl
part-elements l p (suc k) h =
    ap (take (suc k)) (drop-cons l p 0 (omega arith)) ∙ ap {B = List ℕ} (λ m. get_or l p 0 ∷ m) (part-elements l (suc p) k (omega arith))

part-front : (l : List ℕ) (p k j : ℕ) → part (take (p + (k + j)) l) p k ≡ part l p k
part-front l p k j = ap (take k) (drop-take p (k + j) l) ∙ take-take k (k + j) (drop p l) (omega arith)

abbrev pub rule : (p n w k : ℕ) → RuleAt
rule p n w k = record { flags = n; table = w; start = p + header_length; length = k; next = p + header_length + k }

abbrev pub rows : ℕ → ℕ → RuleAt → Outcome RuleAt
rows size p r =
    refuse (ltb size r.next) past_end p
    (refuse (ltb package_flags r.flags) too_many_flags p (refuse (stray_bit r.flags r.table) stray_table_bit p (gives r)))

module _ (size p n w k : ℕ) where
  pub beyond : ((p + header_length + k < p + header_length) ⊎ (size < p + header_length + k)) → rows size p (rule p n w k) ≡ refuses past_end p
  beyond h = let past : size < p + header_length + k = omega (arith, h) in rw (lt-ltb _ _ past) refl

  pub within : {o : Outcome ℕ} → p + header_length + k ≤ size
      → o ≡ refuse (ltb package_flags n) too_many_flags p (refuse (stray_bit n w) stray_table_bit p (gives n))
      → (o then (λ m. gives (rule p m w k))) ≡ rows size p (rule p n w k)
  within h e =
      let f : ℕ → Outcome RuleAt = λ m. gives (rule p m w k) in
      rw (le-ltb _ _ h) (ap (λ (q : Outcome ℕ). q then f) e ∙ refuse-then (ltb package_flags n) too_many_flags p _ f
      ∙ ap (refuse (ltb package_flags n) too_many_flags p) (refuse-then (stray_bit n w) stray_table_bit p (gives n) f))

abbrev pub length_in : List ℕ → ℕ
length_in h = from_le_bytes w16 (get_or h 3 0 ∷ get_or h 4 0 ∷ [])

abbrev pub table_in : List ℕ → ℕ
table_in h =
    let l = get_or h 5 0 ∷ get_or h 6 0 ∷ get_or h 7 0 ∷ get_or h 8 0 ∷ get_or h 9 0 ∷ get_or h 10 0 ∷ get_or h 11 0 ∷ get_or h 12 0 ∷ [] in
    from_le_bytes w64 l

module _ (s h : List ℕ) (p : ℕ) (past : p ≤ length s) (is : IsFirstChunk (take (length s - p) (drop p s)) h header_length) where
  rest : take (length s - p) (drop p s) ≡ drop p s
  rest = take_all (length s - p) (drop p s) (omega (arith, length-drop p s))

  header-whole : p + header_length ≤ length s
  header-whole = omega (arith, is.enough, rw rest at is.enough, length-drop p s)

  front : h ≡ take header_length (drop p s)
  front = is.same ∙ ap (take header_length) rest

  field : (q k j : ℕ) → header_length ≡ q + (k + j) → part s (p + q) k ≡ map (λ i. get_or h i 0) (from q k)
  field q k j e =
      let size : length h ≡ header_length = omega (arith, ap length front, length-take header_length (drop p s), length-drop p s, header-whole) in
      let is-front : h ≡ take (q + (k + j)) (drop p s) = front ∙ ap (λ (n : ℕ). take n (drop p s)) e in
      sym (ap (λ (l : List ℕ). part l q k) is-front ∙ part-front (drop p s) q k j ∙ ap (take k) (drop-drop q p s))
      ∙ part-elements h q k (omega (arith, size, e))

  header-fields : rule p (get_or h 2 0) (table_in h) (length_in h) ≡ rule_at s p
  unfolding rule_at from
  header-fields =
      let flags : get_or s (p + 2) 0 ≡ get_or h 2 0 =
      sym (ap (λ (l : List ℕ). get_or l 2 0) front ∙ get_or-take header_length (drop p s) 2 0 (omega arith) ∙ get_or-drop p s 2 0) in
      let pair = ap low_first (field 3 2 8 refl) ∙ sym (from-low_first-2 _ _) in
      let word = ap low_first (field 5 8 0 refl) ∙ sym (from-low_first-8 _ _ _ _ _ _ _ _) in
      rw (flags, pair, word) refl

eqb-turned : (x y : ℕ) → eqb x y ≡ eqb y x
eqb-turned x y = search rules

pointwise-same : (a b : List ℕ) → pointwise eqb a b ≡ same b a
unfolding same
pointwise-same [] [] = refl
pointwise-same [] (y ∷ b) = refl
pointwise-same (x ∷ a) [] = refl
pointwise-same (x ∷ a) (y ∷ b) = ap₂ ◌&&◌ (eqb-turned x y) (pointwise-same a b)

marked : (s : List ℕ) (p : ℕ) → p < length s → (b : Bool) → b ≡ starts_with eqb (take (length s - p) (drop p s)) (ascii "RU")
    → same (part s p 2) (ascii "RU") ≡ b
unfolding ascii same
marked s p h b e =
    sym (e ∙ ap (λ (l : List ℕ). starts_with eqb l (ascii "RU")) (take_all (length s - p) (drop p s) (omega (arith, length-drop p s)))
    ∙ pointwise-same (ascii "RU") (part s p 2))

pub cut : (s : List ℕ) (p : ℕ) → p < length s → starts_with eqb (take (length s - p) (drop p s)) (82 ∷ 85 ∷ []) ≡ true
    → length s < p + header_length → headed s p ≡ refuses past_end p
unfolding headed ascii
cut s p past mark less = rw (marked s p past true (sym mark), lt-ltb _ _ less) refl

-- what the code read: whether the mark stands at p, and if it does the bytes of the header
module _ (s : List ℕ) (p : ℕ) (past : p < length s) {b : Bool} (mark : b ≡ starts_with eqb (take (length s - p) (drop p s)) (82 ∷ 85 ∷ [])) where
  pub unmarked : b ≡ false → headed s p ≡ refuses bad_rule_mark p
  unfolding headed ascii
  unmarked e = rw (marked s p past b mark ∙ e) refl

  abbrev Read : Option (Bor (List ℕ)) → Type 0
  Read o =
      let l = take (length s - p) (drop p s) in
      MatchOption o (length l < header_length) (λ h. IsFirstChunk l h.now header_length)

  module _ (is : b ≡ true) (o : Option (Bor (List ℕ))) (e : Refusal) (cases : Read o) where
    pub short : {d : Refusal} → Err d ≡ ok_or o e → headed s p ≡ refuses past_end p
    short n =
        let gone = missing _ _ o cases n in
        cut s p past (sym mark ∙ is) (omega (arith, gone.0, length-take (length s - p) (drop p s), length-drop p s))

    pub told : {h : Bor (List ℕ)} {w k : ℕ} → Ok h ≡ ok_or o e → w ≡ table_in h.now → k ≡ length_in h.now
        → headed s p ≡ rows (length s) p (rule p (get_or h.now 2 0) w k)
    unfolding headed ascii
    told {h = h} n f g =
        let front = present _ _ o e cases n in
        let before = le_of_lt past in
        rw (f, g, marked s p past b mark ∙ is, le-ltb _ _ (header-whole s h.now p before front), sym (header-fields s h.now p before front)) refl
