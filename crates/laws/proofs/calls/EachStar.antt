-- The evaluation for 64 stars is the single evaluation of each star: request 1's sentence as theorems. All but the last suppose that it does not
-- refuse by 14. They rest on the laws of stars (Stars), of rows (Checked) and of outcomes (Outcome, Refused).
--   star-evaluated     == the single evaluation of star j is bit j of the answer, or the answer's refusal
--   star-valued        == so where the answer is a word, the single evaluation gives bit j of it
--   stars-only         == no other word has these bits
--   single-refused     == where the answer is a refusal, the single evaluation refuses by the same number and place
--   stars-refused      == where the single evaluation of a star refuses, so does the call, by the same number and place
--   short-words        == 14 is given only where there are at most six flags and fewer words than flags
use mathlib.Core.Bool.{Bool}
use mathlib.Core.List.{List}
use mathlib.Core.Path.{◌≡◌, refl, sym, ap, ◌∙◌}
use Prim.Native.Nat.{ℕ, ◌^◌, ◌≤◌, ◌<◌}
use native.Mathlib.Decide.{dec_lt}
use native.Mathlib.Omega.{arith}
use lib.Dec.{ltb, lit<}
use lib.ListN.{length}
use borrow.Author.Tests.{lt-ltb, le-ltb, lt-leb}
use Rattle.bits.specs.Bit.{bit, digit}
use Rattle.bits.proofs.Bit.{bit-digit, bit-ext}
use Rattle.rules.specs.Calls.{evaluate, evaluate_stars}
use Rattle.rules.specs.Limits.{rule_flags, word_bits, too_many_flags, short_stars}
use Rattle.rules.specs.Machine.{made}
use Rattle.rules.specs.Outcome.{Outcome, gives, refuses, ◌then◌}
use Rattle.rules.specs.Stars.{star_setting, star_values}
use Rattle.laws.proofs.calls.Checked.{stars-many, stars-enough}
use Rattle.laws.proofs.calls.Outcome.{gives_same, not-both, refuse-gives, then-gives, then-refuses, then-ext, then-then}
use Rattle.laws.proofs.calls.Refused.{By, by-step, made_by}
use Rattle.laws.proofs.calls.Stars.{star_setting-lt, bit-star_values, star_values-lt}

answer_lt : (n : ℕ) (ws s : List ℕ) (v : ℕ) → evaluate_stars n ws s ≡ gives v → v < 2 ^ word_bits
unfolding evaluate_stars
answer_lt n ws s v e =
    let past = (refuse-gives (ltb rule_flags n) too_many_flags 0 _ v e).1 in
    let told = then-gives (made n s) (λ t. gives (star_values n ws t)) v (refuse-gives (ltb (length ws) n) short_stars 0 _ v past).1 in
    rw (sym (gives_same told.2)) (star_values-lt n ws told.0)

module _ (n : ℕ) (ws s : List ℕ) (enough : n ≤ rule_flags → n ≤ length ws) where
  pub star-evaluated : (j : ℕ) → j < word_bits
      → evaluate n s (star_setting n ws j) ≡ evaluate_stars n ws s then (λ w. gives (digit (bit w j)))
  unfolding evaluate
  star-evaluated j h = elim (dec_lt rule_flags n) [
    | yes many ↦ rw (lt-ltb rule_flags n many, stars-many n ws s many)
    | no g ↦ let few : n ≤ rule_flags = omega arith in
        rw (le-ltb rule_flags n few, lt-leb (2 ^ n) (star_setting n ws j) (star_setting-lt n ws j), stars-enough n ws s few (enough few))
        (then-ext (made n s) _ _ (λ t. ap (λ (b : Bool). gives (digit b)) (sym (bit-star_values n ws t j h))) ∙ then-then (made n s) _ _)
  ]

  pub star-valued : (j w : ℕ) → j < word_bits → evaluate_stars n ws s ≡ gives w → evaluate n s (star_setting n ws j) ≡ gives (digit (bit w j))
  star-valued j w h e = star-evaluated j h ∙ ap (λ (o : Outcome ℕ). o then (λ v. gives (digit (bit v j)))) e

  pub single-refused : (j k p : ℕ) → j < word_bits → evaluate_stars n ws s ≡ refuses k p → evaluate n s (star_setting n ws j) ≡ refuses k p
  single-refused j k p h e = star-evaluated j h ∙ ap (λ (o : Outcome ℕ). o then (λ w. gives (digit (bit w j)))) e

  pub stars-refused : (j k p : ℕ) → j < word_bits → evaluate n s (star_setting n ws j) ≡ refuses k p → evaluate_stars n ws s ≡ refuses k p
  stars-refused j k p h e = then-refuses (evaluate_stars n ws s) (λ w. digit (bit w j)) k p (sym (star-evaluated j h) ∙ e)

  pub stars-only : (w : ℕ) → w < 2 ^ word_bits → ((j : ℕ) → j < word_bits → evaluate n s (star_setting n ws j) ≡ gives (digit (bit w j)))
      → evaluate_stars n ws s ≡ gives w
  stars-only w h e = go (evaluate_stars n ws s) refl
    where
      same : (v j : ℕ) → j < word_bits → evaluate_stars n ws s ≡ gives v → bit w j ≡ bit v j
      same v j l f =
          sym (bit-digit (bit w j)) ∙ ap (λ (d : ℕ). bit d 0) (gives_same (sym (e j l) ∙ star-valued j v l f)) ∙ bit-digit (bit v j)

      go : (o : Outcome ℕ) → evaluate_stars n ws s ≡ o → evaluate_stars n ws s ≡ gives w
      go (gives v) f = f ∙ ap gives (sym (bit-ext word_bits w v h (answer_lt n ws s v f) (λ j l. same v j l f)))
      go (refuses k p) f = absurd (not-both (sym (e 0 (lit< tt)) ∙ single-refused 0 k p (lit< tt) f))

-- past the two rows no refusal is by 14
enough-short : (n : ℕ) (ws s : List ℕ) → By (λ k p. k < short_stars) (made n s then (λ t. gives (star_values n ws t)))
enough-short n ws s = by-step (λ k p. k < short_stars) (made n s) _ (made_by (λ k p. k < short_stars) n s (omega arith)) (λ t. tt)

pub short-words : (n : ℕ) (ws s : List ℕ) (p : ℕ) → evaluate_stars n ws s ≡ refuses short_stars p → (n ≤ rule_flags) × (length ws < n)
short-words n ws s p e = elim (dec_lt rule_flags n) [
  | yes many ↦ let same = sym (stars-many n ws s many) ∙ e in let z : too_many_flags ≡ short_stars = cc in absurd (omega (arith, z))
  | no g ↦ let few : n ≤ rule_flags = omega arith in
      elim (dec_lt (length ws) n) [
        | yes h ↦ (few, h)
        | no l ↦ let same = sym (stars-enough n ws s few (omega arith)) ∙ e in absurd (omega (arith, rw same at (enough-short n ws s)))
      ]
]
