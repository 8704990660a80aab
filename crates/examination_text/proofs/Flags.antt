-- The names of the flags that are set, one flag after another.
-- It rests on the definitions of `named` and `flag_names` and on the laws of ranges (bits, Range).
--   flag-short               == what is written for a flag has at most two bytes
--   named_more               == one flag more
--   length-named             == two bytes a flag at most
--   named-first              == the first flag and the others
--   names-some, names-word   == where some flag is set the flags are named; so of the flags of a word
use mathlib.Core.Bool.{Bool, true, false}
use mathlib.Core.List.{List, [], ◌∷◌, ◌++◌, append_assoc, append-nil}
use mathlib.Core.Path.{◌≡◌, refl, sym, ap, ◌∙◌}
use Prim.Native.Nat.{ℕ, zero, suc, ◌+◌, ◌*◌, ◌^◌, ◌≤◌, ◌<◌}
use native.Mathlib.Numerals.{add-one}
use native.Mathlib.Omega.{arith}
use lib.ListN.{length, length-append}
use Rattle.bits.specs.Bit.{bit}
use Rattle.bits.specs.Range.{from, upto, keep}
use Rattle.bits.specs.Sum.{sum}
use Rattle.bits.specs.Word.{places}
use Rattle.bits.proofs.Range.{upto-suc, keep_append}
use Rattle.bits.proofs.Word.{places-lowest}
use Rattle.rules.specs.Ascii.{ascii}
use Rattle.rules.specs.Text.{decimal}
use Rattle.text.proofs.Decimal.{length-decimal}
use Rattle.examination_text.specs.inner.Parts.{flag_name}
use Rattle.examination_text.specs.Verdict.{named, flag_names}

-- what is written for a flag, by whether it is set
abbrev turn : ℕ → Bool → List ℕ
turn i b = elim b [ true ↦ ascii " " ++ decimal i | false ↦ [] ]

module _ (w i : ℕ) where
  pub flag-short : i < 10 → length (flag_name w i) ≤ 2
  unfolding flag_name ascii
  flag-short h = go (bit w i)
    where
      go : (b : Bool) → length (turn i b) ≤ 2
      go true = omega (arith, length-decimal 0 i h)
      go false = omega arith

named-append : (a b : List ℕ) → named (a ++ b) ≡ named a ++ named b
unfolding sum
named-append [] b = refl
named-append (i ∷ a) b =
    ap (λ (l : List ℕ). ascii " " ++ decimal i ++ l) (named-append a b) ∙ sym (append_assoc (ascii " " ++ decimal i) (named a) (named b))

module _ (w i : ℕ) where
  named-one : named (keep (bit w) (i ∷ [])) ≡ flag_name w i
  unfolding keep sum flag_name
  named-one = go (bit w i)
    where
      go : (b : Bool) → named (elim b [ true ↦ i ∷ [] | false ↦ [] ]) ≡ turn i b
      go true = append-nil (ascii " " ++ decimal i)
      go false = refl

  pub named_more : named (places (i + 1) w) ≡ named (places i w) ++ flag_name w i
  unfolding places
  named_more =
      ap (λ (l : List ℕ). named (keep (bit w) l)) (ap upto (add-one i) ∙ upto-suc i)
      ∙ ap named (keep_append (bit w) (upto i) (i ∷ []))
      ∙ named-append (keep (bit w) (upto i)) (keep (bit w) (i ∷ []))
      ∙ ap (λ (l : List ℕ). named (keep (bit w) (upto i)) ++ l) named-one

pub length-named : (k w : ℕ) → k ≤ 10 → length (named (places k w)) ≤ 2 * k
unfolding places keep from sum
length-named zero w h = omega arith
length-named (suc k) w h =
    omega (
      arith,
      ap (λ (j : ℕ). length (named (places j w))) (sym (add-one k)),
      ap length (named_more w k),
      length-append (named (places k w)) (flag_name w k),
      length-named k w (omega arith),
      flag-short w k (omega arith),
    )

pub named-first : {ls l : List ℕ} {i : ℕ} → ls ≡ i ∷ l → ascii " " ++ decimal i ++ named l ≡ named ls
unfolding sum
named-first e = sym (ap named e)

pub names-some : (l : List ℕ) → (length (named l) ≡ 0 → ⊥) → named l ≡ flag_names l
unfolding flag_names sum
names-some [] n = absurd (n refl)
names-some (i ∷ l) n = refl

pub names-word : (w : ℕ) → w < 2 ^ 64 → (w ≡ 0 → ⊥) → named (places 64 w) ≡ flag_names (places 64 w)
unfolding flag_names
names-word w h n = ap named (places-lowest 64 w (omega (arith, n)) h) ∙ sym (ap flag_names (places-lowest 64 w (omega (arith, n)) h))
