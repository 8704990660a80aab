-- What the printing program is to write, by cases: input that is no line of a rule, and input that is. It rests on the definitions of rules' Text and
-- on the flag count of a line's digits (text, FlagCount).
--   line-empty, line-last            == no line is empty, and a line ends in a newline
--   line-digits                      == input that ends in a newline is a line where all before it are digits
--   printed-other, printed-ragged    == no flag count, or no line: the complaint
--   printed-no_table                 == input that ends in a newline, with no flag count or no digits: the complaint
--   printed-rule                     == a line with its flag count: the report
--   printed-front                    == the first 66 bytes decide
use mathlib.Core.Bool.{Bool, true, false, and-true, and-false}
use mathlib.Core.List.{List, [], ◌∷◌}
use mathlib.Core.Option.{Option, none, some}
use mathlib.Core.Path.{◌≡◌, refl, sym, ap, ◌∙◌}
use Prim.Native.Nat.{ℕ, ◌-◌, ◌<◌}
use native.Mathlib.Decide.{dec_lt}
use native.Mathlib.Omega.{arith}
use lib.ListN.{length, get_or, take}
use lib.Seq.{take_all, length-take-le}
use borrow.Author.Tests.{eq-eqb, ne_eqb}
use Rattle.bits.specs.Range.{all}
use Rattle.rules.specs.Ascii.{ascii}
use Rattle.rules.specs.Text.{flags_of, is_line, printed_as, printed, report}
use Rattle.text.specs.TableDigits.{is_digit, values}
use Rattle.text.proofs.FlagCount.{flags-none}

flags-over : (d : ℕ) → 64 < d → flags_of d ≡ none
flags-over d l = flags-none d (omega arith) (omega arith) (omega arith) (omega arith) (omega arith) (omega arith) (omega arith)

-- ---- lines

pub line-empty : (s : List ℕ) → length s ≡ 0 → is_line s ≡ false
unfolding is_line all
line-empty [] e = refl
line-empty (x ∷ s) e = absurd (omega arith)

module _ (s : List ℕ) where
  pub line-last : (get_or s (length s - 1) 0 ≡ 10 → ⊥) → is_line s ≡ false
  unfolding is_line
  line-last n = rw (ne_eqb (get_or s (length s - 1) 0) 10 n) (and-false (all is_digit (take (length s - 1) s)))

  pub line-digits : get_or s (length s - 1) 0 ≡ 10 → is_line s ≡ all is_digit (take (length s - 1) s)
  unfolding is_line
  line-digits e = rw (eq-eqb (get_or s (length s - 1) 0) 10 e) (and-true (all is_digit (take (length s - 1) s)))

-- ---- the output

-- the output for a line with its flag count, by whether it is a line
abbrev by_line : List ℕ → ℕ → Bool → List ℕ
by_line s n b = elim b [ true ↦ report n (values (take (length s - 1) s)) | false ↦ ascii "bad line\n" ]

module _ (s : List ℕ) where
  pub printed-other : flags_of (length s - 1) ≡ none → printed s ≡ ascii "bad line\n"
  unfolding printed printed_as
  printed-other e = ap (printed_as s) e

  pub printed-ragged : is_line s ≡ false → printed s ≡ ascii "bad line\n"
  unfolding printed printed_as
  printed-ragged e = go (flags_of (length s - 1))
    where
      go : (o : Option ℕ) → printed_as s o ≡ ascii "bad line\n"
      go none = refl
      go (some n) = ap (by_line s n) e

  pub printed-no_table : get_or s (length s - 1) 0 ≡ 10
      → ((n : ℕ) → flags_of (length s - 1) ≡ some n → all is_digit (take (length s - 1) s) ≡ false) → printed s ≡ ascii "bad line\n"
  printed-no_table e h = go (flags_of (length s - 1)) refl
    where
      go : (o : Option ℕ) → flags_of (length s - 1) ≡ o → printed s ≡ ascii "bad line\n"
      go none q = printed-other q
      go (some n) q = printed-ragged (line-digits s e ∙ h n q)

  pub printed-rule : (n : ℕ) → flags_of (length s - 1) ≡ some n → is_line s ≡ true → printed s ≡ report n (values (take (length s - 1) s))
  unfolding printed printed_as
  printed-rule n f e = ap (printed_as s) f ∙ ap (by_line s n) e

pub printed-front : (s : List ℕ) → printed (take 66 s) ≡ printed s
printed-front s = elim (dec_lt (length s) 67) [
  | yes h ↦ ap printed (take_all 66 s (omega arith))
  | no h ↦
      let short : length (take 66 s) ≡ 66 = length-take-le 66 s (omega arith) in
      printed-other (take 66 s) (flags-over (length (take 66 s) - 1) (omega arith))
      ∙ sym (printed-other s (flags-over (length s - 1) (omega arith)))
]
