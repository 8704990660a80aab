-- What the examining command is to write, by cases: input that is too long or is not two lines, a first line that is no table, a second that is no
-- rule, and two lines that are. It rests on the definitions of specs/Input and on the parts of the input at newlines (Split).
--   page-long, page-lines            == input that is too long, and other input
--   lines-none, lines-one, lines_two, lines-four, lines-more == other parts than two lines and nothing behind them
--   lines-all, length-second         == two lines, the second no longer than the input
--   table-no_digits, table-rule == no flag count, or no digits; a table
--   rule-none, rule-verdict          == no records; records
--   page-front                       == the first 4096 bytes decide
use mathlib.Core.Bool.{Bool, true, false}
use mathlib.Core.List.{List, [], ◌∷◌, ◌++◌}
use mathlib.Core.Option.{Option, none, some}
use mathlib.Core.Path.{◌≡◌, refl, sym, ap, ◌∙◌}
use Prim.Native.Nat.{ℕ, ◌≤◌, ◌<◌}
use native.Mathlib.Decide.{dec_lt}
use native.Mathlib.Omega.{arith}
use lib.ListN.{length, take, length-append}
use lib.Seq.{take_all, length-take-le}
use borrow.Author.Tests.{lt-ltb, le-ltb}
use Rattle.bits.specs.Range.{all}
use Rattle.rules.specs.Ascii.{ascii}
use Rattle.rules.specs.Calls.{examine}
use Rattle.rules.specs.Text.{flags_of}
use Rattle.text.specs.TableDigits.{is_digit, values}
use Rattle.examination_text.specs.Input.{longest, too_long, not_lines, not_table, not_rule, of_rule, of_table, of_lines, verdict_page}
use Rattle.examination_text.specs.Notation.{split, record_texts, is_record, expression}
use Rattle.examination_text.specs.Verdict.{verdict_text}
use Rattle.examination_text.proofs.Records.{length-parts, length-bytes, expression-first}

-- ---- the input

-- the output by whether the input is too long
abbrev by_length : List ℕ → Bool → List ℕ
by_length s b = elim b [ true ↦ too_long | false ↦ of_lines (split 10 s) ]

module _ (s : List ℕ) where
  pub page-long : longest < length s → verdict_page s ≡ too_long
  unfolding verdict_page
  page-long h = ap (by_length s) (lt-ltb longest (length s) h)

  pub page-lines : length s ≤ longest → verdict_page s ≡ of_lines (split 10 s)
  unfolding verdict_page
  page-lines h = ap (by_length s) (le-ltb longest (length s) h)

pub page-front : (s : List ℕ) → verdict_page (take 4096 s) ≡ verdict_page s
page-front s = elim (dec_lt longest (length s)) [
  | yes h ↦ page-long (take 4096 s) (omega (arith, length-take-le 4096 s h)) ∙ sym (page-long s h)
  | no h ↦ ap verdict_page (take_all 4096 s (omega arith))
]

-- ---- the lines

-- the parts l of the input in turn, each with those behind it
module _ (s : List ℕ) {l : List (List ℕ)} (start : l ≡ split 10 s) where
  pub lines-none : l ≡ [] → of_lines (split 10 s) ≡ not_lines
  unfolding of_lines
  lines-none e = ap of_lines (sym start ∙ e)

  module _ {one : List ℕ} {l₁ : List (List ℕ)} (first : l ≡ one ∷ l₁) where
    pub lines-one : l₁ ≡ [] → of_lines (split 10 s) ≡ not_lines
    unfolding of_lines
    lines-one e = ap of_lines (sym start ∙ first ∙ ap {B = List (List ℕ)} (λ ls. one ∷ ls) e)

    module _ {two : List ℕ} {l₂ : List (List ℕ)} (second : l₁ ≡ two ∷ l₂) where
      both : split 10 s ≡ one ∷ two ∷ l₂
      both = sym start ∙ first ∙ ap {B = List (List ℕ)} (λ ls. one ∷ ls) second

      pub lines_two : l₂ ≡ [] → of_lines (split 10 s) ≡ not_lines
      unfolding of_lines
      lines_two e = ap of_lines (both ∙ ap {B = List (List ℕ)} (λ ls. one ∷ two ∷ ls) e)

      pub length-second : length two ≤ length s
      length-second =
          omega (
            arith,
            length-parts 10 s,
            ap (λ (ls : List (List ℕ)). length (expression ls)) (sym start),
            ap length (expression-first first),
            ap length (expression-first second),
            length-append {A = ℕ},
            length-bytes two,
          )

      module _ {rest : List ℕ} {l₃ : List (List ℕ)} (third : l₂ ≡ rest ∷ l₃) where
        three : (ls : List (List ℕ)) → l₃ ≡ ls → split 10 s ≡ one ∷ two ∷ rest ∷ ls
        three ls e = both ∙ ap {B = List (List ℕ)} (λ k. one ∷ two ∷ k) (third ∙ ap {B = List (List ℕ)} (λ k. rest ∷ k) e)

        pub lines-four : {more : List ℕ} {l₄ : List (List ℕ)} → l₃ ≡ more ∷ l₄ → of_lines (split 10 s) ≡ not_lines
        unfolding of_lines
        lines-four {more} {l₄} e = ap of_lines (three (more ∷ l₄) e) ∙ go rest
          where
            go : (r : List ℕ) → of_lines (one ∷ two ∷ r ∷ more ∷ l₄) ≡ not_lines
            go [] = refl
            go (x ∷ r) = refl

        pub lines-more : l₃ ≡ [] → (length rest ≡ 0 → ⊥) → of_lines (split 10 s) ≡ not_lines
        unfolding of_lines
        lines-more e n = ap of_lines (three [] e) ∙ go rest n
          where
            go : (r : List ℕ) → (length r ≡ 0 → ⊥) → of_lines (one ∷ two ∷ r ∷ []) ≡ not_lines
            go [] m = absurd (m refl)
            go (x ∷ r) m = refl

        pub lines-all : l₃ ≡ [] → length rest ≡ 0 → of_lines (split 10 s) ≡ of_table one two (flags_of (length one))
        unfolding of_lines
        lines-all e n = ap of_lines (three [] e) ∙ go rest n
          where
            go : (r : List ℕ) → length r ≡ 0 → of_lines (one ∷ two ∷ r ∷ []) ≡ of_table one two (flags_of (length one))
            go [] m = refl
            go (x ∷ r) m = absurd (omega arith)

-- ---- the table and the rule

-- the output for a table with its flag count, by whether its bytes are digits, and for a rule, by whether its parts are records
abbrev by_digits : ℕ → List ℕ → List ℕ → Bool → List ℕ
by_digits n one two b = elim b [ true ↦ of_rule n (values one) (record_texts two) | false ↦ not_table ]

abbrev by_records : ℕ → List ℕ → List (List ℕ) → Bool → List ℕ
by_records n table ts b = elim b [ true ↦ verdict_text n table ts (examine n table (expression ts)) ++ ascii "\n" | false ↦ not_rule ]

module _ (one two : List ℕ) where
  table_none : flags_of (length one) ≡ none → of_table one two (flags_of (length one)) ≡ not_table
  unfolding of_table
  table_none e = ap (of_table one two) e

  module _ (n : ℕ) (e : flags_of (length one) ≡ some n) where
    table-ragged : all is_digit one ≡ false → of_table one two (flags_of (length one)) ≡ not_table
    unfolding of_table
    table-ragged q = ap (of_table one two) e ∙ ap (by_digits n one two) q

    pub table-rule : all is_digit one ≡ true → of_table one two (flags_of (length one)) ≡ of_rule n (values one) (record_texts two)
    unfolding of_table
    table-rule q = ap (of_table one two) e ∙ ap (by_digits n one two) q

  pub table-no_digits : ((n : ℕ) → flags_of (length one) ≡ some n → all is_digit one ≡ false) → of_table one two (flags_of (length one)) ≡ not_table
  table-no_digits h = go (flags_of (length one)) refl
    where
      go : (o : Option ℕ) → flags_of (length one) ≡ o → of_table one two (flags_of (length one)) ≡ not_table
      go none e = table_none e
      go (some n) e = table-ragged n e (h n e)

module _ (n : ℕ) (table : List ℕ) (ts : List (List ℕ)) where
  pub rule-none : all is_record ts ≡ false → of_rule n table ts ≡ not_rule
  unfolding of_rule
  rule-none e = ap (by_records n table ts) e

  pub rule-verdict : all is_record ts ≡ true → of_rule n table ts ≡ verdict_text n table ts (examine n table (expression ts)) ++ ascii "\n"
  unfolding of_rule
  rule-verdict e = ap (by_records n table ts) e
