-- Laws of the examination against a truth function: document 01's examination is the instance of a table, only the values at the settings count, and
-- it can be read off the lanes of the walk. They rest on the laws of Settings, on tables as truth functions (table, Truth), on the table that a
-- word holds (laws, WordTable) and on the laws of rows and outcomes (laws, Checked and Outcome).
--   examine-truth                  == document 01's examination, once rows 1 and 2 are passed
--   examine_truth-ext               == functions that agree at every setting are examined alike
--   examine-entries                == past those rows, the examination against a function that has a table's bits
--   examine-table                  == so against the table by value
--   examine-word                   == and against the table that a word holds
--   examine-walked                 == the examination from the walk's answer with the words of the flags
--   judged-differs                 == row 12
--   judged-costly, judged-accepts  == row 13, and past it, where no setting differs
use mathlib.Core.Bool.{Bool}
use mathlib.Core.List.{List, [], ◌∷◌, map}
use mathlib.Core.Path.{◌≡◌, refl, sym, ap, ap₂, ◌∙◌}
use Prim.Native.Nat.{ℕ, ◌^◌, ◌≤◌, ◌<◌}
use native.Mathlib.Omega.{arith}
use lib.ListN.{length}
use borrow.Author.Tests.{lt-ltb, le-ltb}
use Rattle.bits.specs.Bit.{◌⊕◌, bit}
use Rattle.bits.specs.Range.{upto}
use Rattle.rules.specs.Calls.{with_table, table_form, differences, judged, examine}
use Rattle.rules.specs.Coefficient.{coefficient}
use Rattle.rules.specs.Form.{raw_cost}
use Rattle.rules.specs.Limits.{rule_flags, differs, too_costly}
use Rattle.rules.specs.declared.flags.Flags.{Flags}
use Rattle.std.specs.Prelude.{Some, None}
use Rattle.std.specs.Prelude as code
use Rattle.bits.specs.Range.{keep}
use Rattle.rules.specs.Machine.{made}
use Rattle.rules.specs.Monomial.{form}
use Rattle.rules.specs.Outcome.{Outcome, gives, refuses, ◌then◌}
use Rattle.rules.specs.Table.{entry, word_table, settings}
use Rattle.rules.specs.Tree.{Tree, value, cost}
use Rattle.laws.proofs.calls.Checked.{table-complete}
use Rattle.laws.proofs.calls.Outcome.{then-ext, then-then}
use Rattle.laws.proofs.calls.WordTable.{length-word_table, entry-word_table}
use Rattle.mask_words.specs.Lookup.{flag_word}
use Rattle.lanes.specs.Lanes.{seen}
use Rattle.walk.specs.Walked.{walked}
use Rattle.walk.specs.declared.Seen.{Seen}
use Rattle.table.specs.Truth.{truth, table_of, first, difference_of}
use Rattle.table.specs.declared.Table.{Table}
use Rattle.table.proofs.Truth.{keep-settings, truth-tabled, form-ext}
use Rattle.examiner.specs.Examined.{examine_truth}
use Rattle.examiner.specs.Inner.{verdict, judgment}
use Rattle.examiner.proofs.Settings.{bit-values}

-- ---- document 01's examination

pub examine-truth : (n : ℕ) (table s : List ℕ) → examine n table s ≡ with_table rule_flags n table (examine_truth n (entry table) s)
unfolding examine examine_truth table_form differences
examine-truth n table s = refl

judged-verdict : (raw : ℕ) (t : Tree) (l : List ℕ) → judged raw t l ≡ verdict raw (cost t) (first l)
unfolding judged verdict
judged-verdict raw t [] = refl
judged-verdict raw t (at ∷ l) = refl

-- ---- only the values at the settings count

module _ (n : ℕ) where
  pub examine_truth-ext : (f g : ℕ → Bool) (s : List ℕ) → ((at : ℕ) → at < 2 ^ n → f at ≡ g at) → examine_truth n f s ≡ examine_truth n g s
  unfolding examine_truth
  examine_truth-ext f g s h =
      then-ext (made n s) _ _ (λ t. ap₂ (λ (l d : List ℕ). judged (raw_cost l) t d) (form-ext n f g h)
      (keep-settings n _ _ (λ at l. ap (λ (b : Bool). value t at ⊕ b) (h at l))))

  module _ (few : n ≤ rule_flags) where
    pub examine-entries : (table s : List ℕ) → 2 ^ n ≤ length table → (f : ℕ → Bool) → ((at : ℕ) → at < 2 ^ n → f at ≡ entry table at)
        → examine_truth n f s ≡ examine n table s
    examine-entries table s enough f h =
        examine_truth-ext f (entry table) s h ∙ sym (examine-truth n table s ∙ table-complete rule_flags n table _ few enough)

    pub examine-word : (w : ℕ) (s : List ℕ) → examine_truth n (bit w) s ≡ examine n (word_table n w) s
    examine-word w s =
        examine-entries (word_table n w) s (omega (arith, length-word_table n w)) (bit w) (λ at l. sym (entry-word_table n w at l))

    -- ---- from the walk

    examine-seen : (ws : List ℕ) → ws ≡ map flag_word (upto rule_flags) → (f : ℕ → Bool) (s : List ℕ)
        → examine_truth n f s ≡ (seen n s ws then (λ v. judgment n f v))
    unfolding examine_truth walked judgment
    examine-seen ws e f s =
        let raw : ℕ = raw_cost (form n (coefficient n f)) in
        then-ext (made n s) _ _ (λ t. judged-verdict raw t _ ∙ ap (λ (l : List ℕ). verdict raw (cost t) (first l))
        (keep-settings n _ _ (λ at l. ap (λ (b : Bool). b ⊕ f at) (sym (bit-values ws e n at few l t)))))
        ∙ then-then (made n s) _ _

    pub examine-walked : {ws : List ℕ} → ws ≡ map flag_word (upto rule_flags) → (f : ℕ → Bool) (s : List ℕ) {o : Outcome (Seen ℕ)} → o ≡ seen n s ws
        → (o then (λ v. judgment n f v)) ≡ examine_truth n f s
    examine-walked e f s is =
        ap (λ (o : Outcome (Seen ℕ)). o then (λ v. judgment n f v)) is ∙ sym (examine-seen _ e f s)

pub examine-table : (n : Flags 6) (table s : List ℕ) → 2 ^ n.count ≤ length table → (t : Table) → t ≡ table_of n (entry table)
    → examine_truth t.flags.count (truth t) s ≡ examine n.count table s
examine-table n table s enough t e =
    ap (λ (x : Table). examine_truth x.flags.count (truth x) s) e
    ∙ examine-entries n.count n.within table s enough (truth (table_of n (entry table))) (truth-tabled n (entry table))

-- ---- the verdict

module _ (n : ℕ) (f : ℕ → Bool) (v : Seen ℕ) where
  abbrev raw : ℕ
  raw = raw_cost (form n (coefficient n f))

  abbrev apart : List ℕ
  apart = keep (λ s. bit v.value s ⊕ f s) (settings n)

  pub judged-differs : {o : code.Option ℕ} (s : ℕ) → difference_of o ≡ first apart → o ≡ Some s → judgment n f v ≡ refuses differs s
  unfolding judgment verdict
  judged-differs s told e = ap (verdict raw v.cost) (sym told ∙ ap difference_of e)

  module _ {o : code.Option ℕ} (told : difference_of o ≡ first apart) (e : o ≡ None) {r : ℕ} (is : r ≡ raw) where
    pub judged-costly : r < v.cost → judgment n f v ≡ refuses too_costly v.cost
    unfolding judgment verdict
    judged-costly h = ap (verdict raw v.cost) (sym told ∙ ap difference_of e) ∙ rw (lt-ltb raw v.cost (omega (arith, h, is)))

    pub judged-accepts : v.cost ≤ r → judgment n f v ≡ gives v.cost
    unfolding judgment verdict
    judged-accepts h = ap (verdict raw v.cost) (sym told ∙ ap difference_of e) ∙ rw (le-ltb raw v.cost (omega (arith, h, is)))
