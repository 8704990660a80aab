-- A recorded writing, compared step by step. It rests on the definitions of specs/Writings, on the length of a buffer's front (laws, calls/Outcome)
-- and on the comparison of a call (comparison, Called).
--   written-told     == an answer in numbers is the outcome that it tells
--   wrote            == what the writer told and left, compared with what is recorded
--   agrees-past      == more bytes than there is room for do not agree
--   agrees-said      == where there is room, the comparison of the call decides
use mathlib.Core.Bool.{Bool, false, ◌&&◌}
use mathlib.Core.List.{List}
use Rattle.std.specs.Prelude.{Result}
use Rattle.std.proofs.Common.{nat_eq}
use Rattle.std.specs.Cmp.Lexicographic.{pointwise}
use mathlib.Core.Path.{◌≡◌, sym, ap, ◌∙◌}
use Prim.Native.Nat.{ℕ, ◌≤◌, ◌<◌}
use lib.ListN.{length, replicate, length-replicate}
use borrow.Author.Tests.{le-leb, lt-leb}
use Rattle.rules.specs.Outcome as result
use Rattle.rules.specs.Outcome.{front, left}
use Rattle.rules.specs.declared.refusal.Refusal.{Refusal}
use Rattle.laws.proofs.calls.Outcome.{length_front}
use Rattle.rule_package.specs.Calls.{write_rule}
use Rattle.package_writer.specs.Answers.{writing_of}
use Rattle.comparison.specs.Called.{comes_to}
use Rattle.comparison.specs.Outcome.{alone, same_outcome}
use Rattle.comparison.specs.declared.outcome.Outcome.{Outcome}
use Rattle.comparison.proofs.Called.{came}
use Rattle.comparison.proofs.Told.{told}
use Rattle.recorded.specs.Pattern.{byte}
use Rattle.recorded.specs.Numbers.{word_at}
use Rattle.recorded_packages.specs.Writings.{rule_of, written_of, written_by, outcome_at, longest, writing_agrees}

written-told : (out : List ℕ) {o : result.Outcome (List ℕ)} {x : Outcome} (r : Result ℕ Refusal) → writing_of out r ≡ o → x ≡ written_by r
    → x ≡ written_of o
written-told out r q e = told (λ l. alone (length l)) (λ k. front k out) r q e (λ k. ap alone (sym (length_front k out)))

module _ (h s l : List ℕ) where
  pub wrote : (b out : List ℕ) (r : Result ℕ Refusal) {n w : ℕ} {x e : Outcome} {v : Bool} → n ≡ word_at h 0 → w ≡ word_at h 8 →
      writing_of out r ≡ write_rule (record { flags = n; table = w; expression = s }) (length b) →
      out ≡ left b (write_rule (record { flags = n; table = w; expression = s }) (length b)) →
      x ≡ written_by r → e ≡ outcome_at h → v ≡ (same_outcome x e && pointwise nat_eq out l) →
      v ≡ comes_to written_of left (write_rule (rule_of h s) (length b)) b (outcome_at h) l
  wrote b out r p q f g i j c = rw (← q, ← p, ← j) (came written_of left _ _ _ _ (written-told out r f i) g c)

  pub agrees-past : longest < length l → false ≡ writing_agrees h s l
  unfolding writing_agrees
  agrees-past i = rw (lt-leb (length l) longest i)

  pub agrees-said : (b : List ℕ) {r : Bool} → length l ≤ longest → b ≡ replicate (length l) byte →
      r ≡ comes_to written_of left (write_rule (rule_of h s) (length b)) b (outcome_at h) l → r ≡ writing_agrees h s l
  unfolding writing_agrees
  agrees-said b i e f = rw (le-leb (length l) longest i) (f ∙ rw (e, length-replicate (length l) byte))
