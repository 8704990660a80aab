-- The writer past the rows 1 and 17, and the bytes of a rule as its header with the expression behind it. It rests on the definitions of
-- rule_package and on runs of stores (bits, Stores).
--   write-checked                == past the rows 1 and 17, the examination and then the rule's bytes
--   rule_bytes-header            == a rule's bytes are its header and its expression
--   stored-parts                 == a buffer after one copy at its front and one behind it
use mathlib.Core.List.{List, ◌++◌, append_assoc}
use mathlib.Core.Path.{◌≡◌, refl, sym, ap, ◌∙◌}
use Prim.Native.Nat.{ℕ, ◌+◌, ◌≤◌}
use native.Mathlib.Nat.{zero-add}
use native.Mathlib.Omega.{arith}
use lib.Dec.{ltb}
use lib.ListN.{length, take, drop, length-append, length-drop}
use lib.Seq.{sets, sets-eq, drop-drop}
use Rattle.bits.specs.LowFirst.{low_bytes}
use Rattle.bits.proofs.Stores.{sets-front, sets-append}
use Rattle.laws.proofs.calls.Outcome.{refuse-then}
use Rattle.rules.specs.Ascii.{ascii}
use Rattle.rules.specs.Calls.{fill}
use Rattle.rules.specs.Limits.{package_flags, too_many_flags, stray_table_bit}
use Rattle.rules.specs.Outcome.{Outcome, gives, refuse, ◌then◌}
use Rattle.rule_package.specs.Calls.{write_rule}
use Rattle.rule_package.specs.Rule.{Rule, rule_bytes, stray_bit, examine_rule}
use Rattle.package_writer.specs.Inner.{header}

module _ (n w : ℕ) (s : List ℕ) (room : ℕ) where
  abbrev rule : ℕ → Rule
  rule m = record { flags = m; table = w; expression = s }

  pub write-checked : {o : Outcome ℕ}
      → o ≡ refuse (ltb package_flags n) too_many_flags 0 (refuse (stray_bit n w) stray_table_bit 0 (gives n))
      → (o then (λ m. examine_rule (rule m) then (λ c. fill room (rule_bytes (rule m))))) ≡ write_rule (rule n) room
  unfolding write_rule
  write-checked e =
      let f : ℕ → Outcome (List ℕ) = λ m. examine_rule (rule m) then (λ c. fill room (rule_bytes (rule m))) in
      ap (λ (q : Outcome ℕ). q then f) e ∙ refuse-then (ltb package_flags n) too_many_flags 0 _ f
      ∙ ap (refuse (ltb package_flags n) too_many_flags 0) (refuse-then (stray_bit n w) stray_table_bit 0 (gives n) f)

module _ (r : Rule) where
  pub rule_bytes-header : rule_bytes r ≡ header r.flags (length r.expression) r.table ++ r.expression
  unfolding rule_bytes header ascii low_bytes
  rule_bytes-header = refl

pub stored-parts : (out a b : List ℕ) (k : ℕ) → length a + length b ≤ length out → k ≡ length b
    → (let l = a ++ drop (length a) out in take (length a) l ++ (b ++ drop k (drop (length a) l)) ≡ sets out 0 (a ++ b))
stored-parts out a b k h e =
    let l = a ++ drop (length a) out in
    let size : length l ≡ length out = omega (arith, length-append a (drop (length a) out), length-drop (length a) out) in
    ap (λ (m : List ℕ). take (length a) l ++ (b ++ m)) (ap (λ (j : ℕ). drop j (drop (length a) l)) e ∙ drop-drop (length b) (length a) l)
    ∙ sym (sets-eq b l (length a) (omega arith) ∙ append_assoc (take (length a) l) b _) ∙ ap (λ (m : List ℕ). sets m (length a) b) (sym
    (sets-front a out (omega arith)))
    ∙ ap (λ (j : ℕ). sets (sets out 0 a) j b) (sym (zero-add (length a))) ∙ sets-append a b out 0
