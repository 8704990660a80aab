-- When the examiner accepts: exactly where the table passes its rows and the bytes meet the three conditions of the mission. And what it refuses by
-- 12 and 13 for.
-- It rests on bytes and trees as two readings of one expression (reading, WellFormed) and on the laws of a range's first number (bits, First).
--   Meets n table s c                                  == the bytes s meet the three conditions for the table, and their cost is c
--   examine-meets, meets-examine                       == the examiner gives c exactly there
--   differences-none, none-differences                 == no setting differs exactly where all values agree
--   FirstDifference, differences-first, first-differences == the first of the settings that differ
--   examined                                           == what is left once the table and the bytes have passed
--   examine-differs, differs-examine                   == it refuses by 12 at a setting exactly where that is the first that differs
--   costly-examine                                     == it refuses by 13 with the cost
use mathlib.Core.Bool.{Bool, true, false, not}
use mathlib.Core.List.{List, [], ◌∷◌}
use mathlib.Core.Path.{◌≡◌, refl, sym, ap, ◌∙◌}
use Prim.Native.Nat.{ℕ, ◌^◌, ◌≤◌, ◌<◌}
use native.Mathlib.Omega.{arith}
use lib.Dec.{ltb}
use borrow.Author.Tests.{ltb-false, not-false, lt-ltb, le-ltb}
use Rattle.bits.specs.Bit.{◌⊕◌}
use Rattle.bits.specs.Range.{Below}
use Rattle.bits.proofs.First.{keep-empty, empty-keep, first-keep, keep-first}
use Rattle.bits.proofs.Truth.{xor_same, xor_self, xor-other, other-xor}
use Rattle.rules.specs.Calls.{with_table, table_form, differences, judged, examine}
use Rattle.rules.specs.Form.{raw_form, raw_cost}
use Rattle.rules.specs.Limits.{rule_flags, differs, too_costly}
use Rattle.rules.specs.Machine.{made}
use Rattle.rules.specs.Outcome.{gives, refuses, refuse}
use Rattle.rules.specs.Table.{entry, complete}
use Rattle.rules.specs.Tree.{Tree, value, cost}
use Rattle.laws.proofs.calls.Outcome.{gives_same, not-both, refuse-gives, then-gives}
use Rattle.laws.proofs.cost.Cost.{cost-raw_form}
use Rattle.laws.proofs.reading.WellFormed.{Written, made-is, is_made}

-- "the string is well formed with at most 385 records, its value at every setting is the table's bit, and its cost is no more than that of the
-- table's raw form": well formed is what a tree writes that has so many records and only the table's flags
pub record Meets (n : ℕ) (table s : List ℕ) (c : ℕ) : Type 0 where
  pub tree : Tree
  pub formed : Written n s tree
  pub agrees : (at : ℕ) → at < 2 ^ n → value tree at ≡ entry table at
  pub cheap : cost tree ≤ cost (raw_form (table_form n table))
  pub costs : c ≡ cost tree

pub record FirstDifference (n : ℕ) (table : List ℕ) (t : Tree) (at : ℕ) : Type 0 where
  pub setting : at < 2 ^ n
  pub apart : value t at ≡ not (entry table at)
  pub before : (b : ℕ) → b < at → value t b ≡ entry table b

-- ---- the comparison

module _ (n : ℕ) (table : List ℕ) (t : Tree) where
  unlike : ℕ → Bool
  unlike at = value t at ⊕ entry table at

  agree-unlike : (at : ℕ) → value t at ≡ entry table at → unlike at ≡ false
  unfolding unlike
  agree-unlike at e = ap (λ (b : Bool). b ⊕ entry table at) e ∙ xor_self (entry table at)

  pub differences-none : differences n table t ≡ [] → (at : ℕ) → at < 2 ^ n → value t at ≡ entry table at
  unfolding differences unlike
  differences-none e at h = xor_same (value t at) (entry table at) (keep-empty unlike (2 ^ n) e at h)

  pub none-differences : ((at : ℕ) → at < 2 ^ n → value t at ≡ entry table at) → differences n table t ≡ []
  unfolding differences unlike
  none-differences h = empty-keep unlike (2 ^ n) (λ at l. agree-unlike at (h at l))

  pub differences-first : (at : ℕ) (l : List ℕ) → differences n table t ≡ at ∷ l → FirstDifference n table t at
  unfolding differences unlike
  differences-first at l e =
      let f = first-keep unlike (2 ^ n) at l e in
      record {
        setting = f.below;
        apart = xor-other (value t at) (entry table at) f.passes;
        before = λ b h. xor_same (value t b) (entry table b) (f.before b h);
      }

  pub first-differences : (at : ℕ) → FirstDifference n table t at → (l : List ℕ) × (differences n table t ≡ at ∷ l)
  unfolding differences unlike
  first-differences at d = keep-first unlike (2 ^ n) at record {
    below = d.setting;
    passes = other-xor (value t at) (entry table at) d.apart;
    before = λ b h. agree-unlike b (d.before b h);
  }

-- ---- the verdict

judged-gives : (raw : ℕ) (t : Tree) (l : List ℕ) (c : ℕ) → judged raw t l ≡ gives c → (l ≡ []) × (cost t ≤ raw) × (c ≡ cost t)
unfolding judged
judged-gives raw t [] c e =
    let q = refuse-gives (ltb raw (cost t)) _ _ _ c e in
    (refl, ltb-false raw (cost t) q.0, sym (gives_same q.1))
judged-gives raw t (x ∷ l) c e = absurd (not-both (sym e))

judged-differs : (raw : ℕ) (t : Tree) (l : List ℕ) (at : ℕ) → judged raw t l ≡ refuses differs at → (r : List ℕ) × (l ≡ at ∷ r)
unfolding judged
judged-differs raw t [] at e = absurd (other (ltb raw (cost t)) e)
  where
    other : (b : Bool) → refuse b too_costly (cost t) (gives (cost t)) ≡ refuses differs at → ⊥
    other true e = let z : ◌≡◌ {A = ℕ} too_costly differs = cc in omega arith
    other false e = not-both e
judged-differs raw t (x ∷ l) at e = (l, let q : x ≡ at = cc in ap {B = List ℕ} (λ z. z ∷ l) q)

module _ (n : ℕ) (table s : List ℕ) where
  pub examined : n ≤ rule_flags → complete n table ≡ true → (t : Tree) → made n s ≡ gives t
      → examine n table s ≡ judged (raw_cost (table_form n table)) t (differences n table t)
  unfolding examine with_table
  examined f h t e = rw (le-ltb rule_flags n f, h, e)

  pub meets-examine : (c : ℕ) → n ≤ rule_flags → complete n table ≡ true → Meets n table s c → examine n table s ≡ gives c
  unfolding judged
  meets-examine c f h m =
      let cheap : cost m.tree ≤ raw_cost (table_form n table) = omega (arith, m.cheap, cost-raw_form (table_form n table)) in
      examined f h m.tree (is_made n s m.tree m.formed)
      ∙ rw (none-differences n table m.tree m.agrees, le-ltb (raw_cost (table_form n table)) (cost m.tree) cheap, m.costs)

  pub examine-meets : Below 256 s → (c : ℕ) → examine n table s ≡ gives c → (n ≤ rule_flags) × (complete n table ≡ true) × Meets n table s c
  unfolding examine with_table
  examine-meets small c e =
      let p = refuse-gives (ltb rule_flags n) _ _ _ c e in
      let q = refuse-gives (not (complete n table)) _ _ _ c p.1 in
      let m = then-gives (made n s) _ c q.1 in
      let j = judged-gives (raw_cost (table_form n table)) m.0 (differences n table m.0) c m.2 in (
        ltb-false rule_flags n p.0,
        not-false (complete n table) q.0,
        record {
          tree = m.0;
          formed = made-is n s m.0 small m.1;
          agrees = differences-none n table m.0 j.0;
          cheap = omega (arith, j.1, cost-raw_form (table_form n table));
          costs = j.2;
        },
      )

  module _ (f : n ≤ rule_flags) (h : complete n table ≡ true) (t : Tree) (e : made n s ≡ gives t) (at : ℕ) where
    pub examine-differs : examine n table s ≡ refuses differs at → FirstDifference n table t at
    examine-differs d =
        let l = judged-differs (raw_cost (table_form n table)) t (differences n table t) at (sym (examined f h t e) ∙ d) in
        differences-first n table t at l.0 l.1

    pub differs-examine : FirstDifference n table t at → examine n table s ≡ refuses differs at
    unfolding judged
    differs-examine d = examined f h t e ∙ rw (first-differences n table t at d).1

  pub costly-examine : n ≤ rule_flags → complete n table ≡ true → (t : Tree) → made n s ≡ gives t
      → ((at : ℕ) → at < 2 ^ n → value t at ≡ entry table at) → raw_cost (table_form n table) < cost t → examine n table s ≡ refuses too_costly
      (cost t)
  unfolding judged
  costly-examine f h t e a c = examined f h t e ∙ rw (none-differences n table t a, lt-ltb (raw_cost (table_form n table)) (cost t) c)
