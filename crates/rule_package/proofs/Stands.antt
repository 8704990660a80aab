-- What the reader gives: exactly the rule that stands at the place, one that the examiner accepts against its own table, or the end exactly at or
-- past the package's length. It rests on steps of outcomes (laws, Outcome) and on comparisons and disjunctions (bits, Range and Truth).
--   Headed s p r                   == the header of the rule r stands at place p of the bytes s, and the bytes of r are whole
--   headed-gives, gives-headed     == the rows 15, 16, 1 and 17 are passed exactly there
--   Stands s p r                   == the rule r stands at place p of the package s: its header does, and the examiner accepts it
--   read-stands, stands_read       == the reader gives r exactly there
--   Ends s p, read-ends, ends_read == place p is at the end of the package s or past it; the reader gives none exactly there
use mathlib.Core.Bool.{false, not, ◌||◌}
use mathlib.Core.List.{List}
use mathlib.Core.Option.{Option, none, some}
use mathlib.Core.Path.{◌≡◌, refl, sym, subst, ap}
use Prim.Native.Nat.{ℕ, ◌+◌, ◌≤◌}
use native.Mathlib.Omega.{arith}
use lib.Dec.{ltb}
use lib.ListN.{length}
use borrow.Author.Tests.{ltb-false, lt-ltb, le-ltb, not-false}
use Rattle.bits.specs.Range.{same}
use Rattle.bits.proofs.Range.{same_true, same_refl}
use Rattle.bits.proofs.Truth.{or-false-l, or-false-r}
use Rattle.rules.specs.Ascii.{ascii}
use Rattle.rules.specs.Limits.{package_flags, package_limit, too_many_flags, bad_rule_mark, past_end, stray_table_bit}
use Rattle.rules.specs.Outcome.{Outcome, gives, refuses, ◌then◌}
use Rattle.laws.proofs.calls.Outcome.{gives_same, not-both, none-some, refuse-gives, then-gives, pick_gives}
use Rattle.bits.specs.Part.{part}
use Rattle.rule_package.specs.Calls.{RuleAt, rule_at, rule_in, headed, in_package, read_rule}
use Rattle.rule_package.specs.Rule.{header_length, stray_bit, examine_rule}

pub record Headed (s : List ℕ) (p : ℕ) (r : RuleAt) : Type 0 where
  pub mark : part s p 2 ≡ ascii "RU"
  pub whole : p + header_length ≤ length s
  pub at : r ≡ rule_at s p
  pub start : r.start ≡ p + header_length
  pub next : r.next ≡ r.start + r.length
  pub fits : r.next ≤ length s
  pub flags : r.flags ≤ package_flags
  pub clean : stray_bit r.flags r.table ≡ false

pub record Stands (s : List ℕ) (p : ℕ) (r : RuleAt) : Type 0 where
  pub limit : length s ≤ package_limit
  pub header : Headed s p r
  pub accepted : (c : ℕ) × (examine_rule (rule_in s r) ≡ gives c)

pub record Ends (s : List ℕ) (p : ℕ) : Type 0 where
  pub limit : length s ≤ package_limit
  pub past : length s ≤ p

in_package-gives : {A : Type 0} (at : ℕ) (o : Outcome A) (a : A) → in_package at o ≡ gives a → o ≡ gives a
unfolding in_package
in_package-gives at (gives b) a e = e
in_package-gives at (refuses k p) a e = absurd (not-both (sym e))

module _ (s : List ℕ) (p : ℕ) where
  pub headed-gives : (r : RuleAt) → headed s p ≡ gives r → Headed s p r
  unfolding headed rule_at
  headed-gives r e =
      let cut = ltb (length s) (p + header_length) in
      let long = ltb (length s) (rule_at s p).next in
      let x = refuse-gives (not (same (part s p 2) (ascii "RU"))) bad_rule_mark p _ r e in
      let y = refuse-gives (cut || long) past_end p _ r x.1 in
      let z = refuse-gives (ltb package_flags (rule_at s p).flags) too_many_flags p _ r y.1 in
      let w = refuse-gives (stray_bit (rule_at s p).flags (rule_at s p).table) stray_table_bit p _ r z.1 in
      subst (Headed s p) (gives_same w.1) record {
        mark = same_true (part s p 2) (ascii "RU") (not-false (same (part s p 2) (ascii "RU")) x.0);
        whole = ltb-false (length s) (p + header_length) (or-false-l cut long y.0);
        at = refl;
        start = refl;
        next = refl;
        fits = ltb-false (length s) (rule_at s p).next (or-false-r cut long y.0);
        flags = ltb-false package_flags (rule_at s p).flags z.0;
        clean = w.0;
      }

  pub gives-headed : (r : RuleAt) → Headed s p r → headed s p ≡ gives r
  unfolding headed
  gives-headed r h =
      let here = subst (Headed s p) h.at h in
      rw (h.mark, same_refl (ascii "RU"), le-ltb (length s) (p + header_length) h.whole, le-ltb (length s) (rule_at s p).next here.fits)
      (rw (le-ltb package_flags (rule_at s p).flags here.flags, here.clean, h.at))

  -- past the first two rows, a result is the rule of the header
  examined : Outcome (Option RuleAt)
  examined = headed s p then (λ r. in_package r.start (examine_rule (rule_in s r)) then (λ c. gives (some r)))

  examined-gives : (o : Option RuleAt) → length s ≤ package_limit → examined ≡ gives o → (r : RuleAt) × (o ≡ some r) × Stands s p r
  unfolding examined
  examined-gives o limit e =
      let q = then-gives (headed s p) _ o e in
      let r = q.0 in
      let v = then-gives (in_package r.start (examine_rule (rule_in s r))) _ o q.2 in
      let accepted : examine_rule (rule_in s r) ≡ gives v.0 = in_package-gives r.start _ v.0 v.1 in
      (r, sym (gives_same v.2), record { limit = limit; header = headed-gives r q.1; accepted = (v.0, accepted) })

  pub read-stands : (r : RuleAt) → read_rule s p ≡ gives (some r) → Stands s p r
  unfolding read_rule examined
  read-stands r e =
      let l = refuse-gives (ltb package_limit (length s)) past_end 0 _ (some r) e in
      pick_gives (ltb p (length s)) examined (gives none) (some r)
      (λ i h. let q = examined-gives (some r) (ltb-false package_limit (length s) l.0) h in subst (Stands s p) (cc q.1) q.2)
      (λ i h. absurd (none-some h)) l.1

  pub stands_read : (r : RuleAt) → Stands s p r → read_rule s p ≡ gives (some r)
  unfolding read_rule in_package
  stands_read r st =
      rw (le-ltb package_limit (length s) st.limit, lt-ltb p (length s) (omega arith), gives-headed r st.header, st.accepted.1)

  pub read-ends : read_rule s p ≡ gives none → Ends s p
  unfolding read_rule examined
  read-ends e =
      let l = refuse-gives (ltb package_limit (length s)) past_end 0 _ none e in
      let limit = ltb-false package_limit (length s) l.0 in
      pick_gives (ltb p (length s)) examined (gives none) none
      (λ i h. absurd (none-some (ap gives (examined-gives none limit h).1)))
      (λ i h. record { limit = limit; past = ltb-false p (length s) i }) l.1

  pub ends_read : Ends s p → read_rule s p ≡ gives none
  unfolding read_rule
  ends_read h = rw (le-ltb package_limit (length s) h.limit, le-ltb p (length s) h.past)
