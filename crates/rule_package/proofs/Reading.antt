-- Rules end to end: the bytes of sound rules are read as these rules and then the end, and what is read has the bytes that were read. It rests on the
-- bytes of one rule (RuleBytes), on what the reader gives (Stands) and on what the writer asks (Sound).
--   sound-stands, sound-read       == a sound rule stands where its bytes do, and is read there
--   stands-rule_bytes               == a rule that stands in a package has the bytes from there to its next place
--   reads-placed, rules-placed     == the bytes of sound rules are read as these, and these are the rules
--   reads-sound, package_bytes-reads == what is read from a place on is sound, and has the bytes from there on
--   reads-unique, package_bytes-injective == bytes have one reading, so that sound rules with the same bytes are the same
use mathlib.Core.List.{List, [], ◌∷◌, ◌++◌, map, append_assoc}
use mathlib.Core.Option.{some}
use mathlib.Core.Path.{◌≡◌, refl, sym, ap, ap₂, ◌∙◌, subst}
use Prim.Native.Nat.{ℕ, ◌+◌, ◌-◌, ◌≤◌}
use native.Mathlib.Omega.{arith}
use lib.ListN.{length, drop, length-append, take-append-drop, drop_of_length-le}
use lib.Seq.{drop-drop}
use Rattle.bits.specs.Part.{part}
use Rattle.bits.specs.Range.{Below}
use Rattle.bits.proofs.Every.{Every}
use Rattle.rules.specs.Limits.{package_limit}
use Rattle.rules.specs.Outcome.{gives}
use Rattle.laws.proofs.calls.Outcome.{none-some}
use Rattle.rule_package.specs.Calls.{RuleAt, rule_from, placed, rule_in, read_rule, Reads}
use Rattle.rule_package.specs.Rule.{Rule, header_length, rule_bytes, package_bytes, examine_rule}
use Rattle.rule_package.proofs.RuleBytes.{length-rule_bytes, mark-rule_bytes, rule_at-rule_bytes, rule_in-rule_bytes, rule_bytes-rule_in}
use Rattle.rule_package.proofs.Sound.{Sound, sound-limit, stands-sound}
use Rattle.rule_package.proofs.Stands.{Headed, Stands, read-stands, stands_read, read-ends, ends_read}

-- ---- one rule

pub sound-stands : (r : Rule) (a b : List ℕ) → Sound r → length (a ++ (rule_bytes r ++ b)) ≤ package_limit
    → Stands (a ++ (rule_bytes r ++ b)) (length a) (rule_from (length a) r)
unfolding rule_from
sound-stands r a b h limit =
    let few = sound-limit r h in
    let long = length-rule_bytes r in
    record {
      limit = limit;
      header = record {
        mark = mark-rule_bytes r a b;
        whole = simp length-append (omega arith);
        at = sym (rule_at-rule_bytes r a b (omega arith) h.held.word);
        start = refl;
        next = omega arith;
        fits = simp length-append (omega arith);
        flags = h.flags;
        clean = h.clean;
      };
      accepted = (h.accepted.0, ap examine_rule (rule_in-rule_bytes r a b) ∙ h.accepted.1);
    }

pub sound-read : (r : Rule) (a b : List ℕ) → Sound r → length (a ++ (rule_bytes r ++ b)) ≤ package_limit
    → read_rule (a ++ (rule_bytes r ++ b)) (length a) ≡ gives (some (rule_from (length a) r))
sound-read r a b h limit = stands_read (a ++ (rule_bytes r ++ b)) (length a) (rule_from (length a) r) (sound-stands r a b h limit)

pub stands-rule_bytes : (s : List ℕ) (p : ℕ) (r : RuleAt) → Below 256 s → Stands s p r → rule_bytes (rule_in s r) ≡ part s p (r.next - p)
stands-rule_bytes s p r small st =
    let h = st.header in
    let here = subst (Headed s p) h.at h in
    let k : r.next - p ≡ header_length + r.length = omega arith in
    rw (k, h.at) (rule_bytes-rule_in s small p h.mark h.whole here.fits)

-- ---- rules end to end

next-rule_from : (a : List ℕ) (r : Rule) → length (a ++ rule_bytes r) ≡ (rule_from (length a) r).next
unfolding rule_from
next-rule_from a r = length-append a (rule_bytes r)

pub reads-placed : (rs : List Rule) (a : List ℕ) → Every Sound rs → length (a ++ package_bytes rs) ≤ package_limit
    → Reads (a ++ package_bytes rs) (length a) (placed (length a) rs)
unfolding package_bytes placed
reads-placed [] a h limit = ends_read (a ++ []) (length a) record { limit = limit; past = simp length-append (omega arith) }
reads-placed (r ∷ rs) a h limit = (
  sound-read r a (package_bytes rs) h.0 limit,
  subst (λ (s : List ℕ). Reads s (rule_from (length a) r).next (placed (rule_from (length a) r).next rs))
      (append_assoc a (rule_bytes r) (package_bytes rs))
      (rw (← next-rule_from a r) (reads-placed rs (a ++ rule_bytes r) h.1 (rw append_assoc limit))),
)

pub rules-placed : (rs : List Rule) (a : List ℕ) → map (rule_in (a ++ package_bytes rs)) (placed (length a) rs) ≡ rs
unfolding package_bytes placed
rules-placed [] a = refl
rules-placed (r ∷ rs) a =
    ap₂ {C = List Rule} ◌∷◌ (rule_in-rule_bytes r a (package_bytes rs))
    (subst (λ (s : List ℕ). map (rule_in s) (placed (rule_from (length a) r).next rs) ≡ rs) (append_assoc a (rule_bytes r) (package_bytes rs))
    (rw (← next-rule_from a r) (rules-placed rs (a ++ rule_bytes r))))

pub package_bytes-reads : (s : List ℕ) → Below 256 s → (p : ℕ) (rs : List RuleAt) → Reads s p rs → package_bytes (map (rule_in s) rs) ≡ drop p s
unfolding package_bytes
package_bytes-reads s small p [] e = sym (drop_of_length-le s (read-ends s p e).past)
package_bytes-reads s small p (r ∷ rs) e =
    let st = read-stands s p r e.0 in
    let k : ℕ = r.next - p in
    let next : p + k ≡ r.next = omega arith in
    let behind : drop r.next s ≡ drop k (drop p s) = rw (drop-drop, next) in
    rw (stands-rule_bytes s p r small st, package_bytes-reads s small r.next rs e.1, behind) (take-append-drop k (drop p s))

pub reads-sound : (s : List ℕ) → Below 256 s → (p : ℕ) (rs : List RuleAt) → Reads s p rs → Every Sound (map (rule_in s) rs)
reads-sound s small p [] e = tt
reads-sound s small p (r ∷ rs) e = (stands-sound s small p r (read-stands s p r e.0), reads-sound s small r.next rs e.1)

pub reads-unique : (s : List ℕ) (p : ℕ) (a b : List RuleAt) → Reads s p a → Reads s p b → a ≡ b
reads-unique s p [] [] e f = refl
reads-unique s p [] (y ∷ b) e f = absurd (none-some (sym e ∙ f.0))
reads-unique s p (x ∷ a) [] e f = absurd (none-some (sym f ∙ e.0))
reads-unique s p (x ∷ a) (y ∷ b) e f =
    let same : x ≡ y = cc (e.0, f.0) in
    ap₂ {C = List RuleAt} ◌∷◌ same (reads-unique s x.next a b e.1 (rw same f.1))

pub package_bytes-injective : (rs qs : List Rule) → Every Sound rs → Every Sound qs → length (package_bytes rs) ≤ package_limit
    → package_bytes rs ≡ package_bytes qs → rs ≡ qs
package_bytes-injective rs qs f g limit e =
    let a = reads-placed rs [] f limit in
    let b = rw (← e) at (reads-placed qs [] g (rw (← e) limit)) in
    let same = reads-unique (package_bytes rs) 0 (placed 0 rs) (placed 0 qs) a b in
    sym (rules-placed rs []) ∙ rw (same, e) (rules-placed qs [])
