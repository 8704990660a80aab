-- The theorems of request 4, beside its sentences: what is written is read back, what is read is written the same, and each rule read is one that the
-- examiner accepts. They rest on the bytes of one rule (RuleBytes), on what the reader gives (Stands), on what the writer asks (Sound) and on rules
-- end to end, read (Reading) and written (Writing).
--   read-accepted            == a rule read is one that the examiner accepts against its own table
--   read_next, read-end      == its next place is behind its bytes; the end is given at or past the package's length
--   never-stray              == with six flags or more 17 cannot occur
--   write-length, write-room == what the writer gives for a rule has the rule's length, and 976 bytes are room for it
--   read-written             == a written rule is read with its next place, and is the rule, wherever in a package it stands
--   reads-package            == the bytes of sound rules end to end are read as these rules, and then the end
--   reads-written            == so are the bytes that the writer gives for rules, one behind the other
--   write_read               == a rule that is read is written as the bytes that were read
--   package-reads, writes-read == so are all rules of a package, end to end and by the writer
--   reading-one, rules-one   == bytes have one reading, and are written for no other rules
use mathlib.Core.Bool.{false}
use mathlib.Core.List.{List, [], ◌++◌, map}
use mathlib.Core.Logic.{◌↔◌}
use mathlib.Core.Option.{none, some}
use mathlib.Core.Path.{◌≡◌, sym, ap, ◌∙◌}
use Prim.Native.Nat.{ℕ, ◌+◌, ◌-◌, ◌^◌, ◌≤◌}
use native.Mathlib.Nat.{sub-eq-zero_of_le}
use native.Mathlib.Omega.{arith}
use lib.ListN.{length}
use lib.Pow.{pow_mono}
use Rattle.bits.specs.Part.{part}
use Rattle.bits.specs.Range.{from, any, Below}
use Rattle.bits.proofs.Every.{Every}
use Rattle.bits.proofs.Part.{length_part}
use Rattle.rules.specs.Limits.{byte_limit, package_limit}
use Rattle.rules.specs.Outcome.{gives}
use Rattle.rule_package.specs.Calls.{RuleAt, rule_from, placed, rule_in, write_rule, Writes, read_rule, Reads}
use Rattle.rule_package.specs.Rule.{Rule, Held, header_length, rule_bytes, package_bytes, stray_bit, examine_rule}
use Rattle.rule_package.proofs.RuleBytes.{length-rule_bytes, rule_in-rule_bytes}
use Rattle.rule_package.proofs.Reading.{sound-read, stands-rule_bytes, reads-placed, rules-placed}
use Rattle.rule_package.proofs.Reading.{package_bytes-reads, reads-sound, reads-unique, package_bytes-injective}
use Rattle.rule_package.proofs.Sound.{Sound, sound-limit, sound-write, write-passes, write-sound, stands-sound}
use Rattle.rule_package.proofs.Stands.{read-stands, read-ends, ends_read}
use Rattle.rule_package.proofs.Writing.{writes-sound, sound-writes}

-- ---- what is read

module _ (s : List ℕ) (p : ℕ) where
  -- "Each rule read is one the examiner accepts against its own table."
  pub read-accepted : (r : RuleAt) → read_rule s p ≡ gives (some r) → (c : ℕ) × (examine_rule (rule_in s r) ≡ gives c)
  read-accepted r e = (read-stands s p r e).accepted

  -- "gives the rule there with the next place": the place behind its bytes
  pub read_next : (r : RuleAt) → read_rule s p ≡ gives (some r) → (r.next ≡ p + length (rule_bytes (rule_in s r))) × (r.next ≤ length s)
  unfolding rule_in
  read_next r e =
      let st = read-stands s p r e in
      (omega (arith, length-rule_bytes (rule_in s r), length_part s r.start r.length (omega arith)), st.header.fits)

  -- "or the end at or past the package's length"
  pub read-end : length s ≤ package_limit → (read_rule s p ≡ gives none) ↔ (length s ≤ p)
  read-end limit = ((λ e. (read-ends s p e).past), (λ h. ends_read s p record { limit = limit; past = h }))

-- ---- "with 17 when a table bit stands at 2^n or above"

-- of six flags every bit of a word stands below 2^n, and of more flags too: 17 cannot occur there, so that 1 and 17 never meet
pub never-stray : (n w : ℕ) → 6 ≤ n → stray_bit n w ≡ false
unfolding stray_bit from any
never-stray n w h =
    let none_left : 64 - 2 ^ n ≡ 0 = sub-eq-zero_of_le (pow_mono h) in
    rw none_left

-- ---- what is written is read back

-- "The writer answers the rule's length"
pub write-length : (r : Rule) (room : ℕ) (l : List ℕ) → write_rule r room ≡ gives l → length l ≡ header_length + length r.expression
write-length r room l e = rw (write-passes r room l e).3 (length-rule_bytes r)

-- 13 and 963 bytes suffice for every rule that the writer writes
pub write-room : (r : Rule) (room : ℕ) → Sound r → header_length + byte_limit ≤ room → write_rule r room ≡ gives (rule_bytes r)
write-room r room h enough = sound-write r room h (omega (arith, sound-limit r h, length-rule_bytes r))

-- what was written is read at its place, whatever stands before and behind it
pub read-written : (r : Rule) (room : ℕ) (l a b : List ℕ) → Held r → write_rule r room ≡ gives l → length (a ++ (l ++ b)) ≤ package_limit
    → (read_rule (a ++ (l ++ b)) (length a) ≡ gives (some (rule_from (length a) r))) × (rule_in (a ++ (l ++ b)) (rule_from (length a) r) ≡ r)
read-written r room l a b h e limit =
    let w = write-sound r room l h e in
    (rw w.1 (sound-read r a b w.0 (rw w.1 at limit)), rw w.1 (rule_in-rule_bytes r a b))

pub reads-package : (rs : List Rule) → Every Sound rs → length (package_bytes rs) ≤ package_limit
    → Reads (package_bytes rs) 0 (placed 0 rs) × (map (rule_in (package_bytes rs)) (placed 0 rs) ≡ rs)
reads-package rs h limit = (reads-placed rs [] h limit, rules-placed rs [])

-- "reading written rules, end to end in at most 65,536 bytes, gives the same rules"; "none is a valid count of rules"
pub reads-written : (rs : List Rule) (s : List ℕ) → Every Held rs → Writes rs s → length s ≤ package_limit
    → Reads s 0 (placed 0 rs) × (map (rule_in s) (placed 0 rs) ≡ rs)
reads-written rs s h w limit =
    let q = writes-sound rs s h w in
    rw q.1 (reads-package rs q.0 (rw q.1 at limit))

-- ---- what is read is written the same

pub write_read : (s : List ℕ) (p : ℕ) (r : RuleAt) (room : ℕ) → Below 256 s → read_rule s p ≡ gives (some r) → r.next - p ≤ room
    → write_rule (rule_in s r) room ≡ gives (part s p (r.next - p))
write_read s p r room small e enough =
    let st = read-stands s p r e in
    let same = stands-rule_bytes s p r small st in
    let fits : length (rule_bytes (rule_in s r)) ≤ room = omega (arith, (read_next s p r e).0) in
    sound-write (rule_in s r) room (stands-sound s small p r st) fits ∙ ap gives same

pub package-reads : (s : List ℕ) (qs : List RuleAt) → Below 256 s → Reads s 0 qs → package_bytes (map (rule_in s) qs) ≡ s
package-reads s qs small e = package_bytes-reads s small 0 qs e

pub writes-read : (s : List ℕ) (qs : List RuleAt) → Below 256 s → Reads s 0 qs → Writes (map (rule_in s) qs) s
writes-read s qs small e = rw (package-reads s qs small e) at (sound-writes (map (rule_in s) qs) (reads-sound s small 0 qs e))

-- ---- one reading, and one package

pub reading-one : (s : List ℕ) (p : ℕ) (a b : List RuleAt) → Reads s p a → Reads s p b → a ≡ b
reading-one s p a b e f = reads-unique s p a b e f

pub rules-one : (rs qs : List Rule) (s : List ℕ) → Every Held rs → Every Held qs → Writes rs s → Writes qs s → length s ≤ package_limit → rs ≡ qs
rules-one rs qs s h g w v limit =
    let a = writes-sound rs s h w in
    let b = writes-sound qs s g v in
    package_bytes-injective rs qs a.0 b.0 (rw a.1 at limit) (sym a.1 ∙ b.1)
