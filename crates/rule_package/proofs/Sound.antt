-- What the writer asks of a rule, that it gives exactly such a rule's bytes, and that each rule read is such a rule. It rests on the rows of the
-- writer, on the three conditions of the mission and the bytes of an expression (laws, Accepts and Bytes), on numbers in bytes and parts of a list
-- (bits, LowFirst and Part) and on what the reader gives (Stands).
--   Sound r                    == r is a rule that the writer writes, where there is room
--   accepted-limit             == an expression that the examiner accepts has at most 963 bytes, so that two bytes hold its length
--   sound-limit                == so has a sound rule's
--   write-passes               == what the writer gives is a rule's bytes, of a rule that passed its rows, within the room
--   sound-write, write-sound   == the writer gives a rule's bytes exactly where the rule is sound and there is room for them
--   stands-sound               == a rule that stands in a package is sound
use mathlib.Core.Bool.{false}
use mathlib.Core.List.{List}
use mathlib.Core.Path.{◌≡◌, sym}
use Prim.Native.Nat.{ℕ, ◌+◌, ◌^◌, ◌≤◌, ◌<◌}
use native.Mathlib.Omega.{arith}
use lib.Dec.{ltb}
use lib.ListN.{length}
use borrow.Author.Tests.{ltb-false, le-ltb}
use Rattle.bits.specs.LowFirst.{low_first}
use Rattle.bits.specs.Part.{part}
use Rattle.bits.specs.Range.{Below}
use Rattle.bits.proofs.LowFirst.{low_first-limit}
use Rattle.bits.proofs.Part.{length_part, below-part}
use Rattle.rules.specs.Calls.{with_room, fill}
use Rattle.rules.specs.Limits.{byte_limit, package_flags, word_bits, too_many_flags, short_output, stray_table_bit}
use Rattle.rules.specs.Outcome.{gives}
use Rattle.rules.specs.Table.{word_table}
use Rattle.laws.proofs.acceptance.Accepts.{examine-meets}
use Rattle.laws.proofs.calls.Outcome.{gives_same, refuse-gives, then-gives}
use Rattle.laws.proofs.cost.Bytes.{byte-limit}
use Rattle.rule_package.specs.Calls.{RuleAt, rule_at, rule_in, write_rule}
use Rattle.rule_package.specs.Rule.{Rule, Held, rule_bytes, stray_bit, examine_rule}
use Rattle.rule_package.proofs.Stands.{Stands}

pub record Sound (r : Rule) : Type 0 where
  pub held : Held r
  pub flags : r.flags ≤ package_flags
  pub clean : stray_bit r.flags r.table ≡ false
  pub accepted : (c : ℕ) × (examine_rule r ≡ gives c)

module _ (r : Rule) where
  pub accepted-limit : (c : ℕ) → examine_rule r ≡ gives c → Below 256 r.expression → length r.expression ≤ byte_limit
  unfolding examine_rule
  accepted-limit c e small =
      let m = (examine-meets r.flags (word_table r.flags r.table) r.expression small c e).2 in
      rw m.formed.bytes (byte-limit m.tree m.formed.records)

  pub sound-limit : Sound r → length r.expression ≤ byte_limit
  sound-limit h = accepted-limit h.accepted.0 h.accepted.1 h.held.bytes

  module _ (room : ℕ) where
    pub sound-write : Sound r → length (rule_bytes r) ≤ room → write_rule r room ≡ gives (rule_bytes r)
    unfolding write_rule fill with_room
    sound-write h enough = rw (le-ltb package_flags r.flags h.flags, h.clean, h.accepted.1, le-ltb room (length (rule_bytes r)) enough)

    pub write-passes : (l : List ℕ) → write_rule r room ≡ gives l
        → (r.flags ≤ package_flags) × (stray_bit r.flags r.table ≡ false) × ((c : ℕ) × (examine_rule r ≡ gives c))
        × (l ≡ rule_bytes r) × (length l ≤ room)
    unfolding write_rule fill with_room
    write-passes l e =
        let x = refuse-gives (ltb package_flags r.flags) too_many_flags 0 _ l e in
        let y = refuse-gives (stray_bit r.flags r.table) stray_table_bit 0 _ l x.1 in
        let z = then-gives (examine_rule r) _ l y.1 in
        let w = refuse-gives (ltb room (length (rule_bytes r))) short_output (length (rule_bytes r)) _ l z.2 in
        let same : l ≡ rule_bytes r = sym (gives_same w.1) in (
          ltb-false package_flags r.flags x.0,
          y.0,
          (z.0, z.1),
          same,
          rw same (ltb-false room (length (rule_bytes r)) w.0),
        )

    pub write-sound : (l : List ℕ) → Held r → write_rule r room ≡ gives l → Sound r × (l ≡ rule_bytes r) × (length l ≤ room)
    write-sound l held e =
        let w = write-passes l e in
        (record { held = held; flags = w.0; clean = w.1; accepted = w.2 }, w.3, w.4)

module _ (s : List ℕ) (small : Below 256 s) where
  word-part : (p : ℕ) → p + 8 ≤ length s → low_first (part s p 8) < 2 ^ word_bits
  word-part p h = rw (length_part s p 8 h) at (low_first-limit (part s p 8) (below-part s p 256 8 small))

  pub stands-sound : (p : ℕ) (r : RuleAt) → Stands s p r → Sound (rule_in s r)
  unfolding rule_in rule_at
  stands-sound p r st = record {
    held = record {
      word = rw st.header.at (word-part (p + 5) (omega arith));
      bytes = below-part s r.start 256 r.length small;
    };
    flags = st.header.flags;
    clean = st.header.clean;
    accepted = st.accepted;
  }
