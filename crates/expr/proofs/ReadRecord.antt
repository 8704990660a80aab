-- What a record that was read is good for. It rests on laws' RecordAt.
--   Read n s p r     == the record r stands at place p, with the facts that every walk needs of it
--   found-read       == so where the reading of one record gives r
--   read-index       == a found flag's index is below any bound on the flag count
use mathlib.Core.List.{List}
use mathlib.Core.Path.{◌≡◌}
use Prim.Native.Nat.{ℕ, ◌+◌, ◌≤◌, ◌<◌}
use native.Mathlib.Omega.{arith}
use lib.ListN.{length}
use Rattle.rules.specs.Outcome.{gives}
use Rattle.rules.specs.Record.{FlagBelow, Found, record_at}
use Rattle.laws.proofs.reading.FlagsBelow.{flag-more}
use Rattle.laws.proofs.reading.RecordAt.{bytes_of-short, record-read}

pub record Read (n : ℕ) (s : List ℕ) (p : ℕ) (r : Found) : Type 0 where
  pub stands : record_at n s p ≡ gives r
  pub after : p < r.next
  pub near : r.next ≤ p + 3
  pub within : r.next ≤ length s
  pub index : FlagBelow n r.kind

pub found-read : (n : ℕ) (s : List ℕ) (p : ℕ) (r : Found) → record_at n s p ≡ gives r → Read n s p r
found-read n s p r e =
    let d = record-read n s p r e in
    record { stands = e; after = d.ahead; near = omega (arith, bytes_of-short r.kind, d.next); within = d.inside; index = d.flag }

pub read-index : {n : ℕ} {s : List ℕ} {p : ℕ} {r : Found} → Read n s p r → (m : ℕ) → n ≤ m → FlagBelow m r.kind
read-index {n} {r = r} f m l = flag-more n m l r.kind f.index
