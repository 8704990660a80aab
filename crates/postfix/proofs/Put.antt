-- Runs of bytes written into a lent buffer at a cursor, one after another: what is written, and the room that is left for the next. `Postfix` keeps
-- what it writes by value, where `followed` of specs/Written says the same, and a buffer that holds what was written before holds it so
-- (`put-followed`). They rest on the laws of runs in a buffer (bits, Stored).
--   put-append                   == a run and another from where it ends are one run
--   put-length                   == the buffer keeps its length
--   put-eq, room-eq              == the same run, and the same room, under other names of the bytes and of their count
--   put-followed                 == where the code has written a run behind what stood before, a buffer that holds the one holds the other
--   room-first, room_next        == room for two runs is room for the first, and after it for the second; a run has no more records than bytes
use mathlib.Core.List.{List, ◌++◌}
use mathlib.Core.Path.{◌≡◌, refl, sym, ap, subst, subst₂, ◌∙◌}
use Prim.Native.Nat.{ℕ, ◌+◌, ◌≤◌}
use native.Mathlib.Nat.{zero-add}
use native.Mathlib.Omega.{arith}
use lib.ListN.{length, length-append}
use lib.Seq.{sets, length-sets}
use Rattle.bits.proofs.Stores.{sets-append}
use Rattle.bits.proofs.Stored.{stored-append, stored-length}
use Rattle.postfix.specs.Written.{Written, followed}
use Rattle.postfix.specs.Put.{Room, Put}
use Rattle.postfix.specs.declared.cursor.Cursor.{Cursor}

module _ {l m : List ℕ} {k j : ℕ} {a b c : Cursor} {out mid after : List ℕ} where
  pub put-append : Put l k a b out mid → Put m j b c mid after → Put (l ++ m) (k + j) a c out after
  put-append p q = record {
    stored = stored-append p.stored q.stored;
    records = omega arith;
  }

module _ {l : List ℕ} {k : ℕ} {a b : Cursor} {out after : List ℕ} where
  pub put-length : Put l k a b out after → length after ≡ length out
  put-length p = stored-length p.stored

  pub put-eq : {m : List ℕ} {j : ℕ} → l ≡ m → k ≡ j → Put l k a b out after → Put m j a b out after
  put-eq e f p = subst₂ (λ (s : List ℕ) (n : ℕ). Put s n a b out after) e f p

  pub room_next : (m : List ℕ) → k ≤ length l → Room (l ++ m) a out → Put l k a b out after → Room m b after
  room_next m small h p = omega (arith, length-append l m, put-length p)

module _ {l : List ℕ} {a : Cursor} {out : List ℕ} where
  pub room-first : (m : List ℕ) → Room (l ++ m) a out → Room l a out
  room-first m h = omega (arith, length-append l m)

  pub room-eq : {m : List ℕ} → l ≡ m → Room l a out → Room m a out
  room-eq e h = subst (λ (s : List ℕ). Room s a out) e h

-- the cursor behind what has been written
abbrev pub behind : Written → Cursor
behind w = record { place = length w.bytes; records = w.records }

module _ (w : Written) (l : List ℕ) (k : ℕ) (out : List ℕ) (h : length w.bytes + length l ≤ length out) where
  pub put-followed : Put l k (behind w) (behind (followed w l k)) (sets out 0 w.bytes) (sets out 0 (followed w l k).bytes)
  put-followed = record {
    stored = record {
      place = length-append w.bytes l;
      within = omega (arith, length-append w.bytes l, length-sets out 0 w.bytes);
      entries = sym (ap (λ (i : ℕ). sets (sets out 0 w.bytes) i l) (sym (zero-add (length w.bytes))) ∙ sets-append w.bytes l out 0);
    };
    records = refl;
  }
