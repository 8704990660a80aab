-- A buffer's entries from a place on, lent to a function that stores entries at their front: the room that they have, and the buffer afterwards. It
-- rests on the laws of stores (bits, Stores).
--   room-rest, stored-rest    == room from a place on is room in the rest; what is stored in the rest is stored from the place on
use Rattle.std.specs.Prelude.{List, ◌++◌, ◌≡◌, ℕ, ◌+◌, ◌-◌, ◌≤◌, length, take, drop}
use Rattle.std.proofs.Common.{arith, sym, ap, ap₂, ◌∙◌}
use Rattle.std.proofs.lemmas.List.{append-nil, append_assoc, drop-drop, drop_all, take_all}
use Rattle.std.proofs.lemmas.List.Edits.{sets, sets-eq}
use borrow.Rule.Slice.PartMut.{put_mid}
use lib.ListN.{length-drop}
use Rattle.bits.specs.Stored.{Room, Stored}
use Rattle.bits.proofs.Stores.{sets-front}

module _ (a : ℕ) (out : List ℕ) where
  -- what is lent
  abbrev rest : List ℕ
  rest = take (length out - a) (drop a out)

  rest-is : rest ≡ drop a out
  rest-is = take_all (length out - a) (drop a out) (omega (arith, length-drop a out))

  module _ (l : List ℕ) where
    pub room-rest : Room l a out → Room l 0 (take (length out - a) (drop a out))
    room-rest r = record { fits = omega (arith, ap length rest-is, length-drop a out) }

    pub stored-rest : (c : ℕ) (us : List ℕ) → a ≤ length out → Stored l 0 c (take (length out - a) (drop a out)) us
        → Stored l a (a + c) out (put_mid a (length out - a) out us)
    stored-rest c us h s =
        let size : length rest ≡ length out - a = ap length rest-is ∙ length-drop a out in
        let room : a + length l ≤ length out = omega (arith, size) in
        let front : us ≡ l ++ drop (a + length l) out =
        s.entries ∙ ap (λ (r : List ℕ). sets r 0 l) rest-is ∙ sets-front l (drop a out) (omega (arith, length-drop a out))
        ∙ ap (λ (r : List ℕ). l ++ r) (drop-drop (length l) a out) in
        record {
          place = omega arith;
          within = omega (arith, size);
          entries = ap₂ (λ (v w : List ℕ). take a out ++ (v ++ w)) front (drop_all (length out - a) (drop a out) (omega (arith, length-drop a out)))
              ∙ ap (λ (r : List ℕ). take a out ++ r) (append-nil (l ++ drop (a + length l) out))
              ∙ sym (append_assoc (take a out) l (drop (a + length l) out)) ∙ sym (sets-eq l out a room);
        }
