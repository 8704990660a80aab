-- A chain written at a cursor, lowest flag first: the first flag's record, then for each further flag its record and the operator's mark. It rests on
-- the bytes of a chain (Chains) and on the laws of runs (Put).
--   leaf                                     == a flag's record
--   Links mark w a b out after               == each flag of w was written with the mark after it
--   links-none, links-more                   == no flag, and the lowest flag before the others
--   puts-chain                               == a mask's lowest flag, and the others so linked, are its chain
--   room-flag, room-operator, room-rest      == room for the links is room for the lowest flag, its mark, and the other links
--   room-chain, room-links                   == room for the chain is room for the lowest flag and the links
use mathlib.Core.List.{List, [], ◌∷◌, ◌++◌}
use mathlib.Core.Path.{◌≡◌, sym, ap, ◌∙◌}
use Prim.Native.Nat.{ℕ, ◌-◌, ◌*◌, ◌^◌, ◌<◌}
use native.Mathlib.Omega.{arith}
use lib.Bits.{bit_and}
use lib.Count.{count_trailing_zeros}
use lib.ListN.{length, length-append}
use Rattle.rules.specs.Ascii.{ascii}
use Rattle.bits.proofs.Stored.{stored-none}
use Rattle.rules.specs.Form.{flags}
use Rattle.rules.specs.Tree.{write}
use Rattle.postfix.specs.Put.{Room, Put}
use Rattle.postfix.specs.declared.cursor.Cursor.{Cursor}
use Rattle.postfix.specs.Written.{linked, chained}
use Rattle.postfix.proofs.Chains.{flags-none, flags-lowest, linked-none, linked-lowest, chained-lowest}
use Rattle.postfix.proofs.Put.{put-append, put-eq, room-first, room_next, room-eq}

abbrev pub leaf : ℕ → List ℕ
leaf i = 86 ∷ 65 ∷ i ∷ []

abbrev pub Links : List ℕ → ℕ → Cursor → Cursor → List ℕ → List ℕ → Type 0
Links mark w a b out after = Put (linked mark (flags w)) (2 * length (flags w)) a b out after

pub links-none : (mark : List ℕ) (w : ℕ) (a : Cursor) (out : List ℕ) → Room (linked mark (flags w)) a out → w ≡ 0 → Links mark w a a out out
links-none mark w a out room e =
    let none : Put [] 0 a a out out = record { stored = stored-none a.place out (omega (arith, room.fits)); records = omega arith } in
    let bytes = ap (λ (v : ℕ). linked mark (flags v)) e ∙ linked-none mark in
    let records = ap (λ (v : ℕ). 2 * length (flags v)) e ∙ ap (λ (l : List ℕ). 2 * length l) flags-none in
    put-eq (sym bytes) (sym records) none

module _ (mark : List ℕ) (w : ℕ) (p : 0 < w) (h : w < 2 ^ 64) where
  -- the lowest flag, and the number of the others
  abbrev i : ℕ
  i = count_trailing_zeros 64 w

  abbrev others : ℕ
  others = bit_and w (w - 1)

  links : linked mark (flags w) ≡ leaf i ++ mark ++ linked mark (flags others)
  unfolding write ascii
  links = linked-lowest mark w p h

  chain : chained mark (flags w) ≡ leaf i ++ linked mark (flags others)
  unfolding write ascii
  chain = chained-lowest mark w p h

  module _ {a : Cursor} {out : List ℕ} where
    pub room-flag : Room (linked mark (flags w)) a out → Room (leaf i) a out
    room-flag r = room-first mark (room-first (linked mark (flags others)) (room-eq links r))

    pub room-chain : Room (chained mark (flags w)) a out → Room (leaf i) a out
    room-chain r = room-first (linked mark (flags others)) (room-eq chain r)

    module _ {b : Cursor} {mid : List ℕ} (f : Put (leaf i) 1 a b out mid) where
      pub room-operator : Room (linked mark (flags w)) a out → Room mark b mid
      room-operator r = room_next mark (omega arith) (room-first (linked mark (flags others)) (room-eq links r)) f

      pub room-links : Room (chained mark (flags w)) a out → Room (linked mark (flags others)) b mid
      room-links r = room_next (linked mark (flags others)) (omega arith) (room-eq chain r) f

      pub puts-chain : {c : Cursor} {after : List ℕ} → Links mark others b c mid after
          → Put (chained mark (flags w)) (2 * length (flags w) - 1) a c out after
      puts-chain g =
          put-eq (sym chain) (omega (arith, ap length (flags-lowest w p h))) (put-append f g)

      module _ {c : Cursor} {last : List ℕ} (g : Put mark 1 b c mid last) where
        pub room-rest : Room (linked mark (flags w)) a out → Room (linked mark (flags others)) c last
        room-rest r =
            room_next (linked mark (flags others)) (simp length-append (omega arith)) (room-eq links r) (put-append f g)

        pub links-more : {d : Cursor} {after : List ℕ} → Links mark others c d last after → Links mark w a d out after
        links-more k = put-eq (sym links) (omega (arith, ap length (flags-lowest w p h))) (put-append (put-append f g) k)
