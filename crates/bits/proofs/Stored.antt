-- Runs stored at a place, one after another: what is stored, and the room that is left for the next. It rests on the laws of stores (Stores).
--   stores-more                  == a run stored entry by entry: one entry more
--   stored-none, stored-append         == nothing; a run and another from where it ends are one run
--   stored-length, stored-eq           == the buffer keeps its length; the same run under another name
--   stored-front                    == what was stored at the front stands there
--   room-first, room_next        == room for two runs is room for the first, and after it for the second
--   room-eq                      == the same room under another name of the run
use mathlib.Core.List.{List, [], ◌∷◌, ◌++◌}
use mathlib.Core.Path.{◌≡◌, refl, sym, ap, ap₂, subst, ◌∙◌}
use Prim.Native.Nat.{ℕ, ◌+◌, ◌≤◌, ◌<◌}
use native.Mathlib.Nat.{add-zero}
use native.Mathlib.Numerals.{add-one}
use native.Mathlib.Omega.{arith}
use lib.ListN.{length, get_or, take, set, length-append}
use lib.Seq.{sets, length-sets, length-take-le, take-suc}
use Rattle.bits.proofs.Stores.{sets-append, take-sets-front}
use Rattle.bits.specs.Stored.{Room, Stored}

module _ {A : Type 0} (out l : List A) (at : ℕ) where
  pub stores-more : (i : ℕ) (d : A) → i < length l → set (sets out at (take i l)) (at + i) (get_or l i d) ≡ sets out at (take (i + 1) l)
  stores-more i d h =
      let short : length (take i l) ≡ i = length-take-le i l (omega arith) in
      ap (λ (k : ℕ). set (sets out at (take i l)) (at + k) (get_or l i d)) (sym short)
      ∙ sets-append (take i l) (get_or l i d ∷ []) out at
      ∙ ap (sets out at) (sym (take-suc l i d h) ∙ ap (λ (k : ℕ). take k l) (sym (add-one i)))

pub stored-none : (a : ℕ) (out : List ℕ) → a ≤ length out → Stored [] a a out out
stored-none a out h = record { place = sym (add-zero a); within = h; entries = refl }

pub stored-length : {l : List ℕ} {a b : ℕ} {out after : List ℕ} → Stored l a b out after → length after ≡ length out
stored-length {l} {a} {b} {out} p = ap length p.entries ∙ length-sets out a l

module _ {l m : List ℕ} {a b c : ℕ} {out mid after : List ℕ} where
  pub stored-append : Stored l a b out mid → Stored m b c mid after → Stored (l ++ m) a c out after
  stored-append p q = record {
    place = simp length-append (omega arith);
    within = omega (arith, stored-length p);
    entries = q.entries ∙ ap₂ (λ (s : List ℕ) (i : ℕ). sets s i m) p.entries p.place ∙ sets-append l m out a;
  }

module _ {l : List ℕ} {a b : ℕ} {out after : List ℕ} where
  pub stored-eq : {m : List ℕ} → l ≡ m → Stored l a b out after → Stored m a b out after
  stored-eq e p = subst (λ (s : List ℕ). Stored s a b out after) e p

  pub room_next : (m : List ℕ) → Room (l ++ m) a out → Stored l a b out after → Room m b after
  room_next m h p = omega (arith, length-append l m, stored-length p)

module _ {l : List ℕ} {a : ℕ} {out : List ℕ} where
  pub room-first : (m : List ℕ) → Room (l ++ m) a out → Room l a out
  room-first m h = omega (arith, length-append l m)

  pub room-eq : {m : List ℕ} → l ≡ m → Room l a out → Room m a out
  room-eq e h = subst (λ (s : List ℕ). Room s a out) e h

pub stored-front : {l : List ℕ} {b : ℕ} {out after : List ℕ} → Stored l 0 b out after → take b after ≡ l
stored-front {l} {b} {out} {after} p =
    let e : b ≡ length l = omega arith in
    ap₂ take e p.entries ∙ take-sets-front l out (omega arith)
