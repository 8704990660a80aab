-- What record begins at a place: where a record's bytes stand whole, `record_at` gives it, and what it gives stood there. That its bytes are the
-- record's wants a byte below 256, since a mark is two letters as one number; a slice of bytes always meets it. Beyond that it assumes nothing.
--   bytes_of k                   == the bytes of a record
--   bytes_of-long, bytes_of-short == two at least, and at most three
--   drop_past                   == what stands behind the bytes that the rest begins with
--   record-at                   == a whole record is read where the rest begins with it
--   Read, record-read           == what is read stood there, whole and with a flag below n; its bytes too, if the one behind the first is below 256
use mathlib.Core.Bool.{Bool, true, false}
use mathlib.Core.List.{List, [], ◌∷◌, ◌++◌}
use mathlib.Core.Path.{◌≡◌, refl, sym, ap, ap₂, ◌∙◌, subst}
use Prim.Native.Nat.{ℕ, ◌+◌, ◌*◌, ◌≤◌, ◌<◌}
use native.Mathlib.Nat.{add-suc}
use native.Mathlib.Omega.{arith}
use lib.Dec.{ltb, leb, eqb, lit<}
use lib.ListN.{length, get_or, drop, length-drop}
use lib.Seq.{get_or-drop, drop-cons, drop-drop, drop-append_seam}
use borrow.Author.Tests.{ltb-true, ltb-false, leb-true, eqb-true, le-ltb, lt-ltb}
use Rattle.bits.specs.Bit.{digit}
use Rattle.bits.proofs.Bit.{digit-eqb}
use Rattle.rules.specs.Ascii.{ascii}
use Rattle.rules.specs.Limits.{bad_mark, bad_payload}
use Rattle.rules.specs.Outcome.{Outcome, gives, refuses, refuse}
use Rattle.rules.specs.Record.{Kind, Constant, Flag, And, Or, Xor, Not, FlagBelow, Found, mark, marked, plain, loaded, record_at}
use Rattle.laws.proofs.calls.Outcome.{gives_same, not-both, refuse-gives, pick, pick_gives}

unfoldable pub bytes_of : Kind → List ℕ
bytes_of (Constant b) = ascii "CO" ++ digit b ∷ []
bytes_of (Flag i) = ascii "VA" ++ i ∷ []
bytes_of And = ascii "AN"
bytes_of Or = ascii "OR"
bytes_of Xor = ascii "XO"
bytes_of Not = ascii "NO"

pub bytes_of-long : (k : Kind) → 2 ≤ length (bytes_of k)
unfolding bytes_of ascii
bytes_of-long (Constant b) = omega arith
bytes_of-long (Flag i) = omega arith
bytes_of-long And = omega arith
bytes_of-long Or = omega arith
bytes_of-long Xor = omega arith
bytes_of-long Not = omega arith

pub bytes_of-short : (k : Kind) → length (bytes_of k) ≤ 3
unfolding bytes_of ascii
bytes_of-short (Constant b) = omega arith
bytes_of-short (Flag i) = omega arith
bytes_of-short And = omega arith
bytes_of-short Or = omega arith
bytes_of-short Xor = omega arith
bytes_of-short Not = omega arith

pub drop_past : (s : List ℕ) (p : ℕ) (x b : List ℕ) → drop p s ≡ x ++ b → drop (p + length x) s ≡ b
drop_past s p x b e = sym (drop-drop (length x) p s) ∙ ap (drop (length x)) e ∙ drop-append_seam x b

-- `record_at` by the mark m, the payload c, and whether fewer than two or three bytes are left
abbrev seen : ℕ → ℕ → ℕ → ℕ → Bool → Bool → Outcome Found
unfolding plain mark ascii
seen n p m c short cut =
    refuse short bad_mark p
    (pick (eqb m (mark (ascii "CO")))
    (refuse cut bad_payload p (pick (leb c 1) (gives (record { kind = Constant (eqb c 1); next = p + 3 })) (refuses bad_payload p)))
    (pick (eqb m (mark (ascii "VA")))
    (refuse cut bad_payload p (pick (ltb c n) (gives (record { kind = Flag c; next = p + 3 })) (refuses bad_payload p)))
    (pick (eqb m (mark (ascii "AN"))) (plain And p)
    (pick (eqb m (mark (ascii "OR"))) (plain Or p)
    (pick (eqb m (mark (ascii "XO"))) (plain Xor p)
    (pick (eqb m (mark (ascii "NO"))) (plain Not p) (refuses bad_mark p)))))))

module _ (n : ℕ) (s : List ℕ) (p : ℕ) where
  at_seen : record_at n s p ≡ seen n p (mark (drop p s)) (get_or s (p + 2) 0) (ltb (length s) (p + 2)) (ltb (length s) (p + 3))
  unfolding record_at marked loaded plain mark ascii
  at_seen = refl

  at_mark : (x y : ℕ) (b : List ℕ) → drop p s ≡ x ∷ y ∷ b → record_at n s p ≡ seen n p (x * 256 + y) (get_or b 0 0) false (ltb (length s) (p + 3))
  unfolding mark ascii plain
  at_mark x y b e =
      let long : ltb (length s) (p + 2) ≡ false = le-ltb (length s) (p + 2) (omega (arith, ap length e, length-drop p s)) in
      at_seen ∙ rw (e, sym (get_or-drop p s 2 0) ∙ ap (λ (r : List ℕ). get_or r 2 0) e, long)

  at-payload : (x y c : ℕ) (b : List ℕ) → drop p s ≡ x ∷ y ∷ c ∷ b → record_at n s p ≡ seen n p (x * 256 + y) c false false
  at-payload x y c b e =
      at_mark x y (c ∷ b) e ∙ ap (seen n p (x * 256 + y) c false) (le-ltb (length s) (p + 3) (omega (arith, ap length e, length-drop p s)))

  pub record-at : (k : Kind) (b : List ℕ) → drop p s ≡ bytes_of k ++ b → FlagBelow n k
      → record_at n s p ≡ gives (record { kind = k; next = p + length (bytes_of k) })
  unfolding bytes_of ascii mark plain
  record-at (Constant true) b e f = at-payload 67 79 1 b e
  record-at (Constant false) b e f = at-payload 67 79 0 b e
  record-at (Flag i) b e f = at-payload 86 65 i b e ∙ rw (lt-ltb i n f)
  record-at And b e f = at_mark 65 78 b e
  record-at Or b e f = at_mark 79 82 b e
  record-at Xor b e f = at_mark 88 79 b e
  record-at Not b e f = at_mark 78 79 b e

pub record Read (n : ℕ) (s : List ℕ) (p : ℕ) (r : Found) : Type 0 where
  pub bytes : get_or s (p + 1) 0 < 256 → drop p s ≡ bytes_of r.kind ++ drop r.next s
  pub next : r.next ≡ p + length (bytes_of r.kind)
  pub ahead : p < r.next
  pub inside : r.next ≤ length s
  pub flag : FlagBelow n r.kind

mark-two : (l : List ℕ) (x y : ℕ) → 2 ≤ length l → get_or l 1 0 < 256 → y < 256 → mark l ≡ x * 256 + y → l ≡ x ∷ y ∷ drop 2 l
unfolding mark
mark-two [] x y h a b e = absurd (omega arith)
mark-two (u ∷ []) x y h a b e = absurd (omega arith)
mark-two (u ∷ v ∷ l) x y h a b e = ap₂ {C = List ℕ} (λ c d. c ∷ d ∷ l) (omega arith) (omega arith)

module _ (n : ℕ) (s : List ℕ) (p : ℕ) (r : Found) where
  read_of : (k : Kind) → FlagBelow n k → p + length (bytes_of k) ≤ length s
      → (get_or s (p + 1) 0 < 256 → drop p s ≡ bytes_of k ++ drop (p + length (bytes_of k)) s)
      → ◌≡◌ {A = Outcome Found} (gives (record { kind = k; next = p + length (bytes_of k) })) (gives r) → Read n s p r
  read_of k f l e q =
      subst (Read n s p) (gives_same q) (record { bytes = e; next = refl; ahead = omega (arith, bytes_of-long k); inside = l; flag = f })

  loaded-gives : (fits : Bool) (k : Kind) → loaded s p fits k ≡ gives r
      → (p + 3 ≤ length s) × (fits ≡ true) × (◌≡◌ {A = Outcome Found} (gives (record { kind = k; next = p + 3 })) (gives r))
  unfolding loaded
  loaded-gives fits k e =
      let q = refuse-gives (ltb (length s) (p + 3)) _ _ _ r e in
      pick_gives fits _ _ r (λ t g. (ltb-false (length s) (p + 3) q.0, t, g))
      (λ t g. absurd (not-both (sym g))) q.1

  module _ (long : p + 2 ≤ length s) where
    mark-bytes : (x y : ℕ) → y < 256 → eqb (mark (drop p s)) (x * 256 + y) ≡ true → get_or s (p + 1) 0 < 256 → drop p s ≡ x ∷ y ∷ drop (p + 2) s
    mark-bytes x y h e small =
        mark-two (drop p s) x y (omega (arith, length-drop p s)) (omega (arith, get_or-drop p s 1 0)) h (eqb-true _ _ e)
        ∙ ap {B = List ℕ} (λ l. x ∷ y ∷ l) (drop-drop 2 p s)

    payload-bytes : (x y : ℕ) → y < 256 → eqb (mark (drop p s)) (x * 256 + y) ≡ true → p + 3 ≤ length s → get_or s (p + 1) 0 < 256
        → drop p s ≡ x ∷ y ∷ get_or s (p + 2) 0 ∷ drop (p + 3) s
    payload-bytes x y h e l small =
        mark-bytes x y h e small
        ∙ ap {B = List ℕ} (λ l. x ∷ y ∷ l)
        (drop-cons s (p + 2) 0 (omega arith) ∙ ap {B = List ℕ} (λ i. get_or s (p + 2) 0 ∷ drop i s) (sym (add-suc p 2)))

    constant-read : marked s p "CO" ≡ true → loaded s p (leb (get_or s (p + 2) 0) 1) (Constant (eqb (get_or s (p + 2) 0) 1)) ≡ gives r → Read n s p r
    unfolding marked mark ascii bytes_of
    constant-read t g =
        let c : ℕ = get_or s (p + 2) 0 in
        let l = loaded-gives (leb c 1) (Constant (eqb c 1)) g in
        let b = payload-bytes 67 79 (lit< tt) t l.0 in
        let one = leb-true c 1 l.1 in
        read_of (Constant (eqb c 1)) tt l.0
        (λ small. b small ∙ ap {B = List ℕ} (λ d. 67 ∷ 79 ∷ d ∷ drop (p + 3) s) (sym (digit-eqb c (omega arith)))) l.2

    flag-read : marked s p "VA" ≡ true → loaded s p (ltb (get_or s (p + 2) 0) n) (Flag (get_or s (p + 2) 0)) ≡ gives r → Read n s p r
    unfolding marked mark ascii bytes_of
    flag-read t g =
        let c : ℕ = get_or s (p + 2) 0 in
        let l = loaded-gives (ltb c n) (Flag c) g in
        read_of (Flag c) (ltb-true c n l.1) l.0 (payload-bytes 86 65 (lit< tt) t l.0) l.2

  pub record-read : record_at n s p ≡ gives r → Read n s p r
  unfolding record_at bytes_of ascii marked mark plain
  record-read e =
      let q = refuse-gives (ltb (length s) (p + 2)) _ _ _ r e in
      let long : p + 2 ≤ length s = ltb-false (length s) (p + 2) q.0 in
      pick_gives (marked s p "CO") _ _ r (constant-read long)
      (λ _. pick_gives (marked s p "VA") _ _ r (flag-read long)
      (λ _. pick_gives (marked s p "AN") _ _ r (λ t. read_of And tt long (mark-bytes long 65 78 (lit< tt) t))
      (λ _. pick_gives (marked s p "OR") _ _ r (λ t. read_of Or tt long (mark-bytes long 79 82 (lit< tt) t))
      (λ _. pick_gives (marked s p "XO") _ _ r (λ t. read_of Xor tt long (mark-bytes long 88 79 (lit< tt) t))
      (λ _. pick_gives (marked s p "NO") _ _ r (λ t. read_of Not tt long (mark-bytes long 78 79 (lit< tt) t))
      (λ _ g. absurd (not-both (sym g)))))))) q.1
