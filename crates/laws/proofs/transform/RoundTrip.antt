-- Transform and way back, as calls: when each gives a result and which, that they undo each other, and that the words the transform gives are
-- the coefficients of the table's Zhegalkin polynomial, and the only ones. It rests on Mobius, Zhegalkin and Packed.
--   Transformed, transform-gives, transform-is  == the transform gives ws exactly where no row refuses and ws are the table's words
--   Returned, way_back-gives, way_back-is         == the way back gives t exactly where no row refuses and t are the function's digits
--   back-transform, transform-back              == one after the other gives the table's bits back, and the needed words
--   coefficient-is                              == the words hold the coefficients
--   table-polynomial, table-only                == their polynomial is the table, and no other coefficients' polynomial is
--   back-polynomial                             == entry s of what the way back gives is the polynomial with the coefficients at the flags of s
use mathlib.Core.Bool.{Bool, false, not}
use mathlib.Core.List.{List, map}
use mathlib.Core.Path.{◌≡◌, sym, ap, ◌∙◌}
use Prim.Native.Nat.{ℕ, ◌^◌, ◌≤◌, ◌<◌}
use native.Mathlib.Omega.{arith}
use lib.Dec.{ltb}
use lib.ListN.{length, get_or, take}
use borrow.Author.Tests.{ltb-false, leb-true, not-false, le-ltb, le-leb}
use Rattle.bits.specs.Bit.{bit, digit}
use Rattle.rules.specs.Calls.{with_table, with_coefficients, with_room, fill, transform, way_back}
use Rattle.rules.specs.Coefficient.{coefficient, word_count, packed, stray, words}
use Rattle.rules.specs.Limits.{form_flags}
use Rattle.rules.specs.Outcome.{gives}
use Rattle.rules.specs.Polynomial.{polynomial}
use Rattle.rules.specs.Table.{settings, entry, complete}
use Rattle.laws.proofs.transform.Mobius.{coefficient-ext, coefficient-twice}
use Rattle.laws.proofs.calls.Outcome.{gives_same, refuse-gives}
use Rattle.bits.proofs.Bit.{bit-digit}
use Rattle.bits.proofs.Tabulated.{length-map-upto, get_or-map-upto, map-upto-of}
use Rattle.laws.proofs.transform.Packed.{length-words, packed-words, stray-words, words-ext, words-packed}
use Rattle.laws.proofs.transform.Zhegalkin.{polynomial-coefficient, polynomial-unique}

-- ---- rows

fill_gives : (room : ℕ) (l r : List ℕ) → fill room l ≡ gives r → (length l ≤ room) × (r ≡ l)
unfolding fill with_room
fill_gives room l r e =
    let p = refuse-gives (ltb room (length l)) _ _ _ r e in
    (ltb-false room (length l) p.0, sym (gives_same p.1))

fill_is : (room : ℕ) (l : List ℕ) → length l ≤ room → fill room l ≡ gives l
unfolding fill with_room
fill_is room l h = rw (le-ltb room (length l) h)

-- ---- when a call gives

pub record Transformed (n : ℕ) (table : List ℕ) (room : ℕ) (ws : List ℕ) : Type 0 where
  pub flags : n ≤ form_flags
  pub entries : 2 ^ n ≤ length table
  pub fits : word_count n ≤ room
  pub result : ws ≡ words n (coefficient n (entry table))

module _ (n : ℕ) (table : List ℕ) (room : ℕ) (ws : List ℕ) where
  pub transform-gives : transform n table room ≡ gives ws → Transformed n table room ws
  unfolding transform with_table
  transform-gives e =
      let p = refuse-gives (ltb form_flags n) _ _ _ ws e in
      let q = refuse-gives (not (complete n table)) _ _ _ ws p.1 in
      let r = fill_gives room (words n (coefficient n (entry table))) ws q.1 in
      record {
        flags = ltb-false form_flags n p.0;
        entries = leb-true (2 ^ n) (length table) (not-false (complete n table) q.0);
        fits = omega (arith, length-words n (coefficient n (entry table)));
        result = r.1;
      }

  pub transform-is : Transformed n table room ws → transform n table room ≡ gives ws
  unfolding transform with_table
  transform-is t =
      rw (le-ltb form_flags n t.flags, le-leb (2 ^ n) (length table) t.entries, t.result)
      (fill_is room (words n (coefficient n (entry table))) (omega (arith, length-words n (coefficient n (entry table)))))

pub record Returned (n : ℕ) (ws : List ℕ) (room : ℕ) (t : List ℕ) : Type 0 where
  pub flags : n ≤ form_flags
  pub needed : word_count n ≤ length ws
  pub clean : stray n ws ≡ false
  pub fits : 2 ^ n ≤ room
  pub result : t ≡ map (λ s. digit (coefficient n (packed ws) s)) (settings n)

module _ (n : ℕ) (ws : List ℕ) (room : ℕ) (t : List ℕ) where
  pub way_back-gives : way_back n ws room ≡ gives t → Returned n ws room t
  unfolding way_back with_coefficients
  way_back-gives e =
      let p = refuse-gives (ltb form_flags n) _ _ _ t e in
      let q = refuse-gives (ltb (length ws) (word_count n)) _ _ _ t p.1 in
      let c = refuse-gives (stray n ws) _ _ _ t q.1 in
      let r = fill_gives room (map (λ s. digit (coefficient n (packed ws) s)) (settings n)) t c.1 in
      record {
        flags = ltb-false form_flags n p.0;
        needed = ltb-false (length ws) (word_count n) q.0;
        clean = c.0;
        fits = omega (arith, length-map-upto (2 ^ n) (λ s. digit (coefficient n (packed ws) s)));
        result = r.1;
      }

  pub way_back-is : Returned n ws room t → way_back n ws room ≡ gives t
  unfolding way_back with_coefficients
  way_back-is r =
      rw (le-ltb form_flags n r.flags, le-ltb (length ws) (word_count n) r.needed, r.clean, r.result)
      (fill_is room (map (λ s. digit (coefficient n (packed ws) s)) (settings n))
      (omega (arith, length-map-upto (2 ^ n) (λ s. digit (coefficient n (packed ws) s)))))

-- ---- there and back

-- the function's digits as a table
digits-entry : (n : ℕ) (g : ℕ → Bool) (s : ℕ) → s < 2 ^ n → entry (map (λ r. digit (g r)) (settings n)) s ≡ g s
digits-entry n g s h = ap (λ (w : ℕ). bit w 0) (get_or-map-upto (2 ^ n) (λ r. digit (g r)) s h) ∙ bit-digit (g s)

digits-ext : (n : ℕ) (f g : ℕ → Bool) → ((s : ℕ) → s < 2 ^ n → f s ≡ g s)
    → map (λ s. digit (f s)) (settings n) ≡ map (λ s. digit (g s)) (settings n)
digits-ext n f g h =
    map-upto-of (2 ^ n) (λ s. digit (g s)) (map (λ s. digit (f s)) (settings n)) (length-map-upto (2 ^ n) (λ s. digit (f s)))
    (λ s l. get_or-map-upto (2 ^ n) (λ r. digit (f r)) s l ∙ ap digit (h s l))

pub coefficient-is : (n : ℕ) (table : List ℕ) (room : ℕ) (ws : List ℕ) → transform n table room ≡ gives ws
    → (m : ℕ) → m < 2 ^ n → packed ws m ≡ coefficient n (entry table) m
coefficient-is n table room ws e m h =
    ap (λ (l : List ℕ). packed l m) (transform-gives n table room ws e).result ∙ packed-words n (coefficient n (entry table)) m h

module _ (n : ℕ) (table : List ℕ) (room : ℕ) (ws : List ℕ) (e : transform n table room ≡ gives ws) where
  -- the same exclusive or over subsets, of what the words hold
  again : (s : ℕ) → s < 2 ^ n → coefficient n (packed ws) s ≡ entry table s
  again s h =
      coefficient-ext n (packed ws) (coefficient n (entry table)) s (coefficient-is n table room ws e) ∙ coefficient-twice n (entry table) s h

  pub back-transform : (room' : ℕ) → 2 ^ n ≤ room' → way_back n ws room' ≡ gives (map (λ s. digit (entry table s)) (settings n))
  back-transform room' h =
      let t = transform-gives n table room ws e in
      way_back-is n ws room' (map (λ s. digit (entry table s)) (settings n)) record {
        flags = t.flags;
        needed = omega (arith, ap length t.result, length-words n (coefficient n (entry table)));
        clean = ap (stray n) t.result ∙ stray-words n (coefficient n (entry table));
        fits = h;
        result = sym (digits-ext n (coefficient n (packed ws)) (entry table) again);
      }

  pub table-polynomial : (s : ℕ) → s < 2 ^ n → polynomial n (packed ws) (bit s) ≡ entry table s
  table-polynomial s h = polynomial-coefficient n (packed ws) s ∙ again s h

  pub table-only : (c : ℕ → Bool) → ((s : ℕ) → s < 2 ^ n → polynomial n c (bit s) ≡ entry table s) → (m : ℕ) → m < 2 ^ n → c m ≡ packed ws m
  table-only c h m l = polynomial-unique n (entry table) c h m l ∙ sym (coefficient-is n table room ws e m l)

-- "The way back": the value at each setting of the Zhegalkin polynomial with the coefficients that are handed in
pub back-polynomial : (n : ℕ) (ws : List ℕ) (room : ℕ) (t : List ℕ) → way_back n ws room ≡ gives t
    → (s : ℕ) → s < 2 ^ n → get_or t s 0 ≡ digit (polynomial n (packed ws) (bit s))
back-polynomial n ws room t e s h =
    ap (λ (l : List ℕ). get_or l s 0) (way_back-gives n ws room t e).result
    ∙ get_or-map-upto (2 ^ n) (λ r. digit (coefficient n (packed ws) r)) s h
    ∙ ap digit (sym (polynomial-coefficient n (packed ws) s))

pub transform-back : (n : ℕ) (ws : List ℕ) (room : ℕ) (t : List ℕ) → way_back n ws room ≡ gives t
    → ((i : ℕ) → i < word_count n → get_or ws i 0 < 2 ^ 64) → (room' : ℕ) → word_count n ≤ room' → transform n t room' ≡ gives
    (take (word_count n) ws)
transform-back n ws room t e small room' h =
    let r = way_back-gives n ws room t e in
    transform-is n t room' (take (word_count n) ws) record {
      flags = r.flags;
      entries = omega (arith, ap length r.result, length-map-upto (2 ^ n) (λ s. digit (coefficient n (packed ws) s)));
      fits = h;
      result =
          words-packed n ws r.needed r.clean small
          ∙ words-ext n (packed ws) (coefficient n (entry t))
          (λ m l. sym (coefficient-twice n (packed ws) m l) ∙ coefficient-ext n (coefficient n (packed ws)) (entry t) m (λ s k. sym (value r s k)));
    }
  where
    value : Returned n ws room t → (s : ℕ) → s < 2 ^ n → entry t s ≡ coefficient n (packed ws) s
    value r s k = ap (λ (l : List ℕ). entry l s) r.result ∙ digits-entry n (coefficient n (packed ws)) s k
