-- Pages that show a text, and texts written behind one another. It rests on the definitions of specs/Page, and on the laws of runs in a buffer (bits,
-- Stored).
--   shows-put            == a text written at the front of a page's bytes is a page
--   shows-eq             == an equal text
--   shows-told           == the parts of the promise
--   written-eq           == the same
--   written-none         == no text changes nothing
--   written-then         == one text, and another behind it
--   written-shows        == what is written on no text and fits a page is what the page of it shows
use mathlib.Core.List.{List, [], ◌++◌, append_assoc, append-nil}
use mathlib.Core.Path.{◌≡◌, sym, ap, subst, ◌∙◌}
use Prim.Native.Nat.{ℕ, ◌≤◌}
use native.Mathlib.Omega.{arith}
use lib.ListN.{length, take, length-append}
use Rattle.bits.specs.Stored.{Stored}
use Rattle.bits.proofs.Stored.{stored-length, stored-front}
use Rattle.arrayvec.specs.ArrayVec.{ArrayVec}
use Rattle.text.specs.Page.{page_bytes, Shows, Written}
use Rattle.text.specs.declared.Page.{Page}

pub shows-put : {l : List ℕ} {b : ℕ} {out after : List ℕ} → length out ≡ page_bytes → Stored l 0 b out after
    → Shows l (record { bytes = after; count = b })
shows-put e p = record { within = omega arith; size = stored-length p ∙ e; text = stored-front p }

pub shows-eq : {l m : List ℕ} {page : Page} → l ≡ m → Shows l page → Shows m page
shows-eq {page = page} e s = subst (λ (k : List ℕ). Shows k page) e s

pub shows-told : {l : List ℕ} {page : Page} → Shows l page
    → ((page.count ≤ page_bytes) × (take page.count page.bytes ≡ l)) × (length page.bytes ≡ page_bytes)
shows-told s = ((s.within, s.text), s.size)

pub written-eq : {n : ℕ} {l m : List ℕ} {old new : ArrayVec ℕ} → l ≡ m → Written n l old new → Written n m old new
written-eq {n = n} {old = old} {new = new} e w = subst (λ (k : List ℕ). Written n k old new) e w

pub written-none : {n : ℕ} (page : ArrayVec ℕ) → Written n [] page page
written-none page = record { text = λ h. sym (append-nil page.items) }

pub written-then : {n : ℕ} {l m : List ℕ} {a b c : ArrayVec ℕ} → Written n l a b → Written n m b c → Written n (l ++ m) a c
written-then {l = l} {m = m} {a = a} {b = b} {c = c} v w = record {
  text = λ h.
      let first : b.items ≡ a.items ++ l = v.text (omega (arith, h, length-append l m)) in
      let second : c.items ≡ b.items ++ m = w.text (omega (arith, h, ap length first, length-append {A = ℕ})) in
      second ∙ ap (λ (k : List ℕ). k ++ m) first ∙ append_assoc a.items l m;
}

pub written-shows : {l : List ℕ} {old new : ArrayVec ℕ} {page : Page} → Written page_bytes l old new → old.items ≡ [] → length l ≤ page_bytes
    → Shows new.items page → Shows l page
written-shows {l} {old} {new} w e h = shows-eq (w.text (omega (arith, ap length e)) ∙ ap (λ (k : List ℕ). k ++ l) e)
