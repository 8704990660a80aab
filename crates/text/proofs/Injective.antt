-- Equal meanings have equal answers: each is told from its meaning. Of a page what stands behind its text is free.
--   size_of-injective     == the flag counts of lines
--   shows_same           == pages of one text have as many bytes of it, and the same ones
use mathlib.Core.List.{List}
use mathlib.Core.Path.{◌≡◌, refl, sym, ap, subst, ◌∙◌}
use Prim.Native.Nat.{ℕ, ◌≤◌}
use native.Mathlib.Bridge.{le_prop}
use native.Mathlib.Omega.{arith}
use lib.ListN.{length, take}
use lib.Seq.{length-take-le}
use Rattle.std.specs.Prelude.{Option as Optional, Some, None}
use Rattle.rules.specs.declared.flags.Flags.{Flags}
use Rattle.text.specs.TableDigits.{size_of}
use Rattle.text.specs.Page.{Shows}
use Rattle.text.specs.declared.Page.{Page}

-- a count within the limit is told by the count alone
counted : (a b : ℕ) (x : a ≤ 6) (y : b ≤ 6) → a ≡ b
    → ◌≡◌ {A = Flags 6} (record { count = a; within = x }) (record { count = b; within = y })
counted a b x y e =
    subst (λ (k : ℕ). (z : k ≤ 6) → ◌≡◌ {A = Flags 6} (record { count = a; within = x }) (record { count = k; within = z })) e
    (λ z. ap (λ (w : a ≤ 6). record { count = a; within = w }) (le_prop x z)) y

pub size_of-injective : (s t : Optional (Flags 6)) → size_of s ≡ size_of t → s ≡ t
size_of-injective (Some f) (Some g) e = ap Some (counted f.count g.count f.within g.within cc)
size_of-injective (Some f) None e = cc
size_of-injective None (Some f) e = cc
size_of-injective None None e = refl

shows-count : {l : List ℕ} {page : Page} → Shows l page → page.count ≡ length l
shows-count {page = page} s =
    sym (length-take-le page.count page.bytes (omega (arith, s.within, s.size))) ∙ ap length s.text

pub shows_same : {l : List ℕ} (p q : Page) → Shows l p → Shows l q
    → (p.count ≡ q.count) × (take p.count p.bytes ≡ take q.count q.bytes)
shows_same p q s t = (shows-count s ∙ sym (shows-count t), s.text ∙ sym t.text)
