-- The comparison of a recorded form, step by step. It rests on the definitions of specs/Listings and on parts of lists (recorded, Part).
--   listed-told                  == an answer in numbers is the outcome that it tells
--   refused-at                   == a refusal's outcome, of its condition and its place
--   refused-said                 == what the listing into a buffer of the pattern told and left, compared with a refusal
--   short_none, short-said       == a form with fewer monomials than the buffer is to lack, and one with as many
--   listed-past, listed-said     == more masks recorded than there is room for, and a list that fits
--   masks-set                    == a buffer of the pattern of which the front was set to masks
--   agrees-said                  == the three together
--   words-set                    == words of which the front was set
use mathlib.Core.Bool.{Bool, true, false, ◌&&◌}
use mathlib.Core.List.{List, [], ◌∷◌, ◌++◌}
use Rattle.std.specs.Prelude.{Result, Err, MatchResult, IsOkAnd}
use mathlib.Core.Path.{◌≡◌, sym, ap, ap₂, ◌∙◌}
use Prim.Native.Nat.{ℕ, ◌+◌, ◌-◌, ◌^◌, ◌≤◌, ◌<◌}
use lib.ListN.{length, get_or, take, drop, replicate, length-replicate}
use borrow.Author.Tests.{le-leb, lt-leb, lt-ltb, le-ltb}
use Rattle.bits.proofs.Tabulated.{length-map-upto}
use Rattle.bits.specs.Bit.{digit}
use Rattle.rules.specs.Calls as paper
use Rattle.rules.specs.Outcome as result
use Rattle.rules.specs.Outcome.{front}
use Rattle.rules.specs.Refusal.{number}
use Rattle.rules.specs.declared.refusal.Refusal.{Refusal}
use Rattle.anf_form.specs.Answers.{listing_of}
use Rattle.anf_form.specs.declared.Contents.{Contents}
use Rattle.comparison.specs.Called.{comes_to}
use Rattle.comparison.specs.Outcome.{results, refusal, answer_of}
use Rattle.comparison.specs.declared.outcome.Outcome.{Outcome}
use Rattle.comparison.proofs.Told.{told-of}
use Rattle.recorded.specs.Numbers.{pair_at, words_in}
use Rattle.recorded.specs.Pattern.{mask}
use Rattle.recorded.proofs.Part.{part-repeated, rest-repeated}
use Rattle.recorded.specs.Sizes.{entries_of, words_of}
use Rattle.recorded_listings.specs.Listings.{listed_of, masks_after, contents_of, lent_words, masks_in}
use Rattle.recorded_listings.specs.Listings.{refused_as, short_refused, listed_as, form_agrees}

pub listed-told : (out : List ℕ) {o : result.Outcome paper.Listing} {x : Outcome} (r : Result Contents Refusal) (m : Result (List ℕ) Refusal)
    → listing_of out r ≡ o → x ≡ answer_of (λ l. l) m → MatchResult r (λ k. IsOkAnd m (λ l. l ≡ contents_of k)) (λ e. m ≡ Err e) → x ≡ listed_of o
listed-told out r m q g p =
    told-of (λ l. digit l.constant ∷ length l.masks ∷ 0 ∷ 0 ∷ []) (λ k. record { constant = k.constant; masks = front k.count out }) r q m g p
    (λ k l f. f ∙ ap (λ (j : ℕ). digit k.constant ∷ j ∷ 0 ∷ 0 ∷ []) (sym (length-map-upto k.count (λ i. get_or out i 0))))

pub refused-at : {r s : Refusal} → r ≡ s → refusal (number r.reason) r.place ≡ refusal (number s.reason) s.place
refused-at = ap (λ (r : Refusal). refusal (number r.reason) r.place)

module _ (n : ℕ) (w : List ℕ) where
  -- the call with a buffer of the pattern, its length given by its entries
  by-room : (k : ℕ) (e : Outcome) {b l t : List ℕ} {r : Bool} → b ≡ replicate k mask → l ≡ t →
      r ≡ comes_to listed_of masks_after (paper.listing n w (length b)) b e l →
      r ≡ comes_to listed_of masks_after (paper.listing n w k) (replicate k mask) e t
  by-room k e {b} {l} {t} p q f =
      f ∙ ap₂ (λ (c m : List ℕ). comes_to listed_of masks_after (paper.listing n w (length c)) c e m) p q
      ∙ ap (λ (j : ℕ). comes_to listed_of masks_after (paper.listing n w j) (replicate k mask) e t) (length-replicate k mask)

  pub refused-said : (k : ℕ) (e : Outcome) {b l : List ℕ} {r : Bool} → b ≡ replicate k mask → l ≡ replicate k mask →
      r ≡ comes_to listed_of masks_after (paper.listing n w (length b)) b e l → r ≡ refused_as n w k e
  unfolding refused_as
  refused-said k e p q f = by-room k e p q f

  module _ (k d : ℕ) where
    pub short_none : k < d → true ≡ short_refused n w k d
    unfolding short_refused
    short_none h = rw (lt-ltb k d h)

    pub short-said : {e : Outcome} {r : Bool} → d ≤ k → e ≡ refusal 5 k → r ≡ refused_as n w (k - d) e → r ≡ short_refused n w k d
    unfolding short_refused
    short-said h p f = f ∙ rw (le-ltb k d h, p)

  module _ (k : ℕ) (h m : List ℕ) where
    pub listed-past : k < pair_at h 2 → false ≡ listed_as n w k h m
    unfolding listed_as
    listed-past l = rw (lt-leb (pair_at h 2) k l)

    pub listed-said : {j c : ℕ} {e : Outcome} {b l : List ℕ} {r : Bool} → pair_at h 2 ≤ k → j ≡ pair_at h 2 → c ≡ get_or h 1 0 →
        b ≡ replicate k mask → l ≡ masks_in j m ++ replicate (k - j) mask → e ≡ results c j 0 0 →
        r ≡ comes_to listed_of masks_after (paper.listing n w (length b)) b e l → r ≡ listed_as n w k h m
    unfolding listed_as
    listed-said f p q s t u v = by-room k _ s t v ∙ rw (le-leb (pair_at h 2) k f, u, p, q)

pub masks-set : (j k : ℕ) (m s : List ℕ) {l : List ℕ} → j ≤ k → s ≡ masks_in (length (take j l)) m → l ≡ replicate k mask →
    s ++ drop j l ≡ masks_in j m ++ replicate (k - j) mask
masks-set j k m s f p q =
    let front = ap length (part-repeated f mask q) ∙ length-replicate j mask in
    ap₂ ◌++◌ (p ∙ ap (λ (x : ℕ). masks_in x m) front) (rest-repeated f mask q)

pub agrees-said : (n : ℕ) (w h m : List ℕ) (f d : ℕ) {j k : ℕ} {e : Outcome} {r s t : Bool} → j ≡ entries_of n + 3 → k ≡ pair_at h 2 →
    e ≡ refusal 1 0 → r ≡ refused_as f w j e → s ≡ short_refused n w k d → t ≡ listed_as n w j h m → (r && s && t) ≡ form_agrees n w h m f d
unfolding form_agrees
agrees-said n w h m f d p q u x y z = rw (x, y, z, u, p, q)

pub words-set : (n : ℕ) (c : List ℕ) {k j : ℕ} {l s : List ℕ} → k ≡ words_of n → k ≤ 1027 → j ≡ k → l ≡ replicate 1027 (2 ^ 64 - 1) →
    s ≡ words_in j c → s ++ drop k l ≡ lent_words n c
words-set n c {k} e f g p q =
    ap₂ ◌++◌ (q ∙ ap (λ (i : ℕ). words_in i c) (g ∙ e))
    (rest-repeated f (2 ^ 64 - 1) p ∙ ap (λ (i : ℕ). replicate (1027 - i) (2 ^ 64 - 1)) e)
