-- The listing call in numbers, and one recorded form on paper: n flags, the coefficient words w, the head h, and the bytes m of the masks.
--   listed_of o             == of the outcome on paper: the constant and the number of monomials, or the refusal
--   masks_after b o         == what a lent buffer that held b holds after it
--   contents_of c           == of what was listed
--   listed_by a             == of an answer
--   lent_words n c          == the coefficients in the bytes c as words, and full words after them, 1027 in all
--   masks_in k m            == the first k masks in m
--   refused_as n w k e      == the listing into k entries tells e and leaves them as they were
--   short_refused n w k d   == into d entries fewer than its k monomials it is refused by row 5; a form with fewer monomials has no such buffer
--   listed_as n w k h m     == into k entries it tells the constant and the number that h has, and leaves the masks at the front
--   form_agrees n w h m f d == the form is refused with f flags and in a buffer that lacks d entries, and else listed, with three entries to spare
use Rattle.std.specs.Prelude.{Result, Bool, ◌&&◌, ◌||◌, List, [], ◌∷◌, map, ◌++◌, ℕ, ◌+◌, ◌*◌, ◌-◌, ◌^◌, leb, ltb, length, get_or, replicate}
use Rattle.bits.specs.Bit.{digit}
use Rattle.bits.specs.Range.{upto}
use Rattle.rules.specs.Calls as paper
use Rattle.rules.specs.Outcome as result
use Rattle.rules.specs.Outcome.{gives, left, ◌then◌}
use Rattle.rules.specs.declared.refusal.Refusal.{Refusal}
use Rattle.anf_form.specs.declared.Contents.{Contents}
use Rattle.comparison.specs.Called.{comes_to}
use Rattle.comparison.specs.Outcome.{results, refusal, numbers_of, answer_of}
use Rattle.comparison.specs.declared.outcome.Outcome.{Outcome}
use Rattle.recorded.specs.Numbers.{pair_at, words_in}
use Rattle.recorded.specs.Pattern.{mask}
use Rattle.recorded.specs.Sizes.{entries_of, words_of}

abbrev pub listed_of : result.Outcome paper.Listing → Outcome
listed_of = numbers_of (λ l. digit l.constant ∷ length l.masks ∷ 0 ∷ 0 ∷ [])

abbrev pub masks_after : List ℕ → result.Outcome paper.Listing → List ℕ
masks_after b o = left b (o then (λ l. gives l.masks))

abbrev pub contents_of : Contents → List ℕ
contents_of c = digit c.constant ∷ c.count ∷ 0 ∷ 0 ∷ []

abbrev pub listed_by : Result Contents Refusal → Outcome
listed_by = answer_of contents_of

abbrev pub lent_words : ℕ → List ℕ → List ℕ
lent_words n c = words_in (words_of n) c ++ replicate (1027 - words_of n) (2 ^ 64 - 1)

abbrev pub masks_in : ℕ → List ℕ → List ℕ
masks_in k m = map (λ i. pair_at m (2 * i)) (upto k)

unfoldable pub refused_as : ℕ → List ℕ → ℕ → Outcome → Bool
refused_as n w k e = comes_to listed_of masks_after (paper.listing n w k) (replicate k mask) e (replicate k mask)

unfoldable pub short_refused : ℕ → List ℕ → ℕ → ℕ → Bool
short_refused n w k d = ltb k d || refused_as n w (k - d) (refusal 5 k)

unfoldable pub listed_as : ℕ → List ℕ → ℕ → List ℕ → List ℕ → Bool
listed_as n w k h m =
    leb (pair_at h 2) k
    && comes_to listed_of masks_after (paper.listing n w k) (replicate k mask) (results (get_or h 1 0) (pair_at h 2) 0 0)
    (masks_in (pair_at h 2) m ++ replicate (k - pair_at h 2) mask)

unfoldable pub form_agrees : ℕ → List ℕ → List ℕ → List ℕ → ℕ → ℕ → Bool
form_agrees n w h m f d =
    refused_as f w (entries_of n + 3) (refusal 1 0) && short_refused n w (pair_at h 2) d && listed_as n w (entries_of n + 3) h m
