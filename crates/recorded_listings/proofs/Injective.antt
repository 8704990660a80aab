-- Equal numbers have equal answers, so what the replay compares tells a result from a refusal. It rests on the definitions of specs/Listings.
--   listed_by-injective                     == the answers of listing
use Rattle.std.specs.Prelude.{◌≡◌, Bool, true, false, ℕ, List, Result, get_or, refl, eqb}
use mathlib.Core.Path.{ap}
use Rattle.bits.specs.Bit.{digit}
use Rattle.rules.specs.declared.refusal.Refusal.{Refusal}
use Rattle.anf_form.specs.declared.Contents.{Contents}
use Rattle.comparison.proofs.Told.{answer_of-injective}
use Rattle.recorded_listings.specs.Listings.{contents_of, listed_by}

abbrev contents : List ℕ → Contents
contents l = record { constant = eqb (get_or l 0 0) 1; count = get_or l 1 0 }

one-digit : (b : Bool) → eqb (digit b) 1 ≡ b
one-digit true = refl
one-digit false = refl

pub listed_by-injective : (a b : Result Contents Refusal) → listed_by a ≡ listed_by b → a ≡ b
listed_by-injective =
    answer_of-injective contents_of contents (λ c. ap (λ (b : Bool). record { constant = b; count = c.count }) (one-digit c.constant))
