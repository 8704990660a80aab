-- Forms and the order of their monomials. A form is the ascending list of the masks whose coefficient is 1; the mask 0 stands in it for the
-- constant 1.
--   form n c             == the form whose coefficients are c
--   constant l           == the form's constant
--   monomials l          == its monomials, ascending
--   on b l               == the masks l, and first, where the constant b is 1, the mask 0
--   precedes a b         == mask a comes before mask b in the list of monomials
--   ordered l            == the masks of l in that order; insert a l puts the mask a where it belongs
use Rattle.std.specs.Prelude.{Bool, true, false, ◌&&◌, ◌||◌, List, [], ◌∷◌, ℕ, ◌^◌, ltb, eqb}
use Rattle.std.specs.Int.Count.{ones}
use Rattle.bits.specs.Range.{upto, keep, mem}

-- the masks of n flags whose coefficient is 1
unfoldable pub form : ℕ → (ℕ → Bool) → List ℕ
form n c = keep c (upto (2 ^ n))

-- "the constant is coefficient 0"
abbrev pub constant : List ℕ → Bool
constant l = mem 0 l

-- "A monomial is a nonzero mask of flags whose coefficient is 1"
abbrev pub monomials : List ℕ → List ℕ
monomials l = keep (λ m. ltb 0 m) l

-- "constant 1 first"
abbrev pub on : Bool → List ℕ → List ℕ
on true l = 0 ∷ l
on false l = l

-- "by (count of ones, then mask)"
unfoldable pub precedes : ℕ → ℕ → Bool
precedes a b = ltb (ones a) (ones b) || eqb (ones a) (ones b) && ltb a b

unfoldable pub insert : ℕ → List ℕ → List ℕ
insert a [] = a ∷ []
insert a (b ∷ l) = elim (precedes a b) [ true ↦ a ∷ b ∷ l | false ↦ b ∷ insert a l ]

unfoldable pub ordered : List ℕ → List ℕ
ordered [] = []
ordered (a ∷ l) = insert a (ordered l)
