-- What a call answers on paper: a result, or one refusal with its number and its place.
--   gives a                  == the result a
--   refuses k p              == refusal number k, place p
--   refuse bad k p rest      == one row of the refusal table: where bad holds the call refuses by number k at place p, else it goes on with rest
--   o then f                 == f of o's result; a refusal of o stands
--   written out l            == a buffer that held out, with the entries of l at its front and its other entries unchanged
--   front k out              == the first k entries of a buffer, one by one, so that there are k of them
--   left out o               == what a lent buffer holds after the call: the result at its front, or after a refusal what it held
use Rattle.std.specs.Prelude.{Bool, true, false, List, map, ℕ, get_or}
use Rattle.std.proofs.lemmas.List.Edits.{sets}
use Rattle.bits.specs.Range.{upto}

pub data Outcome (A : Type 0) : Type 0 where
  gives : A → Outcome A
  refuses : ℕ → ℕ → Outcome A

abbrev pub refuse : {A : Type 0} → Bool → ℕ → ℕ → Outcome A → Outcome A
refuse true k p rest = refuses k p
refuse false k p rest = rest

infixl 20 ◌then◌
abbrev pub ◌then◌ : {A B : Type 0} → Outcome A → (A → Outcome B) → Outcome B
gives a then f = f a
refuses k p then f = refuses k p

-- "Output past the result is unchanged."
abbrev pub written : List ℕ → List ℕ → List ℕ
written out l = sets out 0 l

abbrev pub front : ℕ → List ℕ → List ℕ
front k out = map (λ i. get_or out i 0) (upto k)

-- "A refusal gives the number and a place, and no lent buffer changes."
abbrev pub left : List ℕ → Outcome (List ℕ) → List ℕ
left out (gives l) = written out l
left out (refuses k p) = out
