-- The answer of a call for C, which returns the refusal's number (rules, Console) and stores 64-bit numbers at the front of a lent block.
--   stored block l     == the block after the numbers l: "As many of them are stored as there is room for, and nothing else of the block changes"
--   numbers f o        == the numbers of an outcome: f says those of a result; "after a refusal the place alone"
--   or_end o           == the numbers of what was read, or at the end 0 alone
--   Answers f o b r a  == a call whose outcome is o returned the number r, and stored the outcome's numbers in the block b, which then is a
use Rattle.std.specs.Prelude.{List, [], ◌∷◌, ◌≡◌, ℕ, Option, None, Some, length, take}
use Rattle.rules.specs.Console.{number}
use Rattle.rules.specs.Outcome.{Outcome, gives, refuses, written}

unfoldable pub stored : List ℕ → List ℕ → List ℕ
stored block l = written block (take (length block) l)

abbrev pub numbers : {A : Type 0} → (A → List ℕ) → Outcome A → List ℕ
numbers f (gives a) = f a
numbers f (refuses k p) = p ∷ []

-- "the kind, and nothing more at the end", whose kind is 0
abbrev pub or_end : Option (List ℕ) → List ℕ
or_end None = 0 ∷ []
or_end (Some l) = l

-- "Each call but rule_cheaper returns the refusal's number, 0 for none, and stores its answer at the front of the lent block"
abbrev pub Answers : {A : Type 0} → (A → List ℕ) → Outcome A → List ℕ → ℕ → List ℕ → Type 0
Answers f o block r after = (r ≡ number o) × (after ≡ stored block (numbers f o))
