-- A part of an input between two places, for the laws of proofs/PartsAt.
--   others b s r         == the parts behind place r, at which b or the end of s stands
--   Part b s from r      == from place `from` to r stands a part of s at b, and behind it the others
use Rattle.std.specs.Prelude.{true, false, List, [], ◌∷◌, ◌≡◌, ℕ, ◌+◌, ◌-◌, ◌≤◌, ltb, length, take, drop}
use Rattle.examination_text.specs.Notation.{split}

unfoldable pub others : ℕ → List ℕ → ℕ → List (List ℕ)
others b s r = elim (ltb r (length s)) [ true ↦ split b (drop (r + 1) s) | false ↦ [] ]

pub record Part (b : ℕ) (s : List ℕ) (from r : ℕ) : Type 0 where
  pub behind : from ≤ r
  pub within : r ≤ length s
  pub parts : split b (drop from s) ≡ take (r - from) (drop from s) ∷ others b s r
