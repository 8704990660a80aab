-- A part of a list.
--   part s p k       == the k elements of s from place p on, or what is left of them
use Rattle.std.specs.Prelude.{List, ℕ, take, drop}

abbrev pub part : List ℕ → ℕ → ℕ → List ℕ
part s p k = take k (drop p s)
