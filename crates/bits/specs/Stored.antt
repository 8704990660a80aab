-- Entries stored in a lent buffer at a place: what a function that stores them needs, and what it leaves behind.
--   Room l a out             == the entries l fit into the buffer from place a on
--   Stored l a b out after   == from place a to place b, which is in the buffer, stand the entries l, and the rest of the buffer is as it was
use Rattle.std.specs.Prelude.{List, ◌≡◌, ℕ, ◌+◌, ◌≤◌, length}
use Rattle.std.proofs.lemmas.List.Edits.{sets}

pub record Room (l : List ℕ) (a : ℕ) (out : List ℕ) : Type 0 where
  pub fits : a + length l ≤ length out

pub record Stored (l : List ℕ) (a b : ℕ) (out after : List ℕ) : Type 0 where
  pub place : b ≡ a + length l
  pub within : b ≤ length out
  pub entries : after ≡ sets out a l
