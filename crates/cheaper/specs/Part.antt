-- Which part of two lent slices the cheaper of two is, as a reference: where it points and its list. It rests on `cheaper_of` of rules' Calls and on
-- the logic's account of a reference. What the part holds is rules' `cheaper_of_two` (`cheaper-contents`, Compared).
--   empty_part s             == the part of the slice s that begins where s begins and holds nothing
--   cheaper_part n a b       == the second slice whole, the first whole, or the empty part of the first
use Rattle.std.specs.Prelude.{List, [], ℕ}
use Rattle.std.specs.Borrow.{Bor}
use Rattle.rules.specs.Calls.{parse, cheaper_of}

abbrev pub empty_part : Bor (List ℕ) → Bor (List ℕ)
empty_part s = record { ref_ptr = s.ref_ptr; now = [] }

-- "an empty part of the first": of its empty parts the one at its front
unfoldable pub cheaper_part : ℕ → Bor (List ℕ) → Bor (List ℕ) → Bor (List ℕ)
cheaper_part n a b = cheaper_of (empty_part a) a b (parse n a.now) (parse n b.now)
