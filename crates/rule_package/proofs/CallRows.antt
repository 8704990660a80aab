-- Request 4 of document 02, computed with the definitions: a rule in a package, the reader with its refusals in their order, and rules read and
-- written one behind the other. The values are worked by hand from the request's sentences, which the comments quote, and from how its open points
-- are read; nothing here came from a program.
--   refused_in, refused_for    == the reader refuses a rule so, alone and behind another rule; for is for a place that is no byte
--   is_overlong, is_allowed    == a package of 65,537 bytes is refused at each of some places, and one of 65,536 is not
use mathlib.Core.Bool.{Bool, ◌&&◌, false≢true}
use mathlib.Core.List.{List, [], ◌∷◌, ◌++◌}
use mathlib.Core.Path.{◌≡◌, refl, sym, ap}
use Prim.Native.Nat.{ℕ, ◌+◌, ◌-◌, ◌^◌}
use native.Mathlib.Omega.{arith}
use lib.Dec.{T}
use lib.ListN.{length, take, drop, replicate}
use Rattle.rules.specs.Outcome.{gives, refuses}
use Rattle.rules.proofs.Answers.{is_refusal, is_number}
use Rattle.rule_package.specs.Calls.{Writes, rule_at, rule_in, rule_from, placed, headed, in_package, read_rule, Reads}
use Rattle.rule_package.specs.Rule.{rule_bytes}
use Rattle.rule_package.proofs.Answers.{packaging, rule, bytes, is_rule, is_rule_at, is_placed, is_headed, is_read, is_end, two, first, second, long}

-- ---- a rule in a package

-- the sentence of a rule's bytes, read back: a package of two rules, and a rule with any bytes before it, a length of 8 + 256 and a table whose bytes
-- are 1 to 8
pub rule-at-rows :
    T (
    is_rule_at first (rule_at two 0)
    && is_rule_at second (rule_at two 21)
    && is_rule_at (record { flags = 6; table = 0x0807060504030201; start = 15; length = 264; next = 279 })
    (rule_at (99 ∷ 98 ∷ 82 ∷ 85 ∷ 6 ∷ 8 ∷ 1 ∷ 1 ∷ 2 ∷ 3 ∷ 4 ∷ 5 ∷ 6 ∷ 7 ∷ 8 ∷ 67 ∷ 79 ∷ 0 ∷ []) 2)
    && is_rule_at (record { flags = 5; table = 2 ^ 32 - 2; start = 13; length = 263; next = 276 }) (rule_at (rule_bytes long) 0)
    && is_rule (rule 2 14 "VA0 VA1 OR") (rule_in two first)
    && is_rule (rule 1 1 "VA0 NO") (rule_in two second)
    )
unfolding packaging rule long is_rule is_rule_at
rule-at-rows = tt

-- a rule as it stands at a place, and rules end to end: `0111` and behind it `10`
pub placed-rows :
    T (
    is_rule_at first (rule_from 0 (rule 2 14 "VA0 VA1 OR"))
    && is_rule_at second (rule_from 21 (rule 1 1 "VA0 NO"))
    && is_placed (first ∷ second ∷ []) (placed 0 (rule 2 14 "VA0 VA1 OR" ∷ rule 1 1 "VA0 NO" ∷ []))
    && is_placed (second ∷ []) (placed 21 (rule 1 1 "VA0 NO" ∷ []))
    && is_placed [] (placed 5 [])
    )
unfolding packaging rule is_rule_at is_placed
placed-rows = tt

-- ---- the reader

-- "The reader takes a package and a place and gives the rule there with the next place, or the end at or past the package's length."; it looks at
-- nothing before its place, nor behind its rule
pub reader-rows :
    T (
    is_read first (read_rule two 0)
    && is_read second (read_rule two 21)
    && is_end (read_rule two 39)
    && is_end (read_rule two 40)
    && is_end (read_rule [] 0)
    && is_end (read_rule [] 13)
    && is_read first (read_rule (take 21 two) 0)
    && is_read first (read_rule (take 21 two ++ 82 ∷ []) 0)
    && is_read second (read_rule (replicate 21 0 ++ drop 21 two) 21)
    && is_read (record { flags = 0; table = 1; start = 16; length = 3; next = 19 }) (read_rule (7 ∷ 8 ∷ 9 ∷ bytes 0 3 1 "CO1") 3)
    && is_read (record { flags = 0; table = 0; start = 13; length = 3; next = 16 }) (read_rule (bytes 0 3 0 "CO0") 0)
    )
unfolding packaging bytes is_read is_end
reader-rows = tt

-- "two bytes of expression length (low byte first)"
pub long-row : T (is_read (record { flags = 5; table = 2 ^ 32 - 2; start = 13; length = 263; next = 276 }) (read_rule (rule_bytes long ++ two) 0))
unfolding packaging long is_read
long-row = tt

-- "eight table bytes (low first, bit s for setting s)"
pub wide_rows :
    T (
    is_read (record { flags = 4; table = 65450; start = 13; length = 8; next = 21 })
    (read_rule (82 ∷ 85 ∷ 4 ∷ 8 ∷ 0 ∷ 170 ∷ 255 ∷ 0 ∷ 0 ∷ 0 ∷ 0 ∷ 0 ∷ 0 ∷ 86 ∷ 65 ∷ 0 ∷ 86 ∷ 65 ∷ 3 ∷ 79 ∷ 82 ∷ []) 0)
    && is_read (record { flags = 6; table = 2 ^ 64 - 2 ^ 32; start = 13; length = 3; next = 16 })
    (read_rule (82 ∷ 85 ∷ 6 ∷ 3 ∷ 0 ∷ 0 ∷ 0 ∷ 0 ∷ 0 ∷ 255 ∷ 255 ∷ 255 ∷ 255 ∷ 86 ∷ 65 ∷ 5 ∷ []) 0)
    )
unfolding packaging is_read
wide_rows = tt

-- what is refused by number k at place p of its own, alone and behind the first rule
unfoldable pub refused_in : ℕ → ℕ → List ℕ → Bool
unfolding packaging is_refusal
refused_in k p s = is_refusal k p (read_rule s 0) && is_refusal k (21 + p) (read_rule (take 21 two ++ s) 21)

-- the same where the place is no byte
unfoldable pub refused_for : ℕ → ℕ → List ℕ → Bool
unfolding packaging is_refusal
refused_for k p s = is_refusal k p (read_rule s 0) && is_refusal k p (read_rule (take 21 two ++ s) 21)

-- "15 when the mark is wrong or cut": one byte left is cut; before 16, 1 and 17
pub mark-refusals :
    T (
    refused_in 15 0 (82 ∷ [])
    && refused_in 15 0 (0 ∷ [])
    && refused_in 15 0 (82 ∷ 82 ∷ [])
    && refused_in 15 0 (85 ∷ 85 ∷ [])
    && refused_in 15 0 (85 ∷ drop 1 two)
    && refused_in 15 0 (85 ∷ 82 ∷ drop 2 two)
    && refused_in 15 0 (114 ∷ 117 ∷ drop 2 two)
    && refused_in 15 0 (0 ∷ two)
    && refused_in 15 0 (0 ∷ drop 1 (bytes 7 9 14 "?"))
    && refused_in 15 0 (0 ∷ drop 1 (bytes 7 1 14 "?"))
    && refused_in 15 0 (0 ∷ drop 1 (bytes 2 1 16 "?"))
    && is_refusal 15 1 (read_rule two 1)
    && is_refusal 15 20 (read_rule two 20)
    && is_refusal 15 38 (read_rule two 38)
    && is_refusal 15 7 (headed two 7)
    )
unfolding packaging bytes refused_in is_refusal
mark-refusals = tt

-- "16 when header or expression runs past the end": `RU` with fewer than 11 bytes behind it, and a whole header, before 1, 17 and the records; a rule
-- that ends at the end is whole
pub end-refusals :
    T (
    refused_in 16 0 (82 ∷ 85 ∷ [])
    && refused_in 16 0 (82 ∷ 85 ∷ 7 ∷ [])
    && refused_in 16 0 (take 12 two)
    && refused_in 16 0 (take 12 (bytes 2 0 14 ""))
    && refused_in 10 13 (bytes 2 0 14 "")
    && refused_in 16 0 (take 13 two)
    && refused_in 16 0 (take 20 two)
    && refused_in 16 0 (bytes 2 9 14 "VA0 VA1 OR")
    && refused_in 16 0 (bytes 7 9 14 "VA0 VA1 OR")
    && refused_in 16 0 (bytes 2 9 30 "VA0 VA1 OR")
    && refused_in 16 0 (bytes 2 2 14 "?")
    && refused_in 16 0 (82 ∷ 85 ∷ 2 ∷ 8 ∷ 1 ∷ drop 5 two)
    && is_refusal 16 21 (headed (take 38 two) 21)
    && is_headed second (headed two 21)
    )
unfolding packaging bytes refused_in is_refusal is_headed
end-refusals = tt

-- "Per rule the order is 15, 16, 1, 17, all at the rule's first byte, then the examiner's numbers": 1 is above 6 flags
pub flag-refusals :
    T (
    refused_in 1 0 (bytes 7 8 14 "VA0 VA1 OR")
    && refused_in 1 0 (bytes 7 1 14 "?")
    && refused_in 1 0 (bytes 64 3 2 "CO0")
    && refused_in 1 0 (bytes 255 0 0 "")
    && refused_for 12 1 (bytes 6 3 2 "CO0")
    && is_refusal 1 0 (headed (bytes 7 1 14 "?") 0)
    )
unfolding packaging bytes refused_in refused_for is_refusal
flag-refusals = tt

-- "17 when a table bit stands at 2^n or above", before the records; bit 32 is the lowest of the fifth byte, bit 63 the highest of the eighth
pub table-refusals :
    T (
    refused_in 17 0 (bytes 2 8 30 "VA0 VA1 OR")
    && refused_in 17 0 (bytes 2 1 16 "?")
    && refused_in 17 0 (bytes 0 3 2 "CO0")
    && refused_in 17 0 (bytes 0 3 3 "CO1")
    && refused_in 17 0 (bytes 0 3 3 "CO0")
    && refused_in 17 0 (bytes 2 0 16 "")
    && refused_in 17 0 (82 ∷ 85 ∷ 5 ∷ 3 ∷ 0 ∷ 0 ∷ 0 ∷ 0 ∷ 0 ∷ 1 ∷ 0 ∷ 0 ∷ 0 ∷ 67 ∷ 79 ∷ 0 ∷ [])
    && refused_for 12 31 (82 ∷ 85 ∷ 5 ∷ 3 ∷ 0 ∷ 0 ∷ 0 ∷ 0 ∷ 128 ∷ 0 ∷ 0 ∷ 0 ∷ 0 ∷ 67 ∷ 79 ∷ 0 ∷ [])
    && refused_for 12 63 (82 ∷ 85 ∷ 6 ∷ 3 ∷ 0 ∷ 0 ∷ 0 ∷ 0 ∷ 0 ∷ 0 ∷ 0 ∷ 0 ∷ 128 ∷ 67 ∷ 79 ∷ 0 ∷ [])
    && is_refusal 17 0 (headed (bytes 2 1 16 "?") 0)
    )
unfolding packaging bytes refused_in refused_for is_refusal
table-refusals = tt

-- "byte places counted from the package start and those of 12 and 13 as before"
pub place-rows :
    T (
    is_refusal {A = ℕ} 6 16 (in_package 13 (refuses 6 3))
    && is_refusal {A = ℕ} 7 34 (in_package 34 (refuses 7 0))
    && is_refusal {A = ℕ} 8 37 (in_package 34 (refuses 8 3))
    && is_refusal {A = ℕ} 9 784 (in_package 13 (refuses 9 771))
    && is_refusal {A = ℕ} 10 19 (in_package 13 (refuses 10 6))
    && is_refusal {A = ℕ} 12 3 (in_package 13 (refuses 12 3))
    && is_refusal {A = ℕ} 13 385 (in_package 34 (refuses 13 385))
    && is_number 3 (in_package 13 (gives 3))
    )
unfolding packaging is_refusal is_number
place-rows = tt

-- "then the examiner's numbers": behind a header of 13 bytes, and 10 at the place behind the expression, also where more bytes follow
pub examiner-refusals :
    T (
    refused_in 6 13 (bytes 2 1 14 "?")
    && refused_in 6 16 (bytes 2 4 14 "VA0 ?")
    && refused_in 7 16 (bytes 2 8 14 "VA0 VA2 OR")
    && refused_in 7 13 (bytes 1 2 2 "VA0")
    && refused_in 8 16 (bytes 2 5 14 "VA0 OR")
    && refused_in 10 19 (bytes 2 6 14 "VA0 VA1")
    && refused_in 10 19 (bytes 2 6 14 "VA0 VA1 OR")
    && refused_in 10 13 (bytes 2 0 14 "" ++ two)
    && refused_for 12 3 (bytes 2 8 6 "VA0 VA1 OR")
    && refused_for 12 0 (bytes 2 8 15 "VA0 VA1 OR")
    && refused_for 13 5 (bytes 2 11 10 "VA0 NO NO NO NO")
    )
unfolding packaging bytes refused_in refused_for
examiner-refusals = tt

-- "An overlong package is refused first, at place 0.", whatever stands at its place, and before the end: of 65,537 bytes
unfoldable pub is_overlong : List ℕ → Bool
unfolding packaging is_refusal
is_overlong s =
    is_refusal 16 0 (read_rule s 0)
    && is_refusal 16 0 (read_rule s 21)
    && is_refusal 16 0 (read_rule s 65536)
    && is_refusal 16 0 (read_rule s 65537)
    && is_refusal 16 0 (read_rule s 65538)

-- "at most 65,536 bytes"
unfoldable pub is_allowed : List ℕ → Bool
unfolding packaging is_refusal is_read is_end
is_allowed s = is_read first (read_rule s 0) && is_refusal 15 21 (read_rule s 21) && is_end (read_rule s 65536) && is_end (read_rule s 65537)

-- 21 + 65,516 bytes, and one fewer
pub overlong-rows : T (is_overlong (take 21 two ++ replicate 65516 0) && is_allowed (take 21 two ++ replicate 65515 0))
unfolding is_overlong is_allowed
overlong-rows = tt

-- ---- "reading written rules, end to end .., gives the same rules"

pub reads-rows : Reads two 0 (first ∷ second ∷ []) × Reads two 21 (second ∷ []) × Reads two 39 [] × Reads [] 0 []
unfolding packaging
reads-rows = ((refl, (refl, refl)), (refl, refl), refl, refl)

-- the rules are those that are read, not others of the same places
pub reads-no-other : ¬ Reads two 21 (record { flags = 1; table = 2; start = 34; length = 5; next = 39 } ∷ [])
unfolding packaging is_read
reads-no-other h = false≢true (sym (ap (is_read second) h.0))

-- a reading goes on to the end, and a refusal is no end
pub reads-to-the-end : ¬ Reads two 0 (first ∷ [])
unfolding packaging is_end
reads-to-the-end h = false≢true (ap is_end h.1)

pub reads-no-refusal : ¬ Reads (two ++ 82 ∷ []) 39 []
unfolding packaging is_end
reads-no-refusal h = false≢true (ap is_end h)

-- ---- "written rules, end to end"

-- what the writer gives for the two rules, each in the room that it needs, and for none
pub writes-rows : Writes (rule 2 14 "VA0 VA1 OR" ∷ rule 1 1 "VA0 NO" ∷ []) two × Writes [] []
unfolding packaging rule
writes-rows = ((21, take 21 two, drop 21 two, refl, refl, (18, drop 21 two, [], refl, refl, refl)), refl)

-- nothing stands behind the last rule
pub writes-no-more : ¬ Writes [] (82 ∷ [])
writes-no-more e = let z : ◌≡◌ {A = ℕ} 1 0 = ap length e in omega arith
