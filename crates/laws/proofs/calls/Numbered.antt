-- Every refusal has a number above 0, so a number 0 means a result: the console's two calls together tell the outcome.
-- It rests on the rows of the calls, and for the reading of an expression on Refused.
--   Positive k p, Numbered o == k is above 0, whatever the place p; a refusal of o has such a number
--   numbered-made            == so for the reading of an expression
--   numbered-transform, numbered-way_back, numbered-listing, numbered-raw_costing, numbered-compile      == for the calls on tables and coefficients
--   numbered-read, numbered-evaluate, numbered-evaluate_stars, numbered-costing, numbered-examine       == for those on expressions
--   both-tell                == number and result together tell such an outcome
use mathlib.Core.Bool.{not}
use mathlib.Core.List.{List}
use mathlib.Core.Path.{◌≡◌, ap, ap₂}
use Prim.Native.Nat.{ℕ, ◌^◌, ◌<◌}
use native.Mathlib.Omega.{arith}
use lib.Dec.{ltb, leb}
use lib.ListN.{length}
use Rattle.rules.specs.Calls.{with_table, with_coefficients, with_room, fill, transform, way_back, listing, raw_costing, compile}
use Rattle.rules.specs.Calls.{read, parse, evaluate, evaluate_stars, costing, examine}
use Rattle.rules.specs.Console.{number, result}
use Rattle.rules.specs.Coefficient.{word_count, stray}
use Rattle.rules.specs.Limits.{form_flags, rule_flags}
use Rattle.rules.specs.Machine.{made}
use Rattle.rules.specs.Outcome.{Outcome, gives, refuses}
use Rattle.rules.specs.Table.{complete}
use Rattle.laws.proofs.calls.Refused.{By, by_row, by-step, made_by, read_by, examined-by}

abbrev pub Positive : ℕ → ℕ → Type 0
Positive k p = 0 < k

abbrev pub Numbered : {A : Type 0} → Outcome A → Type 0
Numbered o = By Positive o

pub numbered-made : (n : ℕ) (s : List ℕ) → Numbered (made n s)
numbered-made n s = made_by Positive n s (omega arith)

-- ---- tables, coefficients and room

table-row : {A : Type 0} (limit n : ℕ) (table : List ℕ) (rest : Outcome A) → Numbered rest → Numbered (with_table limit n table rest)
unfolding with_table
table-row limit n table rest r =
    by_row Positive (ltb limit n) _ _ _ (omega arith) (by_row Positive (not (complete n table)) _ _ _ (omega arith) r)

coefficients-row : {A : Type 0} (limit n : ℕ) (ws : List ℕ) (rest : Outcome A) → Numbered rest → Numbered (with_coefficients limit n ws rest)
unfolding with_coefficients
coefficients-row limit n ws rest r =
    by_row Positive (ltb limit n) _ _ _ (omega arith)
    (by_row Positive (ltb (length ws) (word_count n)) _ _ _ (omega arith) (by_row Positive (stray n ws) _ _ _ (omega arith) r))

room_row : {A : Type 0} (room : ℕ) (l : List ℕ) (rest : Outcome A) → Numbered rest → Numbered (with_room room l rest)
unfolding with_room
room_row room l rest r = by_row Positive (ltb room (length l)) _ _ _ (omega arith) r

-- ---- the calls

pub numbered-transform : (n : ℕ) (table : List ℕ) (room : ℕ) → Numbered (transform n table room)
unfolding transform fill
numbered-transform n table room = table-row form_flags n table _ (room_row room _ _ tt)

pub numbered-way_back : (n : ℕ) (ws : List ℕ) (room : ℕ) → Numbered (way_back n ws room)
unfolding way_back fill
numbered-way_back n ws room = coefficients-row form_flags n ws _ (room_row room _ _ tt)

pub numbered-listing : (n : ℕ) (ws : List ℕ) (room : ℕ) → Numbered (listing n ws room)
unfolding listing
numbered-listing n ws room = coefficients-row form_flags n ws _ (room_row room _ _ tt)

pub numbered-raw_costing : (n : ℕ) (ws : List ℕ) → Numbered (raw_costing n ws)
unfolding raw_costing
numbered-raw_costing n ws = coefficients-row rule_flags n ws _ tt

pub numbered-compile : (n : ℕ) (table : List ℕ) (room : ℕ) → Numbered (compile n table room)
unfolding compile
numbered-compile n table room = table-row rule_flags n table _ (room_row room _ _ tt)

pub numbered-read : (n : ℕ) (s : List ℕ) (at : ℕ) → Numbered (read n s at)
unfolding read
numbered-read n s at = by_row Positive (ltb rule_flags n) _ _ _ (omega arith) (read_by Positive n s (omega arith) at (omega arith))

pub numbered-costing : (n : ℕ) (s : List ℕ) → Numbered (costing n s)
unfolding costing parse
numbered-costing n s = by-step Positive (parse n s) _ (by_row Positive (ltb rule_flags n) _ _ _ (omega arith) (numbered-made n s)) (λ t. tt)

pub numbered-evaluate : (n : ℕ) (s : List ℕ) (at : ℕ) → Numbered (evaluate n s at)
unfolding evaluate
numbered-evaluate n s at =
    by_row Positive (ltb rule_flags n) _ _ _ (omega arith)
    (by_row Positive (leb (2 ^ n) at) _ _ _ (omega arith) (by-step Positive (made n s) _ (numbered-made n s) (λ t. tt)))

pub numbered-evaluate_stars : (n : ℕ) (ws s : List ℕ) → Numbered (evaluate_stars n ws s)
unfolding evaluate_stars
numbered-evaluate_stars n ws s =
    by_row Positive (ltb rule_flags n) _ _ _ (omega arith)
    (by_row Positive (ltb (length ws) n) _ _ _ (omega arith) (by-step Positive (made n s) _ (numbered-made n s) (λ t. tt)))

pub numbered-examine : (n : ℕ) (table s : List ℕ) → Numbered (examine n table s)
unfolding examine
numbered-examine n table s = table-row rule_flags n table _ (examined-by Positive (omega arith) (omega arith) n table s (omega arith))

-- ---- the two together

pub both-tell : (o q : Outcome ℕ) → Numbered o → Numbered q → number o ≡ number q → result o ≡ result q → o ≡ q
both-tell (gives a) (gives b) h r e f = ap gives f
both-tell (gives a) (refuses k p) h r e f = absurd (omega (arith, r, e))
both-tell (refuses k p) (gives b) h r e f = absurd (omega (arith, h, e))
both-tell (refuses k p) (refuses j q) h r e f = ap₂ refuses e f
