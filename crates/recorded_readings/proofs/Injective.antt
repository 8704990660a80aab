-- Equal numbers have equal outcomes, so what a replay compares tells a record from another, from the end and from a refusal. It rests on the
-- definitions of specs/Readings.
--   read_of-injective     == the outcomes of reading
use mathlib.Core.Bool.{Bool, true, false}
use mathlib.Core.List.{List}
use mathlib.Core.Option.{Option, none, some}
use mathlib.Core.Path.{◌≡◌, refl, ap}
use Prim.Native.Nat.{ℕ, ◌+◌, ◌-◌, ◌<◌, ◌≤◌}
use native.Mathlib.Decide.{dec_lt}
use native.Mathlib.Omega.{arith}
use lib.Dec.{eqb, ltb}
use lib.ListN.{get_or}
use borrow.Author.Tests.{lt-ltb, le-ltb, ne_eqb}
use Rattle.rules.specs.Machine.{Node}
use Rattle.rules.specs.Outcome as result
use Rattle.rules.specs.Record.{Kind, Constant, Flag, And, Or, Xor, Not}
use Rattle.comparison.proofs.Told.{numbers_of-injective}
use Rattle.recorded_readings.specs.Readings.{code_of, numbers_of, read_of}

abbrev pick : {A : Type 0} → Bool → A → A → A
pick true a b = a
pick false a b = b

abbrev kind : ℕ → Kind
kind k =
    pick (ltb k 2) (Constant (eqb k 1))
    (pick (ltb k 10) (Flag (k - 2))
    (pick (ltb k 256) (pick (eqb k 10) And (pick (eqb k 11) Or (pick (eqb k 12) Xor Not)))
    (Flag (k - 256))))

-- a flag's number is 2 to 9, or above 255
data Code (i : ℕ) : ℕ → Type 0 where
  low : i < 8 → Code i (2 + i)
  high : 8 ≤ i → Code i (256 + i)

code-of : (i : ℕ) → Code i (code_of (Flag i))
code-of i = elim (dec_lt i 8) [
  | yes h ↦ rw (lt-ltb i 8 h, code_of) (low h)
  | no h ↦ let g : 8 ≤ i = omega arith in rw (le-ltb i 8 g, code_of) (high g)
]

flag-of : (i k : ℕ) → Code i k → kind k ≡ Flag i
flag-of i k (low h) =
    let a : 2 ≤ 2 + i = omega arith in
    let b : 2 + i < 10 = omega arith in
    let e : 2 + i - 2 ≡ i = omega arith in
    rw (le-ltb (2 + i) 2 a, lt-ltb (2 + i) 10 b) (ap Flag e)
flag-of i k (high h) =
    let a : 2 ≤ 256 + i = omega arith in
    let b : 10 ≤ 256 + i = omega arith in
    let c : 256 ≤ 256 + i = omega arith in
    let e : 256 + i - 256 ≡ i = omega arith in
    rw (le-ltb (256 + i) 2 a, le-ltb (256 + i) 10 b, le-ltb (256 + i) 256 c) (ap Flag e)

kind-of : (k : Kind) → kind (code_of k) ≡ k
kind-of (Constant true) = refl
kind-of (Constant false) = refl
kind-of (Flag i) = flag-of i (code_of (Flag i)) (code-of i)
kind-of And = refl
kind-of Or = refl
kind-of Xor = refl
kind-of Not = refl

flag-end : (i k : ℕ) → Code i k → eqb k 255 ≡ false
flag-end i k (low h) = ne_eqb (2 + i) 255 (λ e. omega arith)
flag-end i k (high h) = ne_eqb (256 + i) 255 (λ e. omega arith)

-- no record has the number of the end
not_end : (k : Kind) → eqb (code_of k) 255 ≡ false
not_end (Constant true) = refl
not_end (Constant false) = refl
not_end (Flag i) = flag-end i (code_of (Flag i)) (code-of i)
not_end And = refl
not_end Or = refl
not_end Xor = refl
not_end Not = refl

abbrev back : List ℕ → Option Node
back l = pick (eqb (get_or l 0 0) 255) none
    (some (record { kind = kind (get_or l 0 0); first = get_or l 2 0; second = get_or l 3 0; next = get_or l 1 0 }))

back-of : (f : Option Node) → back (numbers_of f) ≡ f
back-of (some r) = rw (not_end r.kind) (ap (λ (k : Kind). some (record { kind = k; first = r.first; second = r.second; next = r.next }))
    (kind-of r.kind))
back-of none = refl

pub read_of-injective : (o q : result.Outcome (Option Node)) → read_of o ≡ read_of q → o ≡ q
read_of-injective = numbers_of-injective numbers_of back back-of
