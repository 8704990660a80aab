-- Entries of a table: those at the front, and those that bytes hold, how many there are and the bit that counts. It rests on tabulated lists (bits,
-- Tabulated).
--   settings-few     == six flags have 64 settings at most
--   entries-front    == the entries at the front are all that the table of so many settings has
--   length-entries   == a cut last entry doesn't count
--   entry-entries    == bit 0 of an entry is bit 0 of its low byte
use mathlib.Core.List.{List}
use mathlib.Core.Path.{◌≡◌, sym, ap, ◌∙◌}
use Prim.Native.Nat.{ℕ, ◌+◌, ◌*◌, ◌/◌, ◌%◌, ◌^◌, ◌≤◌, ◌<◌}
use native.Mathlib.Omega.{arith}
use native.Mathlib.Nat.{add-zero}
use lib.Dec.{eqb}
use lib.ListN.{length, get_or, take}
use lib.Pow.{pow_mono}
use borrow.Author.Tests.{ltb-true}
use Rattle.std.proofs.lemmas.List.{length-take-le, get_or-take}
use Rattle.bits.specs.Bit.{bit}
use Rattle.bits.specs.Range.{from, upto, keep}
use Rattle.bits.specs.Sum.{sum}
use Rattle.bits.specs.Word.{word}
use Rattle.bits.proofs.Range.{keep-ext, mem-upto}
use Rattle.bits.proofs.Bit.{bit-first}
use Rattle.rules.specs.Console.{entry_at, entries}
use Rattle.rules.specs.Table.{entry}
use Rattle.bits.proofs.Tabulated.{length-map-upto, get_or-map-upto}

pub length-entries : (b : List ℕ) → length (entries b) ≡ length b / 8
unfolding entries
length-entries b = length-map-upto (length b / 8) (entry_at b)

-- the low byte, and the rest a multiple of 256
low_byte : (b : List ℕ) (i : ℕ) → entry_at b i % 2 ≡ get_or b (8 * i) 0 % 2
unfolding entry_at sum from
low_byte b i =
    let e : get_or b (8 * i + 0) 0 ≡ get_or b (8 * i) 0 = ap (λ (k : ℕ). get_or b k 0) (add-zero (8 * i)) in
    omega arith

pub entry-entries : (b : List ℕ) (s : ℕ) → s < length b / 8 → entry (entries b) s ≡ bit (get_or b (8 * s) 0) 0
unfolding entries
entry-entries b s h =
    ap (λ (x : ℕ). bit x 0) (get_or-map-upto (length b / 8) (entry_at b) s h) ∙ bit-first (entry_at b s) ∙ ap (λ (x : ℕ). eqb x 1) (low_byte b s)
    ∙ sym (bit-first (get_or b (8 * s) 0))

pub settings-few : (n : ℕ) → n ≤ 6 → 2 ^ n ≤ 64
settings-few n h = pow_mono {j = 6} h

pub entries-front : (t : List ℕ) (k : ℕ) → k ≤ length t → word (keep (entry (take k t)) (upto (length (take k t)))) ≡ word (keep (entry t) (upto k))
entries-front t k h =
    ap (λ (n : ℕ). word (keep (entry (take k t)) (upto n))) (length-take-le k t h)
    ∙ ap word
    (keep-ext (entry (take k t)) (entry t) (upto k)
    (λ s m. ap (λ (x : ℕ). bit x 0) (get_or-take k t s 0 (ltb-true s k (sym (mem-upto k s) ∙ m)))))
