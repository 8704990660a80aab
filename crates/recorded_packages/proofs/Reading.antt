-- A recorded reading, compared step by step. It rests on the definitions of specs/Readings and on lib.Seq.
--   Told h r l       == r says whether the reader, asked of l at the head's place, answers as recorded
--   agrees-past      == more bytes than there are do not agree
--   agrees-whole     == what the reader told of a part of the package, where the byte to change lies past the end
--   agrees-changed   == what it told of a part in which that byte was changed
--   put_back         == a byte that was changed, set to what it was
use mathlib.Core.Bool.{Bool, false}
use mathlib.Core.List.{List}
use mathlib.Core.Path.{◌≡◌, ◌∙◌}
use Prim.Native.Nat.{ℕ, ◌≤◌, ◌<◌}
use lib.ListN.{length, get_or, take, set}
use lib.Seq.{set_out, set-set, set-get_or}
use borrow.Author.Tests.{le-leb, lt-leb}
use Rattle.bits.specs.Range.{same}
use Rattle.rule_package.specs.Calls.{read_rule}
use Rattle.recorded.specs.Numbers.{half_at, word_at}
use Rattle.recorded_packages.specs.Readings.{numbers_of, numbers_at, handed, reading_agrees}

pub put_back : (b : List ℕ) (i x : ℕ) → set (set b i x) i (get_or b i 0) ≡ b
put_back b i x = set-set b i x (get_or b i 0) ∙ set-get_or b i 0

abbrev Told : List ℕ → Bool → List ℕ → Type 0
Told h r l = r ≡ same (numbers_of (read_rule l (word_at h 9))) (numbers_at h)

module _ (h b : List ℕ) {k : ℕ} (e : k ≡ half_at h 0) where
  pub agrees-past : length b < k → false ≡ reading_agrees h b
  unfolding reading_agrees
  agrees-past i = rw (← e, lt-leb k (length b) i)

  module _ (i : k ≤ length b) {r : Bool} where
    said : (l : List ℕ) → l ≡ handed h b → Told h r l → r ≡ reading_agrees h b
    unfolding reading_agrees
    said l f g = rw (← f, ← e, le-leb k (length b) i) g

    module _ {at : ℕ} (a : at ≡ half_at h 4) where
      pub agrees-whole : length b ≤ at → Told h r (take k b) → r ≡ reading_agrees h b
      agrees-whole j = said (take k b) (rw (← e, ← a, set_out b at (get_or h 8 0) j))

      pub agrees-changed : {x : ℕ} → x ≡ get_or h 8 0 → Told h r (take k (set b at x)) → r ≡ reading_agrees h b
      agrees-changed {x} f = said (take k (set b at x)) (rw (← e, ← a, ← f))
