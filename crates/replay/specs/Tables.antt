-- The small tables of a file as a replay counts them. S is the type of the file, `remaining` what is known of its bytes, `called` the closure that
-- compares a table, and `size` how many bytes a table's head has.
--   Compared s f n i b t g   == from the file s a whole head was read, and the call of f at table i of n flags and at that head was then answered b
--                               and left t and g
--   Turn s f n i b t g       == table i of n flags was so compared, or s has no whole head, and then nothing is left of it and b is no
--   Turns n s f k c l t g    == the first c tables of n flags were so compared in order, from s and f to t and g, and l counts the answers after k
--   Counted s f n k t g      == all tables of fewer than n flags were so compared, flag count by flag count, and k counts the answers
use Rattle.std.specs.Prelude.{◌≡◌, ℕ, suc, ◌<◌, ◌^◌, Bool, false, List, length, Option, IfSome, Result, Ok}
use Rattle.std.specs.Fn.{Mut, Called}
use Rattle.std.specs.Int.{w32, to_le_bytes}
use Rattle.std.specs.Io.KnownBytes.{Consumes, IsAtEnd}
use denote.Ref.{Bor, MutBor}
use Rattle.comparison.specs.declared.tally.Tally.{Tally}
use Rattle.comparison.specs.Tally.{empty, one_more}

module _ {S F E : Type 0} (remaining : S → Option (List ℕ))
    (called : Mut F (MutBor S × (ℕ × (Bor (List ℕ) × (Bor (List ℕ) × Unit {0})))) (Result Bool E × (MutBor S × Unit {0}))) (size : ℕ) where
  pub record Compared (s : S) (f : F) (n i : ℕ) (b : Bool) (t : S) (g : F) : Type 0 where
    pub head : Bor (List ℕ)
    pub whole : length head.now ≡ size
    pub bits : Bor (List ℕ)
    pub numbered : bits.now ≡ to_le_bytes w32 i
    pub shown : MutBor S
    pub read : Consumes (remaining s) (remaining shown.now) head.now
    pub left : MutBor S
    pub answered : Called called f (shown, (n, (bits, (head, tt)))) (Ok b, (left, tt)) g
    pub leaves : left.now ≡ t

  pub data Turn (s : S) (f : F) (n i : ℕ) : Bool → S → F → Type 0 where
    compared : (b : Bool) (t : S) (g : F) → Compared s f n i b t g → Turn s f n i b t g
    short : (t : S) → IfSome (remaining s) (λ bytes. length bytes < size) → IsAtEnd (remaining t) → Turn s f n i false t f

  pub data Turns (n : ℕ) (s : S) (f : F) (k : Tally) : ℕ → Tally → S → F → Type 0 where
    first : Turns n s f k 0 k s f
    next : (c : ℕ) (l : Tally) (u : S) (h : F) (b : Bool) (t : S) (g : F)
        → Turns n s f k c l u h → Turn u h n c b t g → Turns n s f k (suc c) (one_more l b) t g

  pub data Counted (s : S) (f : F) : ℕ → Tally → S → F → Type 0 where
    none : Counted s f 0 empty s f
    more : (n : ℕ) (k : Tally) (u : S) (h : F) (l : Tally) (t : S) (g : F)
        → Counted s f n k u h → Turns n u h k (2 ^ 2 ^ n) l t g → Counted s f (suc n) l t g
