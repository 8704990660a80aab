-- The items of a file as a replay counts them. S is the type of the file, `remaining` what is known of its bytes, `called` the closure that compares
-- an item, and `size` how many bytes an item's head has.
--   Compared s f b t g   == from the file s a whole head was read, and the call of f at it and at what s was then answered b and left t and g
--   Counted s f k t g    == items one after the other, from s and f to t and g, were so compared, and k counts the answers
--   Ends k t             == t has no whole head, or k has as many items as are counted at most
use Rattle.std.specs.Prelude.{◌≡◌, ℕ, ◌<◌, ◌^◌, ◌⊎◌, Bool, List, length, Option, IfSome, Result, Ok}
use Rattle.std.specs.Fn.{Mut, CalledWithState}
use Rattle.std.specs.Io.KnownBytes.{Consumes}
use denote.Ref.{Bor, MutBor}
use Rattle.comparison.specs.declared.tally.Tally.{Tally}
use Rattle.comparison.specs.Tally.{empty, one_more}

module _ {S F E : Type 0} (remaining : S → Option (List ℕ))
    (called : Mut F (MutBor S × (Bor (List ℕ) × Unit {0})) (Result Bool E × (MutBor S × Unit {0}))) (size : ℕ) where
  pub record Compared (s : S) (f : F) (b : Bool) (t : S) (g : F) : Type 0 where
    pub head : Bor (List ℕ)
    pub whole : length head.now ≡ size
    pub behind : S
    pub read : Consumes (remaining s) (remaining behind) head.now
    pub answered : CalledWithState called f behind head (Ok b) g t

  pub data Counted (s : S) (f : F) : Tally → S → F → Type 0 where
    none : Counted s f empty s f
    more : (k : Tally) (u : S) (h : F) (b : Bool) (t : S) (g : F) → Counted s f k u h → Compared u h b t g → Counted s f (one_more k b) t g

  abbrev pub Ends : Tally → S → Type 0
  Ends k t = (k.compared ≡ 10 ^ 6) ⊎ IfSome (remaining t) (λ bytes. length bytes < size)
