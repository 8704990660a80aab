-- A program that keeps the first m bytes of its input, and writes the text f of them: where these bytes decide the text, it writes the text of the
-- whole input.
use Rattle.std.proofs.Common.{◌≡◌, ℕ, List, take, None, Some, IfSome, OnOk, Result, Ok, Err, ap, ◌∙◌, subst}
use Rattle.std.specs.Prelude.{Option}
use Rattle.std.specs.Io.KnownBytes.{Appends}

module _ {A E : Type 0} (f : List ℕ → List ℕ) (m : ℕ) (decides : (s : List ℕ) → f (take m s) ≡ f s) where
  pub answered : (r : Result A E) (known old new : Option (List ℕ)) (front text : List ℕ) →
      IfSome known (λ s. front ≡ take m s) → text ≡ f front → OnOk r (Appends old new text) → OnOk r (IfSome known (λ s. Appends old new (f s)))
  answered (Ok x) None old new front text e t w = tt
  answered (Ok x) (Some s) old new front text e t w = subst (Appends old new) (t ∙ ap f e ∙ decides s) w
  answered (Err x) known old new front text e t w = tt
