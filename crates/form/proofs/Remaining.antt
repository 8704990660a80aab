-- What the answer of `is_empty` tells of a form's masks. No proof of a function needs these laws today, since the loops go over the masks themselves.
--   masks-left, masks-done   == some mask is left where the form is not empty, and none where it is
use mathlib.Core.Bool.{Bool, true, false, not}
use mathlib.Core.Path.{◌≡◌, sym, ◌∙◌}
use Prim.Native.Nat.{◌<◌}
use native.Mathlib.Omega.{arith}
use lib.Dec.{eqb}
use lib.ListN.{length}
use borrow.Author.Tests.{eqb-true, eqb-false, not-true, not-false}
use Rattle.form.specs.Masks.{masks}
use Rattle.form.specs.declared.Form.{Form}

module _ (f : Form) where
  -- e is the answer of `is_empty`
  module _ {e : Bool} (h : e ≡ eqb (length (masks f)) 0) where
    pub masks-left : not e ≡ true → 0 < length (masks f)
    masks-left t = let full = eqb-false (length (masks f)) 0 (sym h ∙ not-true e t) in omega arith

    pub masks-done : not e ≡ false → length (masks f) ≡ 0
    masks-done t = eqb-true (length (masks f)) 0 (sym h ∙ not-false e t)
