-- A form is fixed by its masks, so an equation of masks fixes the form that is answered. It rests on words as sets of places (bits, Word).
--   masks-injective  == forms that have the same masks are the same
use mathlib.Core.Path.{◌≡◌, ap}
use Prim.Native.Nat.{ℕ, ◌^◌, ◌<◌}
use Rattle.bits.proofs.Word.{places-injective}
use Rattle.form.specs.Masks.{masks}
use Rattle.form.specs.declared.Form.{Form}

pub masks-injective : (f g : Form) → f.word < 2 ^ 64 → g.word < 2 ^ 64 → masks f ≡ masks g → f ≡ g
masks-injective f g h k e = ap {B = Form} (λ (w : ℕ). record { word = w }) (places-injective 64 f.word g.word h k e)
