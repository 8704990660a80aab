-- When equal values of a function come from equal arguments: where the argument can be told from the value.
--   told-apart       == a function whose arguments can be told from its values is injective
use mathlib.Core.Path.{◌≡◌, sym, ap, ◌∙◌}

pub told-apart : {A B : Type 0} (f : A → B) (back : B → A) → ((a : A) → back (f a) ≡ a) → (a b : A) → f a ≡ f b → a ≡ b
told-apart f back e a b h = sym (e a) ∙ ap back h ∙ e b
