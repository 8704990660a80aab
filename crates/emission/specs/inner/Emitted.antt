-- What writing a form by choices needs.
--   Meant c l        == the choice in c is right for the form l, and the others for what it leaves to clean
--   Left c k l       == the choices c are meant for the form k, which comes after the form l: it has fewer total literals, told apart by whether the
--                       choice for it is found
use Rattle.std.specs.Prelude.{List, ℕ, ◌+◌, ◌*◌, ◌<◌, IfSome}
use Rattle.rules.specs.Form.{literals}
use Rattle.anf_cleanup.specs.Plan.{rank, Right, Parts}
use Rattle.anf_cleanup.specs.declared.Choices.{Choices}

pub record Meant (c : Choices) (l : List ℕ) : Type 0 where
  pub right : Right c.form l
  pub parts : IfSome c.form (λ d. Parts d l c.inner c.rest)

pub record Left (c : Choices) (k l : List ℕ) : Type 0 where
  pub meant : Meant c k
  pub fewer : 3 * literals k + 1 + rank c.form < 3 * literals l
