-- The first 66 bytes of the input decide what is printed.
use Rattle.std.proofs.Common.{rules, of_calls}
use Rattle.rules.specs.Text.{printed}
use Rattle.rule_text.proofs.Printed.{printed-front}
use Rattle.printing.proofs.run.Goals as goal

pub returns : goal.returns
returns g c = c.run.ensures printed printed-front (λ s p q. search (of_calls, rules))
