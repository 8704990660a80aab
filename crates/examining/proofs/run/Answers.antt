-- The first 4096 bytes of the input decide the verdict's page.
use Rattle.std.proofs.Common.{rules, of_calls}
use Rattle.examination_text.specs.Input.{verdict_page}
use Rattle.examination_text.proofs.Input.{page-front}
use Rattle.examining.proofs.run.Goals as goal

pub returns : goal.returns
returns g c = c.run.ensures verdict_page page-front (λ s p q. search (of_calls, rules))
