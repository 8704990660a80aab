-- `pages::run` meets its contract: the front decides the page's text (Answered).
use Rattle.pages.proofs.Answered.{answered}
use Rattle.pages.proofs.run.Goals as goal

pub returns : goal.returns
returns g c text decides shows =
    answered text _ decides _ _ _ _ _ _ c.in_ok-length.ensures.front (shows _ _ c.page.ensures).text c.write.ensures
