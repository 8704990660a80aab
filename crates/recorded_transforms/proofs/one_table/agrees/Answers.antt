-- `recorded_transforms::one_table::agrees` meets its contract, by the way that is taken.
use Rattle.recorded_transforms.proofs.one_table.agrees.Goals as goal

pub returns-in-There : goal.returns-in-There
returns-in-There c = rw c.in-There.is c.there.ensures

pub returns-in-Back : goal.returns-in-Back
returns-in-Back c = rw c.in-Back.is c.back.ensures
