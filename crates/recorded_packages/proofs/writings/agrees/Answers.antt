-- `recorded_packages::writings::agrees` meets its contract: the part of the buffer that is lent has as many bytes as are recorded. From the laws of a
-- recorded writing (Writing) and of parts (recorded, Part).
use mathlib.Core.Path.{refl}
use lib.ListN.{length, take, replicate}
use Rattle.recorded.specs.Pattern.{byte}
use Rattle.recorded.proofs.Part.{part-repeated}
use Rattle.recorded_packages.specs.Writings.{longest}
use Rattle.recorded_packages.proofs.Writing.{agrees-past, agrees-said}
use Rattle.recorded_packages.proofs.writings.agrees.Goals as goal

pub returns-then-room-gt-ROOM : goal.returns-then-room-gt-ROOM
returns-then-room-gt-ROOM c = agrees-past _ _ _ c.if-room-gt-ROOM.true

pub returns : goal.returns
returns c =
    let a = c.args in
    agrees-said a.head.now a.expression.now a.after.now (take (length a.after.now) (replicate longest byte)) c.if-room-gt-ROOM.false
    (part-repeated c.if-room-gt-ROOM.false byte refl) c.asked.ensures
