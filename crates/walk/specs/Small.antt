-- Few enough bytes for a stack of as many entries as records may stand.
--   Small R                == a value of the type takes few enough bytes
use Rattle.std.specs.Prelude.{◌<◌, ◌^◌}
use Rattle.std.specs.Borrow.{RattleType}
use denote.Param.{layout}
use prog.Memory.{size}

abbrev pub Small : RattleType → Type 0
Small R = size (layout R) < 2 ^ 32
