-- What is known of a file's bytes.
--   opened known f   == of the file that was opened, what `known` says of it; where none was, that it has none
use Rattle.std.specs.Prelude.{ℕ, List, [], Option, Some, None}
use Rattle.replay.specs.declared.file.Opened.{Opened}

abbrev pub known_of : {F : Type 0} → (F → Option (List ℕ)) → Option F → Option (List ℕ)
known_of known (Some f) = known f
known_of known None = Some []

abbrev pub opened : {F : Type 0} → (F → Option (List ℕ)) → Opened F → Option (List ℕ)
opened known o = known_of known o.file
