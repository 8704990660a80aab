-- A constant's lanes, for the contract of an inner function.
--   filled b             == the truth value b in all lanes
use Rattle.std.specs.Prelude.{Bool, true, false, ℕ, ◌-◌, ◌^◌}
use Rattle.rules.specs.Limits.{word_bits}

abbrev pub filled : Bool → ℕ
filled true = 2 ^ word_bits - 1
filled false = 0
