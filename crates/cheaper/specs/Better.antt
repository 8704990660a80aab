-- The comparison of two costs.
--   better c b         == by size, then depth, c is smaller than b
use Rattle.std.specs.Prelude.{Bool, ◌&&◌, ◌||◌, eqb, ltb}
use Rattle.rules.specs.Calls.{Costs}

-- "if its (size, depth) is smaller"
unfoldable pub better : Costs → Costs → Bool
better c b = ltb c.size b.size || eqb c.size b.size && ltb c.depth b.depth
