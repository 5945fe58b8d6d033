use Rattle.cube_core.proofs.TextPlaceLaws.{IsParted}
use Rattle.cube_core.proofs.schema_toml.parted.parted_by_place.Given as goal

-- the items so far stand in one list or the other, and the rest is to come
abbrev pub invariant-loop-item : goal.invariant-loop-item
invariant-loop-item g l = IsParted l.places l.fn.items.items l.item-iterator.rest.items l.beside.items l.at.items
