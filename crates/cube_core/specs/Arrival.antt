-- An arrival list: the items of several sources in the order in which they came (an item belongs to its source,
-- and nothing is known of the order between sources: this project's choice).
use Rattle.std.specs.Prelude.{◌==◌, ℕ, List, map, filter}
use Rattle.std.specs.List.{range_with_len}
use Rattle.cube_core.specs.declared.change.Item.{Item}

-- items, each with the number of its source, from 1
abbrev pub Arrivals : Type 0
Arrivals = List (ℕ × Item)

-- the items of a source, in their order
abbrev pub of_source : Arrivals → ℕ → List Item
of_source arrivals source = map (λ arrival. arrival.1) (filter (λ arrival. arrival.0 == source) arrivals)

-- the items of each of so many sources, source after source
abbrev pub of_sources : ℕ → Arrivals → List (List Item)
of_sources sources arrivals = map (of_source arrivals) (range_with_len 1 sources)
