-- The group of a key, and the values that its facts have of a measure (Gray et al. 1997; SQL:1999:
-- aggregates of a measure skip nulls).
use Rattle.std.specs.Prelude.{ℕ, ℤ, pos, ◌+ℤ◌, List, [], ◌∷◌, get_or, Option, None, filter}
use Rattle.std.specs.List.{filter_map}
use Rattle.cube_core.specs.Covers.{covers}
use Rattle.cube_core.specs.declared.key.Key.{Key}
use Rattle.cube_core.specs.declared.fact.Fact.{Fact}

-- the facts that a key covers
abbrev pub group_of : Key → List Fact → List Fact
group_of key facts = filter (covers key) facts

-- the value that a fact has of a measure, or null
abbrev pub value_of : ℕ → Fact → Option ℤ
value_of measure fact = get_or fact.measures measure None

-- the values of a measure that facts have, nulls left out
abbrev pub values_of : ℕ → List Fact → List ℤ
values_of measure facts = filter_map (value_of measure) facts

-- the sum of a list of values
abbrev pub total_of : List ℤ → ℤ
total_of [] = pos 0
total_of (value ∷ values) = value +ℤ total_of values
