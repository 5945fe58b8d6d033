-- What the laws of counts speak of: the rows of a grouping set, the answers of a row,
-- the keys that cover a fact (Gray et al. 1997; grouping sets as in SQL:1999).
use Rattle.std.specs.Prelude.{◌≡◌, ◌==◌, ◌↔◌, ◌+◌, ◌*◌, ◌^◌, ℕ, IsTrue, List, [], ◌∷◌, length, map, get_or, filter}
use Rattle.std.specs.Prelude.{Contains, Option}
use Rattle.std.specs.List.{AllByRecursion, AllZip}
use Rattle.cube_core.specs.Covers.{covers}
use Rattle.cube_core.specs.Group.{group_of}
use Rattle.cube_core.specs.Merged.{count_answered}
use Rattle.cube_core.specs.Cube.{AreRowsOver}
use Rattle.cube_core.specs.GroupingSet.{mask_of, all_sets}
use Rattle.cube_core.specs.Layout.{Layout, number_of_dimensions}
use Rattle.cube_core.specs.TextPlaces.{counted}
use Rattle.cube_core.specs.declared.aggregate.Answer.{Answer}
use Rattle.cube_core.specs.declared.aggregate.Answer.TheVariants as answer
use Rattle.cube_core.specs.declared.fact.Fact.{Fact}
use Rattle.cube_core.specs.declared.key.Key.{Key}
use Rattle.cube_core.specs.declared.key.Row.{Row}

-- facts as the cube of a schema counts them: a number stands for each text that is counted
abbrev pub all_counted : Layout → List Fact → List Fact
all_counted s facts = map (counted s) facts

-- these are the rows of a schema's cube over facts as it counts them
abbrev pub AreCountedRows : Layout → List Fact → List Row → Type 0
AreCountedRows s facts rows = AreRowsOver s.grouping_sets (number_of_dimensions s) s.aggregates facts rows

-- each fact has a value or null for each of so many dimensions
abbrev pub HaveDimensions : ℕ → List Fact → Type 0
HaveDimensions dimensions facts = AllByRecursion (λ fact. length fact.dims ≡ dimensions) facts

-- the rows whose keys are in a grouping set
abbrev pub rows_in_set : ℕ → List Row → List Row
rows_in_set set rows = filter (λ row. mask_of row.key == set) rows

-- how many facts the key of a row covers
abbrev pub group_size : List Fact → Row → ℕ
group_size facts row = length (group_of row.key facts)

-- the answer of a row to the aggregate at a place
abbrev pub answer_at : ℕ → Row → Answer
answer_at place row = get_or row.answers place answer.Null

-- the count of a row at a place
abbrev pub count_at : ℕ → Row → ℕ
count_at place row = count_answered (answer_at place row)

-- the keys that cover a fact: 2 to the power of its dimensions, one in each grouping set
pub record CoveringKeys (fact : Fact) : Type 0 where
  pub keys : List Key
  pub cover : (key : Key) → Contains keys key ↔ IsTrue (covers key fact)
  pub count : length keys ≡ 2 ^ length fact.dims
  pub sets : map mask_of keys ≡ all_sets (length fact.dims)

-- each dimension's values are among these, null among them where it stands
abbrev pub HaveValuesAmong : List (List (Option (List ℕ))) → List Fact → Type 0
HaveValuesAmong values facts = AllByRecursion (λ fact. AllZip Contains values fact.dims) facts

-- the product, over the dimensions, of one more than the number of values
abbrev pub most_cells : List (List (Option (List ℕ))) → ℕ
most_cells [] = 1
most_cells (values ∷ other_values) = (length values + 1) * most_cells other_values
