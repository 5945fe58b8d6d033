-- The cube over grouping sets: the cells of these sets of a list of facts, each with its answers (Gray et al. 1997,
-- section 3, where CUBE has all sets; SQL:1999, grouping sets; the grand total over no facts is this project's choice).
use Rattle.std.specs.Prelude.{◌==◌, ◌&&◌, ◌||◌, ◌↔◌, ℕ, Bool, IsTrue, List, length, map, Contains}
use Rattle.std.specs.List.{AllByRecursion, list_any, list_all}
use Rattle.std.specs.List.Sorted.{IsStrictlySortedBy}
use Rattle.cube_core.specs.Layout.{Layout, number_of_dimensions}
use Rattle.cube_core.specs.TextPlaces.{counted}
use Rattle.cube_core.specs.Covers.{covers}
use Rattle.cube_core.specs.Group.{group_of}
use Rattle.cube_core.specs.Answer.{AreAnswers}
use Rattle.cube_core.specs.Order.{key_cmp}
use Rattle.cube_core.specs.GroupingSet.{is_all_coord, mask_of, is_among}
use Rattle.cube_core.specs.declared.aggregate.Agg.{Agg}
use Rattle.cube_core.specs.declared.key.Key.{Key}
use Rattle.cube_core.specs.declared.key.Row.{Row}
use Rattle.cube_core.specs.declared.fact.Fact.{Fact}

-- whether a key is that of the grand total: ALL in each of so many dimensions
abbrev pub is_total : ℕ → Key → Bool
is_total dimensions key = (length key.coords == dimensions) && list_all is_all_coord key.coords

-- whether a key is a cell of the cube over these grouping sets:
-- its set is one of them, and it is the grand total or covers a fact
abbrev pub is_cell : List ℕ → ℕ → List Fact → Key → Bool
is_cell sets dimensions facts key =
    is_among (mask_of key) sets && (is_total dimensions key || list_any (covers key) facts)

-- the key of a row
abbrev pub key_of : Row → Key
key_of row = row.key

-- a row has the answers of the group of its key
abbrev pub HasAnswers : List Agg → List Fact → Row → Type 0
HasAnswers aggregates facts row = AreAnswers (group_of row.key facts) aggregates row.answers

-- these are the rows of the cube over these grouping sets: each cell once, in key order, with the answers of its group
pub record AreRowsOver (sets : List ℕ) (dimensions : ℕ) (aggregates : List Agg) (facts : List Fact) (rows : List Row)
    : Type 0 where
  pub cells : (key : Key) → Contains (map key_of rows) key ↔ IsTrue (is_cell sets dimensions facts key)
  pub ordered : IsStrictlySortedBy key_cmp (map key_of rows)
  pub answers : AllByRecursion (HasAnswers aggregates facts) rows

-- these are the rows of the cube over a schema's grouping sets; a text that is counted counts as a number of its own
abbrev pub AreRows : Layout → List Fact → List Row → Type 0
AreRows s facts rows =
    AreRowsOver s.grouping_sets (number_of_dimensions s) s.aggregates (map (counted s) facts) rows
