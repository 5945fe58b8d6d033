-- How many cells a cube has (this project's choice).
use Rattle.std.specs.Prelude.{◌≡◌, ◌↔◌, ℕ, List, Contains, IsTrue, length}
use Rattle.std.specs.List.{IsDistinct}
use Rattle.std.specs.Ordering.{eq_by_cmp}
use Rattle.cube_core.specs.Cube.{is_cell}
use Rattle.cube_core.specs.Layout.{Layout}
use Rattle.cube_core.specs.Order.{key_cmp}
use Rattle.cube_core.specs.declared.fact.Fact.{Fact}
use Rattle.cube_core.specs.declared.key.Key.{Key}

-- these are the keys of the cube over grouping sets: that of each of its cells, once
pub record AreKeysOver (sets : List ℕ) (dimensions : ℕ) (facts : List Fact) (keys : List Key) : Type 0 where
  pub cells : (key : Key) → Contains keys key ↔ IsTrue (is_cell sets dimensions facts key)
  pub once : IsDistinct (eq_by_cmp key_cmp) keys

-- the cube over grouping sets has so many cells
pub record HasCellsOver (sets : List ℕ) (dimensions : ℕ) (facts : List Fact) (number : ℕ) : Type 0 where
  pub keys : List Key
  pub are : AreKeysOver sets dimensions facts keys
  pub many : number ≡ length keys

-- the cube over a schema's grouping sets has so many cells
abbrev pub HasCells : Layout → List Fact → ℕ → Type 0
HasCells s facts number = HasCellsOver s.grouping_sets (length s.dimensions) facts number
