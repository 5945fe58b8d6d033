-- A cube over facts of which texts are counted: the cube of these facts as they are counted, with the numbers that stand
-- for the texts (this project's choice).
use Rattle.std.specs.Prelude.{◌≡◌, ◌≤◌, ◌==◌, ◌&&◌, ◌+◌, ◌∷◌, [], ℕ, ℤ, Bool, List, Option, All, Contains, length, map, take}
use Rattle.std.specs.List.{list_all}
use Rattle.cube_core.specs.Layout.{Layout, IsSchema}
use Rattle.cube_core.specs.Takes.{is_dimension_value}
use Rattle.cube_core.specs.declared.fact.Fact.{Fact}
use Rattle.cube_cells.specs.Codes.{IsDictionary}
use Rattle.cube_cells.specs.Cube.{Lattice, IsCubeOf}
use Rattle.cube_cells.specs.Fill.{IsCubeOfAll, finest_set}
use Rattle.cube_cells.specs.TextNumbers.{number_in}
use Rattle.cube_core.specs.TextPlaces.{counted_by, texts_counted}

-- the fact of the first so many of these values, and of these measures
abbrev pub first_fact : ℕ → List (Option (List ℕ)) → List (Option ℤ) → Fact
first_fact dimensions values measures = record { dims = take dimensions values; measures = measures }

-- a cube over facts of which texts are counted:
-- how many texts of each, the texts that have numbers, and the cube of the facts as they are counted
pub record CountedView : Type 0 where
  pub texts : ℕ
  pub numbers : List (List ℕ)
  pub cube : Lattice

-- what is true of every such cube: its numbers are those of different texts,
-- and its schema has a measure for each text that is counted
pub record IsCountedCube (c : CountedView) : Type 0 where
  pub dictionary : IsDictionary c.numbers
  pub schema : IsSchema c.cube.schema
  pub few : c.texts ≤ length c.cube.schema.measures

-- whether a fact has a lawful value or null for each dimension and for so many texts behind them,
-- and a value or null for each measure but the last so many
abbrev pub fits_counted : ℕ → Layout → Fact → Bool
fits_counted texts s fact =
    (length fact.dims == length s.dimensions + texts)
    && (length fact.measures + texts == length s.measures)
    && list_all is_dimension_value fact.dims

-- the cube has these facts: its cells are their cube over its sets, as they are counted by its numbers,
-- each text of theirs that is counted has a number, and it counts them
pub record HasCounted (facts : List Fact) (c : CountedView) : Type 0 where
  pub cells : IsCubeOf c.cube (map (counted_by (number_in c.numbers) c.texts) facts)
  pub listed : All (Contains c.numbers) (texts_counted c.texts facts)
  pub facts_are : c.cube.facts ≡ length facts

-- a cube over the finest grouping set of this schema has facts of which so many texts are counted, as they are counted by
-- these numbers, and each of these texts has a number
pub record AreMadeFinest (texts : ℕ) (schema : Layout) (facts : List Fact) (numbers : List (List ℕ)) (finest : Lattice)
    : Type 0 where
  pub dictionary : IsDictionary numbers
  pub schema_is : finest.schema ≡ schema
  pub sets_are : finest.sets ≡ finest_set (length finest.schema.dimensions) ∷ []
  pub all : IsCubeOfAll (map (counted_by (number_in numbers) texts) facts) finest
  pub listed : All (Contains numbers) (texts_counted texts facts)
