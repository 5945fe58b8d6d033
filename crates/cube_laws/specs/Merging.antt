-- What the laws of merging speak of: facts in parts, and the merged rows of their cubes (Gray et al. 1997: COUNT, SUM,
-- MIN and MAX are distributive, AVG is algebraic, made of SUM and COUNT, as a variance is of these and the sum of the
-- squares; distinct counts and percentiles are holistic, made of all values; the merging of rows is this project's
-- choice).
use Rattle.std.specs.Prelude.{◌≡◌, ◌<◌, ◌≤◌, ℕ, List, [], ◌∷◌, ◌++◌, length, get_or, slice_get, Some, IsPermutation}
use Rattle.std.specs.List.{AllByRecursion, flat_map}
use Rattle.cube_core.specs.Layout.{IsSchema, Layout}
use Rattle.cube_core.specs.Cube.{AreRows}
use Rattle.cube_core.specs.Merged.{AreMerged}
use Rattle.cube_core.specs.Printed.{IsPrinted}
use Rattle.cube_core.specs.Sources.{IsPrintedOf}
use Rattle.cube_core.specs.Text.{text_of_rows}
use Rattle.cube_merge.specs.Lawful.{IsLawfulRow}
use Rattle.cube_core.specs.declared.aggregate.Agg.{Agg}
use Rattle.cube_core.specs.declared.aggregate.Agg.TheVariants.{Count, Sum, Avg, CountDistinct, PercentileDisc}
use Rattle.cube_core.specs.declared.aggregate.Agg.TheVariants.{SumOfSquares, VarPop, VarSamp, Values}
use Rattle.cube_core.specs.declared.fact.Fact.{Fact}
use Rattle.cube_core.specs.declared.key.Row.{Row}

-- lists, one after another
abbrev pub joined : {X : Type 0} → List (List X) → List X
joined lists = flat_map (λ list. list) lists

-- a schema in which no text is counted
pub record IsSchemaWithoutTexts (s : Layout) : Type 0 where
  pub schema : IsSchema s
  pub no_texts : s.text_places ≡ []

-- these are the merged rows of the rows of cubes, which answer the given aggregates:
-- the rows of all cubes, in any order, make them
pub record AreMergedOf (given wanted : List Agg) (cubes : List (List Row)) (rows : List Row) : Type 0 where
  pub parts : List Row
  pub drawn : IsPermutation (joined cubes) parts
  pub merged : AreMerged given wanted parts rows

-- an aggregate stands in a list of aggregates
abbrev pub Stands : List Agg → Agg → Type 0
Stands given agg = (place : ℕ) × (slice_get given place ≡ Some agg)

-- what a variance of a measure is made of stands in a list of aggregates
abbrev pub HasVarianceParts : List Agg → ℕ → Type 0
HasVarianceParts given m = Stands given (Sum m) × Stands given (Count m) × Stands given (SumOfSquares m)

-- of answers to the given aggregates an answer to this one is made: it is a mean whose sum and count are among them,
-- a variance whose sum, count and sum of squares are, a distinct count or a percentile whose values are, or any other
-- that is one of them
abbrev pub CanBeMadeOf : List Agg → Agg → Type 0
CanBeMadeOf given (Avg m) = Stands given (Sum m) × Stands given (Count m)
CanBeMadeOf given (VarPop m) = HasVarianceParts given m
CanBeMadeOf given (VarSamp m) = HasVarianceParts given m
CanBeMadeOf given (CountDistinct m) = Stands given (Values m)
CanBeMadeOf given (PercentileDisc m units places) = Stands given (Values m)
CanBeMadeOf given agg = Stands given agg

mutual
  -- these rows are those of the cube of these facts under a schema,
  -- or the merged rows of such rows of parts of the facts, in any nesting
  pub data IsMergeTree (s : Layout) : List Fact → List Row → Type 0 where
    cube : {facts : List Fact} {rows : List Row} → AreRows s facts rows → IsMergeTree s facts rows
    merge : {parts : List (List Fact)} {cubes : List (List Row)} {facts : List Fact} {rows : List Row}
        → 1 ≤ length parts → facts ≡ joined parts
        → AreMergeTrees s parts cubes → AreMergedOf s.aggregates s.aggregates cubes rows → IsMergeTree s facts rows

  -- the same of each part of the facts and its rows
  pub data AreMergeTrees (s : Layout) : List (List Fact) → List (List Row) → Type 0 where
    none : AreMergeTrees s [] []
    more : {facts : List Fact} {rows : List Row} {parts : List (List Fact)} {cubes : List (List Row)}
        → IsMergeTree s facts rows → AreMergeTrees s parts cubes
        → AreMergeTrees s (facts ∷ parts) (rows ∷ cubes)

-- a text is that of rows of a schema
pub record IsTextOfRows (s : Layout) (text : List ℕ) (rows : List Row) : Type 0 where
  pub text_is : text ≡ text_of_rows s rows
  pub of_schema : AllByRecursion (IsLawfulRow s) rows

-- this text is, under the wanted schema,
-- that of the merged rows of cubes whose texts under the given one these are, each at its place
pub record IsMergedText (given wanted : Layout) (texts : List (List ℕ)) (text : List ℕ) : Type 0 where
  pub cubes : List (List Row)
  pub rows : List Row
  pub as_many : length cubes ≡ length texts
  pub read : (k : ℕ) → k < length texts → IsTextOfRows given (get_or texts k []) (get_or cubes k [])
  pub merged : AreMergedOf given.aggregates wanted.aggregates cubes rows
  pub text_is : text ≡ text_of_rows wanted rows

-- the printed cube of facts was put at the end of a text
abbrev pub PutsPrinted : Layout → List Fact → List ℕ → List ℕ → Type 0
PutsPrinted s facts old new = (text : List ℕ) × (new ≡ old ++ text) × IsPrinted s facts text

-- the printed cube of sources was put at the end of a text
abbrev pub PutsPrintedOf : Layout → List (List ℕ) → List ℕ → List ℕ → Type 0
PutsPrintedOf s sources old new = (text : List ℕ) × (new ≡ old ++ text) × IsPrintedOf s sources text
