-- Facts that are gathered into a cube over the finest grouping set alone (this project's choice).
use Rattle.std.specs.Prelude.{◌≡◌, ◌==◌, ◌<◌, ◌%◌, ◌^◌, ◌++◌, ℕ, List, [], ◌∷◌, filter, get_or, length, map}
use Rattle.std.specs.Prelude.{sum_by, true, Option, Some, None}
use Rattle.cube_core.specs.Layout.{Layout}
use Rattle.cube_core.specs.declared.fact.Fact.{Fact}
use Rattle.cube_cells.specs.Codes.{Dictionaries, AreCodesOf, are_codes, coord_of_value}
use Rattle.cube_cells.specs.Cube.{Lattice, SameSets}
use Rattle.cube_cells.specs.Fill.{IsCubeOfAll, finest_set}
use Rattle.cube_cells.specs.declared.cube.codes.Codes.{Codes}

-- a cube of this schema over the finest grouping set has these facts
pub record HasGathered (schema : Layout) (facts : List Fact) (cube : Lattice) : Type 0 where
  pub schema_is : cube.schema ≡ schema
  pub sets_are : cube.sets ≡ finest_set (length schema.dimensions) ∷ []
  pub all : IsCubeOfAll facts cube

-- a cube has gathered these facts besides those of before
pub record GathersMore (facts : List Fact) (old new : Lattice) : Type 0 where
  pub gathers : (schema : Layout) (before : List Fact) → HasGathered schema before old
      → HasGathered schema (before ++ facts) new

-- these are the codes of the values of a fact, each a code of its dimension
pub record AreCodesOfFact (dictionaries : Dictionaries) (fact : Fact) (codes : Codes) : Type 0 where
  pub are : AreCodesOf dictionaries (map coord_of_value fact.dims) codes.codes
  pub eight : length codes.codes ≡ 8
  pub valid : are_codes dictionaries codes.codes ≡ true

-- a cube has the cells it had, and at most more texts with codes, so that the codes of a fact stay its codes
pub record OnlyAddsTexts (old new : Lattice) : Type 0 where
  pub same : SameSets old new
  pub facts : new.facts ≡ old.facts
  pub cells : new.cells ≡ old.cells
  pub codes_stay : (fact : Fact) (codes : Codes) → AreCodesOfFact old.dictionaries fact codes
      → AreCodesOfFact new.dictionaries fact codes

-- the sum of the bytes of a text, modulo 2 to the power 32; 0 of null
abbrev pub bytes_sum_of : Option (List ℕ) → ℕ
bytes_sum_of None = 0
bytes_sum_of (Some text) = sum_by (λ byte. byte) text % 2 ^ 32

-- the share of a fact, of so many: the sum of the bytes of its values, modulo their number
abbrev pub share_of_fact : ℕ → Fact → ℕ
share_of_fact shares fact = sum_by bytes_sum_of fact.dims % shares

-- these marks are the shares of facts, of so many
abbrev pub AreMarks : ℕ → List Fact → List ℕ → Type 0
AreMarks shares facts marks = marks ≡ map (share_of_fact shares) facts

-- a cube has the facts of a share, of so many
abbrev pub HasGatheredShare : Layout → List Fact → ℕ → ℕ → Lattice → Type 0
HasGatheredShare schema facts shares share cube =
    HasGathered schema (filter (λ fact. share_of_fact shares fact == share) facts) cube

-- these cubes have the facts of the shares, each those of its place
pub record AreShares (schema : Layout) (facts : List Fact) (cubes : List Lattice) : Type 0 where
  pub each : (i : ℕ) (unused : Lattice) → i < length cubes
      → HasGatheredShare schema facts (length cubes) i (get_or cubes i unused)
