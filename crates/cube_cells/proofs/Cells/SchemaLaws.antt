-- The schema of a cube: no text of it is counted.
use Rattle.std.proofs.Common.{◌≡◌, ◌<◌, ◌≤◌, ◌^◌, ℕ, List, [], ap, arith, length, subst, true}
use Rattle.std.specs.Prelude.{All}
use Rattle.std.specs.List.{list_all}
use Rattle.cube_core.specs.Layout.{IsSchema, Layout, is_aggregate_of}
use Rattle.cube_core.proofs.TextSchemaLaws.{counted_names-none, number_of_dimensions-none}
use Rattle.cube_cells.specs.Cube.{IsLattice, Lattice}

-- what is true of the schema of a cube
pub record IsCubeSchema (s : Layout) : Type 0 where
  pub is : IsSchema s
  pub no_texts : s.text_places ≡ []

pub its_schema : {l : Lattice} → IsLattice l → IsCubeSchema l.schema
its_schema lattice = record { is = lattice.schema; no_texts = lattice.no_texts }

-- all its dimensions are those of the cube
pub few_dimensions : {s : Layout} → IsCubeSchema s → length s.dimensions ≤ 8
few_dimensions {s = s} of =
    let none : length s.text_places ≡ 0 = ap length of.no_texts in omega (arith, of.is.dimensions_at_most, none)

pub some_dimension : {s : Layout} → IsCubeSchema s → 0 < length s.dimensions
some_dimension {s = s} of =
    let none : length s.text_places ≡ 0 = ap length of.no_texts in omega (arith, of.is.some_dimension, none)

-- and its grouping sets are of these
pub sets_below : {s : Layout} → IsCubeSchema s → All (λ set. set < 2 ^ length s.dimensions) s.grouping_sets
sets_below {s = s} of = subst (λ (n : ℕ). All (λ set. set < 2 ^ n) s.grouping_sets)
    (number_of_dimensions-none s of.no_texts) of.is.sets_are_of_dimensions

-- its aggregates are of the measures
pub aggregates_of_measures : {s : Layout} → IsCubeSchema s
    → list_all (is_aggregate_of (length s.measures)) s.aggregates ≡ true
aggregates_of_measures {s = s} of =
    subst (λ (names : List (List ℕ)). list_all (is_aggregate_of (length names)) s.aggregates ≡ true)
    (counted_names-none s of.no_texts) of.is.aggregates_are_of_measures
