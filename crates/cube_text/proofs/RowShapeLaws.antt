-- The rows of a cube over facts that fit have the shape of their schema.
use Rattle.std.proofs.Common.{◌≡◌, ◌∙◌, true, ℕ, ℤ, Bool, List, [], ◌∷◌, length, map, subst, sym}
use Rattle.std.specs.Prelude.{All, ◌||◌}
use Rattle.std.specs.List.{AllByRecursion, list_all, list_any}
use Rattle.std.proofs.lemmas.Bool.{and_parts}
use Rattle.std.proofs.lemmas.List.Elements.{All-from_recursion}
use Rattle.cube_core.specs.Covers.{covers}
use Rattle.cube_core.specs.Layout.{Layout, cube_schema, number_of_dimensions}
use Rattle.cube_core.specs.Query.{AreRowsWhere}
use Rattle.cube_core.specs.Takes.{fits}
use Rattle.cube_core.specs.TextPlaces.{counted_by}
use Rattle.cube_core.specs.Cube.{HasAnswers, is_total, key_of}
use Rattle.cube_core.specs.declared.key.Key.{Key}
use Rattle.cube_core.specs.declared.key.Row.{Row}
use Rattle.cube_core.specs.declared.fact.Fact.{Fact}
use Rattle.cube_text.specs.Shape.{HasShapeOf}
use Rattle.cube_core.proofs.ListLaws.{AllZip-length, Contains-AllByRecursion}
use Rattle.cube_core.proofs.CellKeyLaws.{is_cell-length}
use Rattle.cube_core.proofs.CubeSchemaLaws.{all_fit-cube_schema, cube_schema-dimensions}

-- each row has a coordinate for each dimension, by its key, and an answer for each aggregate
HasShapeOf-HasAnswers : (s : Layout) (facts : List Fact) (rows : List Row)
    → AllByRecursion (λ (key : Key). length key.coords ≡ number_of_dimensions s) (map key_of rows)
    → AllByRecursion (HasAnswers s.aggregates facts) rows → AllByRecursion (HasShapeOf s) rows
HasShapeOf-HasAnswers s facts [] keys answers = tt
HasShapeOf-HasAnswers s facts (row ∷ rows) keys answers = (
  record { coords = keys.0; answers = sym (AllZip-length _ s.aggregates row.answers answers.0) },
  HasShapeOf-HasAnswers s facts rows keys.1 answers.1,
)

-- each row of a cube over facts that fit the schema of the cube has the schema's numbers of coordinates
-- and answers, whatever test its key passes
pub HasShapeOf-AreRowsWhere : (test : Key → Bool) (s : Layout) (facts : List Fact) (rows : List Row)
    → list_all (fits (cube_schema s)) facts ≡ true
    → AreRowsWhere test s.grouping_sets (number_of_dimensions s) s.aggregates facts rows → All (HasShapeOf s) rows
HasShapeOf-AreRowsWhere test s facts rows fit are =
    let n = cube_schema-dimensions s in
    All-from_recursion (HasShapeOf s) rows
    (HasShapeOf-HasAnswers s facts rows
    (Contains-AllByRecursion (λ (key : Key). length key.coords ≡ number_of_dimensions s) (map key_of rows)
    (λ key among.
    let cell = (and_parts _ _ ((are.cells key).0 among).0).1 in
    is_cell-length (cube_schema s) facts key fit
    (subst (λ (m : ℕ). is_total m key || list_any (covers key) facts ≡ true) (sym n) cell) ∙ n))
    are.answers)

-- so has each row over facts that fit the schema itself, as they are counted by some numbers
pub HasShapeOf-counted : (test : Key → Bool) (s : Layout) (number : List ℕ → ℤ) (facts : List Fact) (rows : List Row)
    → list_all (fits s) facts ≡ true
    → AreRowsWhere test s.grouping_sets (number_of_dimensions s) s.aggregates
    (map (counted_by number (length s.text_places)) facts) rows
    → All (HasShapeOf s) rows
HasShapeOf-counted test s number facts rows fit are =
    HasShapeOf-AreRowsWhere test s (map (counted_by number (length s.text_places)) facts) rows
    (all_fit-cube_schema s number facts fit) are
