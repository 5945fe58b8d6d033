-- The schema of a cube has the texts of the schema of its feeds, and takes the facts as the cube counts them.
use Rattle.std.proofs.Common.{◌≡◌, ◌≤◌, ◌-◌, ℕ, zero, suc, ℤ, Bool, true, List, [], ◌∷◌, ◌++◌, length, map, take}
use Rattle.std.proofs.Common.{flat_map, option_map, refl, sym, ap, ◌∙◌, subst, arith, length-append, length-drop}
use Rattle.std.specs.List.{list_all}
use Rattle.std.proofs.lemmas.Bool.{and_from, and_parts}
use Rattle.std.proofs.lemmas.Bool.Decides.{Decides-eqb}
use Rattle.std.proofs.lemmas.List.{length-map, length-take-le, take_all}
use Rattle.cube_core.specs.Layout.{Layout, cube_dimensions, cube_schema, cube_schema_with, number_of_dimensions}
use Rattle.cube_core.specs.Layout.{IsSchema, counted_names, counted_texts}
use Rattle.cube_core.specs.Cube.{AreRows}
use Rattle.cube_core.specs.Printed.{IsPrinted}
use Rattle.cube_core.specs.Takes.{fits, is_dimension_value}
use Rattle.cube_core.specs.Text.{digits_of_answers, grouping_name, header_fields, line, row_line, text_of_rows}
use Rattle.cube_core.specs.TextPlaces.{TellsApart, counted_by, last_values, texts_counted}
use Rattle.cube_core.specs.declared.fact.Fact.{Fact}
use Rattle.cube_core.specs.declared.key.Row.{Row}
use Rattle.cube_core.proofs.CellKeyLaws.{fits-length}
use Rattle.cube_core.proofs.TextRowLaws.{are_rows-numbered, are_rows-plain, fits-measures}
use Rattle.cube_core.proofs.TextSchemaLaws.{cube_schema-IsSchema, cube_schema-none, cube_schema-texts}

-- ---- what the schema of a cube has of the schema of its feeds
-- the grouping sets are the same
pub cube_schema-grouping_sets : (s : Layout) → (cube_schema s).grouping_sets ≡ s.grouping_sets
cube_schema-grouping_sets s = same s.text_places
  where
    same : (places : List ℕ) → (cube_schema_with places s).grouping_sets ≡ s.grouping_sets
    same [] = refl
    same (place ∷ places) = refl

-- so are the aggregates
pub cube_schema-aggregates : (s : Layout) → (cube_schema s).aggregates ≡ s.aggregates
cube_schema-aggregates s = same s.text_places
  where
    same : (places : List ℕ) → (cube_schema_with places s).aggregates ≡ s.aggregates
    same [] = refl
    same (place ∷ places) = refl

-- and their spelling
pub cube_schema-aggregate_texts : (s : Layout) → (cube_schema s).aggregate_texts ≡ s.aggregate_texts
cube_schema-aggregate_texts s = same s.text_places
  where
    same : (places : List ℕ) → (cube_schema_with places s).aggregate_texts ≡ s.aggregate_texts
    same [] = refl
    same (place ∷ places) = refl

-- as many digits stand behind the points of answers
pub digits_of_answers-cube_schema : (s : Layout) → digits_of_answers (cube_schema s) ≡ digits_of_answers s
digits_of_answers-cube_schema s = same s.text_places
  where
    same : (places : List ℕ) → digits_of_answers (cube_schema_with places s) ≡ digits_of_answers s
    same [] = refl
    same (place ∷ places) = refl

-- the header line has the same fields
header_fields-cube_schema_with : (places : List ℕ) (s : Layout)
    → header_fields (cube_schema_with places s) ≡ header_fields s
header_fields-cube_schema_with [] s = refl
header_fields-cube_schema_with (place ∷ places) s =
    ap (λ names. names ++ map grouping_name names ++ s.aggregate_texts)
    (take_all (length (cube_dimensions s) - 0) (cube_dimensions s) (omega arith))

pub header_fields-cube_schema : (s : Layout) → header_fields (cube_schema s) ≡ header_fields s
header_fields-cube_schema s = header_fields-cube_schema_with s.text_places s

-- so rows are shown by the same text
pub text_of_rows-cube_schema : (s : Layout) (rows : List Row) → text_of_rows (cube_schema s) rows ≡ text_of_rows s rows
text_of_rows-cube_schema s rows = same s.text_places
  where
    same : (places : List ℕ) → text_of_rows (cube_schema_with places s) rows ≡ text_of_rows s rows
    same [] = refl
    same (place ∷ places) =
        ap (λ fields. line fields ++ flat_map (row_line s) rows) (header_fields-cube_schema_with (place ∷ places) s)

-- ---- what it has of its own
-- no text of it is counted
pub cube_schema-text_places : (s : Layout) → (cube_schema s).text_places ≡ []
cube_schema-text_places s = none s.text_places refl
  where
    none : (places : List ℕ) → s.text_places ≡ places → (cube_schema_with places s).text_places ≡ []
    none [] is = is
    none (place ∷ places) is = refl

-- its dimensions are those of the cube
pub cube_schema-dimensions : (s : Layout) → length (cube_schema s).dimensions ≡ number_of_dimensions s
cube_schema-dimensions s = as_many s.text_places refl
  where
    as_many : (places : List ℕ) → s.text_places ≡ places
        → length (cube_schema_with places s).dimensions ≡ number_of_dimensions s
    as_many [] is = rw is (omega arith)
    as_many (place ∷ places) is = length-take-le (number_of_dimensions s) s.dimensions (omega arith)

-- it is a schema
pub IsSchema-cube_schema : (s : Layout) → IsSchema s → IsSchema (cube_schema s)
IsSchema-cube_schema s is = is_schema s.text_places refl
  where
    is_schema : (places : List ℕ) → s.text_places ≡ places → IsSchema (cube_schema s)
    is_schema [] none = subst IsSchema (sym (cube_schema-none s none)) is
    is_schema (place ∷ places) some =
        let counts : 1 ≤ length s.text_places = omega (arith, ap length some) in
        subst IsSchema (sym (cube_schema-texts s counts)) (cube_schema-IsSchema s is counts)

-- ---- the facts that it takes
list_all-take : {X : Type 0} (test : X → Bool) (n : ℕ) (xs : List X) → list_all test xs ≡ true
    → list_all test (take n xs) ≡ true
list_all-take test zero xs all = refl
list_all-take test (suc n) [] all = refl
list_all-take test (suc n) (x ∷ xs) all =
    let (here, others) = and_parts (test x) (list_all test xs) all in
    and_from _ _ here (list_all-take test n xs others)

fits-cube_schema_with : (places : List ℕ) (s : Layout) (number : List ℕ → ℤ) (fact : Fact) → s.text_places ≡ places
    → fits s fact ≡ true → fits (cube_schema_with places s) (counted_by number (length places) fact) ≡ true
fits-cube_schema_with [] s number fact is fit = fit
fits-cube_schema_with (place ∷ places) s number fact is fit =
    let texts = suc (length places) in
    let counts : length s.text_places ≡ texts = ap length is in
    let dims = fits-length s fact fit in
    let kept = length fact.dims - texts in
    let dimensions : length (take kept fact.dims) ≡ length (cube_dimensions s) =
    length-take-le kept fact.dims (omega arith) ∙ rw (dims, counts) refl
    ∙ sym (length-take-le (number_of_dimensions s) s.dimensions (omega arith)) in
    let measures : length (fact.measures ++ map (option_map number) (last_values texts fact))
    ≡ length (counted_names s) =
    omega (
      arith,
      length-append fact.measures (map (option_map number) (last_values texts fact)),
      length-map (last_values texts fact) (option_map number),
      length-drop kept fact.dims,
      length-append s.measures (counted_texts s),
      length-drop (number_of_dimensions s) s.dimensions,
      fits-measures s fact fit,
    ) in
    and_from _ _ (and_from _ _ ((Decides-eqb _ _).1 dimensions) ((Decides-eqb _ _).1 measures))
    (list_all-take is_dimension_value kept fact.dims (and_parts _ _ fit).1)

-- a fact that fits the schema of the feeds fits that of the cube as the cube counts it
pub fits-cube_schema : (s : Layout) (number : List ℕ → ℤ) (fact : Fact) → fits s fact ≡ true
    → fits (cube_schema s) (counted_by number (length s.text_places) fact) ≡ true
fits-cube_schema s number fact fit = fits-cube_schema_with s.text_places s number fact refl fit

-- and so do all of some facts
pub all_fit-cube_schema : (s : Layout) (number : List ℕ → ℤ) (facts : List Fact) → list_all (fits s) facts ≡ true
    → list_all (fits (cube_schema s)) (map (counted_by number (length s.text_places)) facts) ≡ true
all_fit-cube_schema s number [] all = refl
all_fit-cube_schema s number (fact ∷ facts) all =
    let (here, others) = and_parts (fits s fact) (list_all (fits s) facts) all in
    and_from _ _ (fits-cube_schema s number fact here) (all_fit-cube_schema s number facts others)

-- ---- the rows of the cube
-- the rows under the schema of the cube, over facts whose texts are counted by a numbering that tells them apart, are
-- those of the facts
pub are_rows-cube_schema : (s : Layout) → IsSchema s → (number : List ℕ → ℤ) (facts : List Fact) (rows : List Row)
    → list_all (fits s) facts ≡ true → TellsApart number (texts_counted (length s.text_places) facts)
    → AreRows (cube_schema s) (map (counted_by number (length s.text_places)) facts) rows → AreRows s facts rows
are_rows-cube_schema s schema number facts rows fit apart are =
    let numbered = map (counted_by number (length s.text_places)) facts in
    let over = (are_rows-plain (cube_schema s) numbered rows (cube_schema-text_places s)).1 are in
    are_rows-numbered s schema number facts rows fit apart
    (rw (cube_schema-grouping_sets s, cube_schema-dimensions s, cube_schema-aggregates s) at over)

-- so a text that is printed under the schema of the cube is the printed cube of the facts
pub IsPrinted-cube_schema : (s : Layout) → IsSchema s → (number : List ℕ → ℤ) (facts : List Fact) (text : List ℕ)
    → list_all (fits s) facts ≡ true → TellsApart number (texts_counted (length s.text_places) facts)
    → IsPrinted (cube_schema s) (map (counted_by number (length s.text_places)) facts) text → IsPrinted s facts text
IsPrinted-cube_schema s schema number facts text fit apart printed = record {
  rows = printed.rows;
  are_rows = are_rows-cube_schema s schema number facts printed.rows fit apart printed.are_rows;
  text_is = printed.text_is ∙ text_of_rows-cube_schema s printed.rows;
}
