-- Printed lines, read back.
use Rattle.std.specs.Prelude.{◌≡◌, ◌+◌, ◌<◌, ◌≤◌, ℕ, zero, suc, List, [], ◌∷◌, ◌++◌, length, map}
use Rattle.std.specs.List.{AllByRecursion, flat_map}
use Rattle.std.proofs.Common.{refl, ap, ◌∙◌, arith}
use Rattle.std.proofs.lemmas.List.{length-append, length-map, length-take-le}
use Rattle.csv.specs.Machine.{next_record}
use Rattle.csv.specs.Reading.{records, records_from, default_config}
use Rattle.csv.specs.Writing.{read_back}
use Rattle.csv.specs.declared.parser.State.TheVariants as st
use Rattle.csv.proofs.RoundTrip.{read-write}
use Rattle.cube_core.specs.Layout.{Layout, IsSchema, number_of_dimensions}
use Rattle.cube_core.specs.Answer.{IsAnswer}
use Rattle.cube_core.specs.Group.{group_of}
use Rattle.cube_core.specs.Cube.{HasAnswers, AreRows}
use Rattle.cube_laws.specs.Cells.{all_counted}
use Rattle.cube_core.specs.Text.{answer_texts, coord_text, digits_of, digits_of_answers, grouping_text, header_fields}
use Rattle.cube_core.specs.Text.{line, row_fields, row_line, text_of_rows}
use Rattle.cube_core.specs.declared.aggregate.Answer.{Answer}
use Rattle.cube_core.specs.declared.fact.Fact.{Fact}
use Rattle.cube_core.specs.declared.key.Row.{Row}
use Rattle.cube_core.proofs.ListLaws.{AllZip-length}

-- a line has a byte, since it ends with LF
line-length : (fields : List (List ℕ)) → 1 ≤ length (line fields)
line-length fields = simp length-append (omega arith)

-- so there are no more lines than bytes
line-flat_map : (lines : List (List (List ℕ))) → length lines ≤ length (flat_map line lines)
line-flat_map [] = omega arith
line-flat_map (fields ∷ lines) =
    omega (arith, line-length fields, line-flat_map lines, length-append (line fields) (flat_map line lines))

-- a record of some field is read back as it is
read_back-same : (fields : List (List ℕ)) → 1 ≤ length fields → read_back fields ≡ fields
read_back-same [] some = absurd (omega arith)
read_back-same (field ∷ fields) some = refl

-- lines, read with enough turns
records_from-line : (lines : List (List (List ℕ))) (turns : ℕ) → AllByRecursion (λ fields. 1 ≤ length fields) lines
    → length lines ≤ turns
    → records_from default_config turns st.StartRecord (flat_map line lines) ≡ lines
unfolding records_from next_record
records_from-line [] zero all enough = refl
records_from-line [] (suc turns) all enough = refl
records_from-line (fields ∷ lines) zero all enough = absurd (omega arith)
records_from-line (fields ∷ lines) (suc turns) all enough =
    rw (read-write fields (flat_map line lines), read_back-same fields all.0)
    (ap (λ (rest : List (List (List ℕ))). fields ∷ rest) (records_from-line lines turns all.1 (omega arith)))

-- lines, read to their end
pub records-line : (lines : List (List (List ℕ))) → AllByRecursion (λ fields. 1 ≤ length fields) lines
    → records default_config (flat_map line lines) ≡ lines
records-line lines all =
    records_from-line lines (length (flat_map line lines) + 1) all (omega (arith, line-flat_map lines))

-- the lines of rows are those of their fields
row_line-row_fields : (s : Layout) (rows : List Row)
    → flat_map (row_line s) rows ≡ flat_map line (map (row_fields s) rows)
row_line-row_fields s [] = refl
row_line-row_fields s (row ∷ rows) = ap (λ (text : List ℕ). row_line s row ++ text) (row_line-row_fields s rows)

-- a row of some answer has a field
answer_texts-some : (digits : List ℕ) (answers : List Answer) → 1 ≤ length digits → 1 ≤ length answers
    → 1 ≤ length (answer_texts digits answers)
answer_texts-some [] answers some some' = absurd (omega (arith, some))
answer_texts-some (k ∷ digits) [] some some' = absurd (omega (arith, some'))
answer_texts-some (k ∷ digits) (a ∷ answers) some some' = omega arith

row_fields-length : (s : Layout) (row : Row) → 1 ≤ length s.aggregates → 1 ≤ length row.answers
    → 1 ≤ length (row_fields s row)
row_fields-length s row some some' =
    let shown = map coord_text row.key.coords ++ map grouping_text row.key.coords in
    let digits : 1 ≤ length (digits_of_answers s) = rw (length-map s.aggregates (digits_of s)) some in
    omega (
      arith,
      length-append shown (answer_texts (digits_of_answers s) row.answers),
      answer_texts-some (digits_of_answers s) row.answers digits some',
    )

row_fields-HasAnswers : (s : Layout) (facts : List Fact) (rows : List Row) → 1 ≤ length s.aggregates
    → AllByRecursion (HasAnswers s.aggregates facts) rows
    → AllByRecursion (λ fields. 1 ≤ length fields) (map (row_fields s) rows)
row_fields-HasAnswers s facts [] some all = tt
row_fields-HasAnswers s facts (row ∷ rows) some all = (
  row_fields-length s row some
      (omega (arith, AllZip-length (IsAnswer (group_of row.key facts)) s.aggregates row.answers all.0)),
  row_fields-HasAnswers s facts rows some all.1,
)

-- the header has a field
header_fields-length : (s : Layout) → length s.text_places < length s.dimensions → 1 ≤ length (header_fields s)
header_fields-length s some = simp (length-append, length-map)
    (omega (arith, length-take-le (number_of_dimensions s) s.dimensions (omega arith), some))

-- rows of fields, printed with the header and read back
pub records-fields : (s : Layout) (rows : List Row) → length s.text_places < length s.dimensions
    → AllByRecursion (λ fields. 1 ≤ length fields) (map (row_fields s) rows)
    → records default_config (text_of_rows s rows) ≡ header_fields s ∷ map (row_fields s) rows
records-fields s rows some all =
    ap (λ (text : List ℕ). records default_config (line (header_fields s) ++ text)) (row_line-row_fields s rows)
    ∙ records-line (header_fields s ∷ map (row_fields s) rows) (header_fields-length s some, all)

-- a printed cube, read back
pub records-text_of_rows : (s : Layout) (facts : List Fact) (rows : List Row) → IsSchema s → AreRows s facts rows
    → records default_config (text_of_rows s rows) ≡ header_fields s ∷ map (row_fields s) rows
records-text_of_rows s facts rows schema are =
    records-fields s rows schema.some_dimension
    (row_fields-HasAnswers s (all_counted s facts) rows schema.some_aggregate are.answers)
