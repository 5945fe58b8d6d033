-- Rows of a schema are told by their text.
use Rattle.std.proofs.Common.{◌≡◌, ◌<◌, ◌≤◌, ◌*◌, List, [], ◌∷◌, length, map, refl, sym, ap, ap₂, ◌∙◌, arith, length-append}
use Rattle.std.specs.List.{AllByRecursion}
use Rattle.csv.specs.Reading.{records, default_config}
use Rattle.cube_core.specs.Layout.{Layout}
use Rattle.cube_core.specs.Text.{answer_texts, digits_of_answers, header_fields, row_fields, text_of_rows}
use Rattle.cube_core.specs.declared.aggregate.Answer.{Answer}
use Rattle.cube_core.specs.declared.key.Key.{Key}
use Rattle.cube_core.specs.declared.key.Row.{Row}
use Rattle.cube_merge.specs.Lawful.{IsLawfulRow}
use Rattle.cube_laws.proofs.AnswerTextLaws.{AreOfKind-told, HasFewDigits}
use Rattle.cube_laws.proofs.KeyLaws.{LookAlike-unique, append-front, append-back, length-shown, shown, shown-LookAlike}
use Rattle.cube_laws.proofs.TextLaws.{records-fields}

-- a row of a schema has a field
row_fields-IsLawfulRow : (s : Layout) (rows : List Row) → length s.text_places < length s.dimensions → AllByRecursion (IsLawfulRow s) rows
    → AllByRecursion (λ fields. 1 ≤ length fields) (map (row_fields s) rows)
row_fields-IsLawfulRow s [] some all = tt
row_fields-IsLawfulRow s (row ∷ rows) some all = (
  omega (
    arith,
    length-append (shown row.key) (answer_texts (digits_of_answers s) row.answers),
    length-shown row.key,
    all.0.coords,
  ),
  row_fields-IsLawfulRow s rows some all.1,
)

-- two rows that show the same are one row
row_fields-told : (s : Layout) (a b : Row) → HasFewDigits s → IsLawfulRow s a → IsLawfulRow s b
    → row_fields s a ≡ row_fields s b → a ≡ b
row_fields-told s a b few h k same =
    let texts = answer_texts (digits_of_answers s) in
    let coords : length a.key.coords ≡ length b.key.coords = h.coords ∙ sym k.coords in
    let columns : length (shown a.key) ≡ length (shown b.key) =
    length-shown a.key ∙ ap (λ n. 2 * n) coords ∙ sym (length-shown b.key) in
    let keys : a.key ≡ b.key = LookAlike-unique a.key b.key h.told k.told
    (shown-LookAlike a.key b.key coords
    (append-front (shown a.key) (shown b.key) (texts a.answers) (texts b.answers) columns same)) in
    let answers : a.answers ≡ b.answers = AreOfKind-told s s.aggregates a.answers b.answers few h.answers k.answers
    (append-back (shown a.key) (shown b.key) (texts a.answers) (texts b.answers) columns same) in
    ap₂ (λ (key : Key) (given : List Answer). let row : Row = record { key = key; answers = given } in row) keys answers

rows-told : (s : Layout) (rows others : List Row) → HasFewDigits s → AllByRecursion (IsLawfulRow s) rows
    → AllByRecursion (IsLawfulRow s) others → map (row_fields s) rows ≡ map (row_fields s) others → rows ≡ others
rows-told s [] [] few h k same = refl
rows-told s [] (b ∷ others) few h k same = cc same
rows-told s (a ∷ rows) [] few h k same = cc same
rows-told s (a ∷ rows) (b ∷ others) few h k same =
    let first : row_fields s a ≡ row_fields s b = cc same in
    let after : map (row_fields s) rows ≡ map (row_fields s) others = cc same in
    ap₂ (λ row more. row ∷ more) (row_fields-told s a b few h.0 k.0 first)
    (rows-told s rows others few h.1 k.1 after)

-- two lists of rows of a schema with the same text are the same rows
pub text_of_rows-told : (s : Layout) (rows others : List Row) → length s.text_places < length s.dimensions → HasFewDigits s
    → AllByRecursion (IsLawfulRow s) rows → AllByRecursion (IsLawfulRow s) others
    → text_of_rows s rows ≡ text_of_rows s others → rows ≡ others
text_of_rows-told s rows others some few h k same =
    let read : header_fields s ∷ map (row_fields s) rows ≡ header_fields s ∷ map (row_fields s) others
    = sym (records-fields s rows some (row_fields-IsLawfulRow s rows some h)) ∙ ap (records default_config) same
    ∙ records-fields s others some (row_fields-IsLawfulRow s others some k) in
    let fields : map (row_fields s) rows ≡ map (row_fields s) others = cc read in
    rows-told s rows others few h k fields
