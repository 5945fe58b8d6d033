-- How a text of JSON grows, byte by byte and column by column.
use Rattle.std.proofs.Common.{◌≡◌, ◌+◌, ◌<◌, ◌≤◌, ◌++◌, ◌∷◌, [], ℕ, List, ◌∙◌, ap, append_assoc, codes, drop, get_or, length}
use Rattle.std.proofs.Common.{arith, map, sym, take}
use Rattle.std.specs.List.{flat_map, range_with_len}
use Rattle.std.proofs.lemmas.List.{append-nil, drop_all, drop_more, flat_map_more, map_push, take_more}
use Rattle.std.proofs.lemmas.List.FromFn.{map-range_with_len_more}
use Rattle.cube_console.specs.Json.{cell, cells_from, column_of, field_or_none, json_line}
use Rattle.cube_console.specs.JsonColumns.{seen}
use Rattle.cube_console.specs.declared.views.json.Column.{Column}
use Rattle.cube_console.specs.declared.views.json.Value.{Value}

-- one more piece of those that a list gives
pub flat_map-step : {X : Type 0} (f : X → List ℕ) (xs : List X) (i : ℕ) (d : X) (start old new : List ℕ)
    → i < length xs → old ≡ start ++ flat_map f (take i xs) → new ≡ old ++ f (get_or xs i d)
    → new ≡ start ++ flat_map f (take (i + 1) xs)
flat_map-step f xs i d start old new inside so_far adds =
    adds ∙ ap (λ t. t ++ f (get_or xs i d)) so_far ∙ flat_map_more f start (take i xs) (get_or xs i d)
    ∙ ap (λ t. start ++ flat_map f t) (sym (take_more xs i d inside))

-- one more column of a header
pub columns-step : (d : ℕ) (header : List (List ℕ)) (i : ℕ) (old : List Column) (column : Column)
    → map seen old ≡ map (column_of d header) (range_with_len 0 i) → seen column ≡ column_of d header i
    → map seen (old ++ column ∷ []) ≡ map (column_of d header) (range_with_len 0 (i + 1))
columns-step d header i old column so_far is =
    map_push seen old column ∙ ap (λ t. t ++ seen column ∷ []) so_far
    ∙ ap (λ t. map (column_of d header) (range_with_len 0 i) ++ t ∷ []) is
    ∙ sym (map-range_with_len_more (column_of d header) 0 i i (omega arith))

-- what is to come of a line behind the cells so far
abbrev pub to_come : ℕ → List Column → List (List ℕ) → List ℕ
to_come i columns fields = cells_from i (map seen (drop i columns)) fields

-- one more cell of a line
pub cells-step : (columns : List Column) (fields : List (List ℕ)) (i : ℕ) (d : Column) (old new whole : List ℕ)
    → i < length columns → old ++ to_come i columns fields ≡ whole
    → new ≡ old ++ cell (seen (get_or columns i d)) (field_or_none fields i)
    → new ++ to_come (i + 1) columns fields ≡ whole
cells-step columns fields i d old new whole inside so_far adds =
    let column = seen (get_or columns i d) in
    ap (λ t. t ++ to_come (i + 1) columns fields) adds
    ∙ append_assoc old (cell column (field_or_none fields i)) (to_come (i + 1) columns fields)
    ∙ ap (λ (rest : List Column). old ++ cells_from i (map seen rest) fields) (sym (drop_more columns i d inside))
    ∙ so_far

-- the end of a line
pub line-end : (columns : List Column) (fields : List (List ℕ)) (i : ℕ) (start old : List ℕ) → length columns ≤ i
    → old ++ to_come i columns fields ≡ start ++ cells_from 0 (map seen columns) fields
    → old ++ codes "}}\n" ≡ start ++ json_line (map seen columns) fields
line-end columns fields i start old past so_far =
    ap (λ t. t ++ codes "}}\n")
    (sym (append-nil old)
    ∙ ap (λ (rest : List Column). old ++ cells_from i (map seen rest) fields) (sym (drop_all i columns past)) ∙ so_far)
    ∙ append_assoc start (cells_from 0 (map seen columns) fields) (codes "}}\n")
