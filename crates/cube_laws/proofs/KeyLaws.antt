-- What the columns of a row tell of its key.
use Rattle.std.specs.Prelude.{◌≡◌, ◌==◌, ◌*◌, ℕ, true, not, List, [], ◌∷◌, ◌++◌, length, map, take, drop, get_or}
use Rattle.std.specs.Prelude.{Option, Some, None, Contains, codes}
use Rattle.std.specs.Str.{bytes_eq}
use Rattle.std.specs.List.{list_any, list_all}
use Rattle.std.proofs.Common.{ℤ, pos, subst, refl, sym, ap, ◌∙◌, inl, inr, arith}
use Rattle.std.proofs.Math.Seq.{take-append_seam, drop-append_seam}
use Rattle.std.proofs.lemmas.List.{length-append, length-map}
use Rattle.std.proofs.lemmas.Bool.{or_cases, and_parts, and_from, both_ways, not-true, false≢true}
use Rattle.std.proofs.lemmas.Slice.Eq.{bytes_eq-Decides}
use Rattle.cube_core.specs.Layout.{Layout, cube_schema, number_of_dimensions}
use Rattle.cube_core.specs.TextPlaces.{text_number}
use Rattle.cube_core.specs.Takes.{null_text, fits, is_dimension_value}
use Rattle.cube_core.specs.Covers.{stands_for, all_stand_for, covers}
use Rattle.cube_core.specs.GroupingSet.{is_all_coord}
use Rattle.cube_core.specs.Cube.{is_total, is_cell, HasAnswers, key_of, AreRows}
use Rattle.cube_core.specs.Text.{answer_texts, coord_text, digits_of_answers, grouping_text}
use Rattle.cube_laws.specs.Cells.{all_counted}
use Rattle.cube_laws.specs.Keys.{LookAlike, key_columns}
use Rattle.cube_merge.specs.Lawful.{is_no_null_text, has_no_null_text}
use Rattle.cube_core.specs.declared.fact.Fact.{Fact}
use Rattle.cube_core.specs.declared.key.Coord.{Coord}
use Rattle.cube_core.specs.declared.key.Coord.TheVariants as coord
use Rattle.cube_core.specs.declared.key.Key.{Key}
use Rattle.cube_core.specs.declared.key.Row.{Row}
use Rattle.cube_laws.proofs.RowLaws.{HasAnswers-unique}
use Rattle.cube_core.proofs.CubeSchemaLaws.{all_fit-cube_schema, cube_schema-dimensions}
use Rattle.cube_core.proofs.CellKeyLaws.{is_cell-length}
use Rattle.cube_core.proofs.ListLaws.{AllByRecursion-Contains, list_all-Contains, list_any-Contains, map-Contains}

-- a text that is the one for null isn't told
null_text-bytes_eq : (name : List ℕ) → not (bytes_eq name null_text) ≡ true → name ≡ null_text → ⊥
null_text-bytes_eq name told same =
    both_ways _ (not-true (bytes_eq name null_text) told) ((bytes_eq-Decides name null_text).1 same)

-- the two texts of a GROUPING column differ
codes-apart : codes "0" ≡ codes "1" → ⊥
codes-apart same = false≢true (ap (λ (text : List ℕ). get_or text 0 0 == 49) same)

-- coordinates that show the same are the same
coord_text-unique : (a b : Coord) → is_no_null_text a ≡ true → is_no_null_text b ≡ true → coord_text a ≡ coord_text b
    → grouping_text a ≡ grouping_text b → a ≡ b
coord_text-unique (coord.Text x) (coord.Text y) told_a told_b texts groupings = ap coord.Text texts
coord_text-unique (coord.Text x) coord.Null told_a told_b texts groupings = absurd (null_text-bytes_eq x told_a texts)
coord_text-unique (coord.Text x) coord.All told_a told_b texts groupings = absurd (null_text-bytes_eq x told_a texts)
coord_text-unique coord.Null (coord.Text y) told_a told_b texts groupings =
    absurd (null_text-bytes_eq y told_b (sym texts))
coord_text-unique coord.Null coord.Null told_a told_b texts groupings = refl
coord_text-unique coord.Null coord.All told_a told_b texts groupings = absurd (codes-apart groupings)
coord_text-unique coord.All (coord.Text y) told_a told_b texts groupings =
    absurd (null_text-bytes_eq y told_b (sym texts))
coord_text-unique coord.All coord.Null told_a told_b texts groupings = absurd (codes-apart (sym groupings))
coord_text-unique coord.All coord.All told_a told_b texts groupings = refl

-- so are lists of them
coord_text-all_unique : (a b : List Coord) → list_all is_no_null_text a ≡ true → list_all is_no_null_text b ≡ true
    → map coord_text a ≡ map coord_text b → map grouping_text a ≡ map grouping_text b → a ≡ b
coord_text-all_unique [] [] told_a told_b texts groupings = refl
coord_text-all_unique [] (y ∷ ys) told_a told_b texts groupings = cc texts
coord_text-all_unique (x ∷ xs) [] told_a told_b texts groupings = cc texts
coord_text-all_unique (x ∷ xs) (y ∷ ys) told_a told_b texts groupings =
    let a = and_parts (is_no_null_text x) (list_all is_no_null_text xs) told_a in
    let b = and_parts (is_no_null_text y) (list_all is_no_null_text ys) told_b in
    let text : coord_text x ≡ coord_text y = cc texts in
    let grouping : grouping_text x ≡ grouping_text y = cc groupings in
    let more_texts : map coord_text xs ≡ map coord_text ys = cc texts in
    let more_groupings : map grouping_text xs ≡ map grouping_text ys = cc groupings in
    let head : x ≡ y = coord_text-unique x y a.0 b.0 text grouping in
    let tail : xs ≡ ys = coord_text-all_unique xs ys a.1 b.1 more_texts more_groupings in
    cc (head, tail)

-- keys that look alike are one key
pub LookAlike-unique : (a b : Key) → has_no_null_text a ≡ true → has_no_null_text b ≡ true → LookAlike a b → a ≡ b
LookAlike-unique a b told_a told_b alike =
    let make : List Coord → Key = λ coords. record { coords = coords } in
    ap make (coord_text-all_unique a.coords b.coords told_a told_b alike.dimensions alike.groupings)

-- a coordinate that stands for a lawful value of a dimension is no null text
is_no_null_text-stands_for : (c : Coord) (value : Option (List ℕ)) → stands_for c value ≡ true
    → is_dimension_value value ≡ true → is_no_null_text c ≡ true
is_no_null_text-stands_for coord.All value stands lawful = refl
is_no_null_text-stands_for coord.Null value stands lawful = refl
is_no_null_text-stands_for (coord.Text name) None stands lawful = cc stands
is_no_null_text-stands_for (coord.Text name) (Some text) stands lawful =
    let same = (bytes_eq-Decides name text).0 stands in
    ap (λ (t : List ℕ). not (bytes_eq t null_text)) same ∙ lawful

-- so do those of a key
is_no_null_text-all_stand_for : (coords : List Coord) (values : List (Option (List ℕ)))
    → all_stand_for coords values ≡ true → list_all is_dimension_value values ≡ true
    → list_all is_no_null_text coords ≡ true
is_no_null_text-all_stand_for [] values stand lawful = refl
is_no_null_text-all_stand_for (c ∷ coords) [] stand lawful = cc stand
is_no_null_text-all_stand_for (c ∷ coords) (value ∷ values) stand lawful =
    let s = and_parts (stands_for c value) (all_stand_for coords values) stand in
    let l = and_parts (is_dimension_value value) (list_all is_dimension_value values) lawful in
    and_from _ _ (is_no_null_text-stands_for c value s.0 l.0) (is_no_null_text-all_stand_for coords values s.1 l.1)

-- no coordinate of the grand total is a null text
is_no_null_text-is_all_coord : (coords : List Coord) → list_all is_all_coord coords ≡ true
    → list_all is_no_null_text coords ≡ true
is_no_null_text-is_all_coord [] all = refl
is_no_null_text-is_all_coord (coord.Text name ∷ coords) all = cc all
is_no_null_text-is_all_coord (coord.Null ∷ coords) all = cc all
is_no_null_text-is_all_coord (coord.All ∷ coords) all = is_no_null_text-is_all_coord coords all

-- what is true of each cell of facts that fit: no null text, and a coordinate for each dimension
abbrev pub IsTold : Layout → Key → Type 0
IsTold s key = (has_no_null_text key ≡ true) × (length key.coords ≡ length s.dimensions)

-- a key that covers one of the facts
has_no_null_text-covers : (s : Layout) (facts : List Fact) (key : Key) → list_all (fits s) facts ≡ true
    → list_any (covers key) facts ≡ true → has_no_null_text key ≡ true
has_no_null_text-covers s facts key fit some =
    let found = list_any-Contains (covers key) facts some in
    let parts = and_parts _ _ (list_all-Contains (fits s) facts found.0 fit found.1) in
    is_no_null_text-all_stand_for key.coords found.0.dims found.2 parts.1

-- a cell
pub IsTold-is_cell : (s : Layout) (sets : List ℕ) (facts : List Fact) (key : Key) → list_all (fits s) facts ≡ true
    → is_cell sets (length s.dimensions) facts key ≡ true → IsTold s key
IsTold-is_cell s sets facts key fit cell =
    let parts = and_parts _ _ cell in
    let told : has_no_null_text key ≡ true =
    elim (or_cases (is_total (length s.dimensions) key) (list_any (covers key) facts) parts.1) [
      | inl total ↦ is_no_null_text-is_all_coord key.coords (and_parts _ _ total).1
      | inr some ↦ has_no_null_text-covers s facts key fit some
    ] in
    (told, is_cell-length s facts key fit parts.1)

-- a cell of a schema's cube can be told, and has its dimensions
told-is_cell : (s : Layout) (facts : List Fact) (key : Key) → list_all (fits s) facts ≡ true
    → is_cell s.grouping_sets (number_of_dimensions s) (all_counted s facts) key ≡ true
    → (has_no_null_text key ≡ true) × (length key.coords ≡ number_of_dimensions s)
told-is_cell s facts key fit cell =
    let number : List ℕ → ℤ = λ text. pos (text_number text) in
    let dimensions = cube_schema-dimensions s in
    let told = IsTold-is_cell (cube_schema s) s.grouping_sets (all_counted s facts) key
    (all_fit-cube_schema s number facts fit)
    (subst (λ n. is_cell s.grouping_sets n (all_counted s facts) key ≡ true) (sym dimensions) cell) in
    (told.0, told.1 ∙ dimensions)

-- lists of one length that begin two equal lists are equal, and so is what comes after
pub append-front : {X : Type 0} (a b as' bs : List X) → length a ≡ length b → a ++ as' ≡ b ++ bs → a ≡ b
append-front {X} a b as' bs lengths same =
    sym (take-append_seam a as') ∙ ap (λ (xs : List X). take (length a) xs) same ∙ rw lengths (take-append_seam b bs)

pub append-back : {X : Type 0} (a b as' bs : List X) → length a ≡ length b → a ++ as' ≡ b ++ bs → as' ≡ bs
append-back {X} a b as' bs lengths same =
    sym (drop-append_seam a as') ∙ ap (λ (xs : List X). drop (length a) xs) same ∙ rw lengths (drop-append_seam b bs)

-- the columns of a row that show its key
abbrev pub shown : Key → List (List ℕ)
shown key = map coord_text key.coords ++ map grouping_text key.coords

pub length-shown : (key : Key) → length (shown key) ≡ 2 * length key.coords
length-shown key = simp (length-append, length-map) (omega arith)

key_columns-shown : (s : Layout) (row : Row) → length row.key.coords ≡ number_of_dimensions s
    → key_columns s row ≡ shown row.key
key_columns-shown s row as_many =
    let n : 2 * number_of_dimensions s ≡ length (shown row.key) =
    sym (length-shown row.key ∙ ap (λ (k : ℕ). 2 * k) as_many) in
    rw n (take-append_seam (shown row.key) (answer_texts (digits_of_answers s) row.answers))

-- what shows the same looks alike
pub shown-LookAlike : (a b : Key) → length a.coords ≡ length b.coords → shown a ≡ shown b → LookAlike a b
shown-LookAlike a b lengths same =
    let l : length (map coord_text a.coords) ≡ length (map coord_text b.coords) =
    length-map a.coords coord_text ∙ lengths ∙ sym (length-map b.coords coord_text) in
    record {
      dimensions = append-front (map coord_text a.coords) (map coord_text b.coords) _ _ l same;
      groupings = append-back (map coord_text a.coords) (map coord_text b.coords) _ _ l same;
    }

-- rows of a cube that show the same have one key
shown-unique : (s : Layout) (facts : List Fact) (rows : List Row) (a b : Row) → list_all (fits s) facts ≡ true
    → AreRows s facts rows
    → Contains rows a → Contains rows b → key_columns s a ≡ key_columns s b → a.key ≡ b.key
shown-unique s facts rows a b fit whole in_a in_b same =
    let told_a = told-is_cell s facts a.key fit ((whole.cells a.key).0 (map-Contains key_of rows a in_a)) in
    let told_b = told-is_cell s facts b.key fit ((whole.cells b.key).0 (map-Contains key_of rows b in_b)) in
    LookAlike-unique a.key b.key told_a.0 told_b.0
    (shown-LookAlike a.key b.key (told_a.1 ∙ sym told_b.1)
    (sym (key_columns-shown s a told_a.1) ∙ same ∙ key_columns-shown s b told_b.1))

-- rows of a cube that show the same are one row
pub row_fields-unique : (s : Layout) (facts : List Fact) (rows : List Row) (a b : Row) → list_all (fits s) facts ≡ true
    → AreRows s facts rows
    → Contains rows a → Contains rows b → key_columns s a ≡ key_columns s b → a ≡ b
row_fields-unique s facts rows a b fit whole in_a in_b same =
    HasAnswers-unique s.aggregates (all_counted s facts) a b (shown-unique s facts rows a b fit whole in_a in_b same)
    (AllByRecursion-Contains (HasAnswers s.aggregates (all_counted s facts)) rows a whole.answers in_a)
    (AllByRecursion-Contains (HasAnswers s.aggregates (all_counted s facts)) rows b whole.answers in_b)
