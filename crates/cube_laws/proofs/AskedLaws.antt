-- What patterns match, which words write them, and what rolling up does to a key.
use Rattle.std.specs.Prelude.{◌≡◌, ◌≢◌, ◌↔◌, ◌==◌, ◌||◌, ◌<◌, ◌≤◌, ℕ, zero, suc, Bool, true, false, not, List}
use Rattle.std.specs.Prelude.{[], ◌∷◌, ◌++◌, length, map, Contains, Option, Some, None, is_some, Result, Ok, Err, slice_get}
use Rattle.std.specs.Prelude.{slice_set, if◌then◌else◌}
use Rattle.std.specs.Option.{option_map_or}
use Rattle.std.specs.List.{AllByRecursion, list_any, list_all, filter_map, cons_option}
use Rattle.std.specs.List.Sorted.{IsStrictlySortedBy}
use Rattle.std.specs.Ordering.{eq_by_cmp}
use Rattle.std.proofs.Common.{refl, sym, ap, ◌∙◌, subst, inl, inr, arith, append_assoc}
use Rattle.std.proofs.lemmas.Bool.{and_from, and_parts, or_cases, or_right, eq-eqb, not-true}
use Rattle.std.proofs.lemmas.List.{length-map}
use Rattle.std.proofs.lemmas.Map.Text.{is_eq-slice_cmp}
use Rattle.std.proofs.lemmas.Slice.Eq.{bytes_eq-Decides}
use Rattle.csv.specs.Writing.{default_writer, escaped, field_text, needs_byte, quoted}
use Rattle.cube_core.specs.Covers.{all_stand_for, covers, stands_for}
use Rattle.cube_core.specs.Cube.{HasAnswers, is_total, key_of}
use Rattle.cube_core.specs.GroupingSet.{is_all_at, is_all_coord}
use Rattle.cube_core.specs.Layout.{Layout, keeps, number_of_dimensions}
use Rattle.cube_laws.specs.Cells.{AreCountedRows}
use Rattle.cube_core.specs.Order.{coord_cmp, key_cmp}
use Rattle.cube_core.specs.Query.{AreRowsWhere, Wanted, all_wanted, cell_of, drills_down, is_wanted, matches, only_one}
use Rattle.cube_core.specs.Query.{pattern_of, rolled_up, spelled_by, spelled_under, wanted_by}
use Rattle.cube_core.specs.Records.{records_of}
use Rattle.cube_core.specs.Text.{line}
use Rattle.cube_core.specs.declared.fact.Fact.{Fact}
use Rattle.cube_core.specs.declared.key.Coord.{Coord}
use Rattle.cube_core.specs.declared.key.Coord.TheVariants as coord
use Rattle.cube_core.specs.declared.key.Key.{Key}
use Rattle.cube_core.specs.declared.key.Row.{Row}
use Rattle.cube_core.specs.declared.query.QueryFault.{QueryFault}
use Rattle.cube_core.specs.declared.query.QueryFault.TheVariants.{Field, Fields, NotCell}
use Rattle.cube_core.proofs.CellKeyLaws.{Key-coords, key_cmp-Decides}
use Rattle.cube_core.proofs.KeyOrderLaws.{key_cmp-IsTotalOrder}
use Rattle.cube_core.proofs.LifeLaws.{bytes_eq-itself}
use Rattle.cube_core.proofs.ListLaws.{AllByRecursion-Contains, Contains-cases, Contains-head, Contains-list_any}
use Rattle.cube_core.proofs.ListLaws.{Contains-map, Contains-nil, list_any-Contains, map-Contains}
use Rattle.cube_laws.specs.Asked.{CanBeWritten, Writes, field_for, pattern_for}
use Rattle.cube_laws.specs.Lines.{IsUnended}
use Rattle.cube_laws.proofs.RecordLaws.{records-IsUnended, records_of-other}
use Rattle.cube_laws.proofs.RowLaws.{HasAnswers-keys}
use Rattle.cube_laws.proofs.SortedLaws.{IsStrictlySortedBy-unique}

-- ---- the pattern of a key
coord_cmp-same : (wanted c : Coord) → eq_by_cmp coord_cmp wanted c ≡ true → wanted ≡ c
coord_cmp-same (coord.Text a) (coord.Text b) same =
    ap coord.Text ((bytes_eq-Decides a b).0 (sym (is_eq-slice_cmp a b) ∙ same))
coord_cmp-same (coord.Text a) coord.Null same = cc
coord_cmp-same (coord.Text a) coord.All same = cc
coord_cmp-same coord.Null (coord.Text b) same = cc
coord_cmp-same coord.Null coord.Null same = refl
coord_cmp-same coord.Null coord.All same = cc
coord_cmp-same coord.All (coord.Text b) same = cc
coord_cmp-same coord.All coord.Null same = cc
coord_cmp-same coord.All coord.All same = refl

coord_cmp-itself : (c : Coord) → eq_by_cmp coord_cmp c c ≡ true
coord_cmp-itself (coord.Text name) = is_eq-slice_cmp name name ∙ bytes_eq-itself name
coord_cmp-itself coord.Null = refl
coord_cmp-itself coord.All = refl

all_wanted-same : (wanted coords : List Coord) → all_wanted (map Some wanted) coords ≡ true → coords ≡ wanted
all_wanted-same [] [] all = refl
all_wanted-same [] (c ∷ coords) all = cc
all_wanted-same (w ∷ wanted) [] all = cc
all_wanted-same (w ∷ wanted) (c ∷ coords) all =
    let parts = and_parts (eq_by_cmp coord_cmp w c) (all_wanted (map Some wanted) coords) all in
    let first : w ≡ c = coord_cmp-same w c parts.0 in
    let rest : coords ≡ wanted = all_wanted-same wanted coords parts.1 in
    cc

all_wanted-itself : (coords : List Coord) → all_wanted (map Some coords) coords ≡ true
all_wanted-itself [] = refl
all_wanted-itself (c ∷ coords) =
    and_from (eq_by_cmp coord_cmp c c) (all_wanted (map Some coords) coords) (coord_cmp-itself c)
    (all_wanted-itself coords)

pub matches-pattern_for : (key other : Key) → (matches (pattern_for key) other ≡ true) ↔ (other ≡ key)
matches-pattern_for key other = (
  λ all. Key-coords other key (all_wanted-same key.coords other.coords all),
  λ same. subst (λ (k : Key). matches (pattern_for key) k ≡ true) (sym same) (all_wanted-itself key.coords),
)

-- it is a cell
is_some-all : (coords : List Coord) → list_all is_some (map Some coords) ≡ true
is_some-all [] = refl
is_some-all (c ∷ coords) = is_some-all coords

filter_map-all : (coords : List Coord) → filter_map (λ (wanted : Option Coord). wanted) (map Some coords) ≡ coords
filter_map-all [] = refl
filter_map-all (c ∷ coords) = ap (λ rest. c ∷ rest) (filter_map-all coords)

pub cell_of-pattern_for : (key : Key) → cell_of (pattern_for key) ≡ Ok key
cell_of-pattern_for key =
    let cell : Result Key QueryFault
    = Ok (record { coords = filter_map (λ (wanted : Option Coord). wanted) (pattern_for key) }) in
    ap (λ (b : Bool). if b then cell else Err NotCell) (is_some-all key.coords)
    ∙ ap (λ (coords : List Coord). let found : Key = record { coords = coords } in Ok found) (filter_map-all key.coords)

-- and its slice is one row
pub slice-row : (s : Layout) (facts : List Fact) (rows sliced : List Row) (row : Row) → AreCountedRows s facts rows
    → Contains rows row
    → AreRowsWhere (matches (pattern_for row.key)) s.grouping_sets (number_of_dimensions s) s.aggregates facts sliced
    → sliced ≡ row ∷ []
unfolding IsStrictlySortedBy
slice-row s facts rows sliced row all among some =
    HasAnswers-keys s.aggregates facts sliced (row ∷ [])
    (IsStrictlySortedBy-unique key_cmp-IsTotalOrder (map key_of sliced) (row.key ∷ []) some.ordered (tt, tt)
    (λ key there.
    let same : key ≡ row.key = (matches-pattern_for row.key key).0 ((some.cells key).0 there).1 in
    subst (Contains (row.key ∷ [])) (sym same) (Contains-head row.key []))
    (λ key there. elim (Contains-cases row.key [] key there) [
      | inl same ↦ subst (Contains (map key_of sliced)) same
          ((some.cells row.key).1
          ((all.cells row.key).0 (map-Contains key_of rows row among), all_wanted-itself row.key.coords))
      | inr none ↦ absurd (Contains-nil key none)
    ]))
    some.answers
    (AllByRecursion-Contains (HasAnswers s.aggregates facts) rows row all.answers among, tt)

-- ---- a pattern with `?`
any-some : (before after : Wanted) (coords : List Coord) → all_wanted (before ++ None ∷ after) coords ≡ true
    → (c : Coord) × (slice_get coords (length before) ≡ Some c) × (all_wanted (before ++ Some c ∷ after) coords ≡ true)
any-some [] after [] all = cc
any-some [] after (c ∷ coords) all =
    (c, refl, and_from (eq_by_cmp coord_cmp c c) (all_wanted after coords) (coord_cmp-itself c) all)
any-some (wanted ∷ before) after [] all = cc
any-some (wanted ∷ before) after (c ∷ coords) all =
    let parts = and_parts (is_wanted wanted c) (all_wanted (before ++ None ∷ after) coords) all in
    let found = any-some before after coords parts.1 in (
      found.0,
      found.1,
      and_from (is_wanted wanted c) (all_wanted (before ++ Some found.0 ∷ after) coords) parts.0 found.2,
    )

some-any : (before after : Wanted) (coords : List Coord) (c : Coord)
    → all_wanted (before ++ Some c ∷ after) coords ≡ true → all_wanted (before ++ None ∷ after) coords ≡ true
some-any [] after [] c all = cc
some-any [] after (first ∷ coords) c all = (and_parts (eq_by_cmp coord_cmp c first) (all_wanted after coords) all).1
some-any (wanted ∷ before) after [] c all = cc
some-any (wanted ∷ before) after (first ∷ coords) c all =
    let parts = and_parts (is_wanted wanted first) (all_wanted (before ++ Some c ∷ after) coords) all in
    and_from (is_wanted wanted first) (all_wanted (before ++ None ∷ after) coords) parts.0
    (some-any before after coords c parts.1)

pub matches-any : (before after : Wanted) (key : Key)
    → (matches (before ++ None ∷ after) key ≡ true)
    ↔ ((c : Coord) × (slice_get key.coords (length before) ≡ Some c) × (matches (before ++ Some c ∷ after) key ≡ true))
matches-any before after key = (
  λ all. any-some before after key.coords all,
  λ found. some-any before after key.coords found.0 found.2,
)

-- ---- the words of patterns
wanted_by-field_for : (wanted : Option Coord) → CanBeWritten wanted → wanted_by (field_for wanted) ≡ Some wanted
wanted_by-field_for None can = refl
wanted_by-field_for (Some coord.All) can = refl
wanted_by-field_for (Some coord.Null) can = refl
wanted_by-field_for (Some (coord.Text text)) can =
    ap (λ (b : Bool). option_map_or (λ (t : List ℕ). Some (Some (coord.Text t))) (if b then Some text else None) None) can

is_some-wanted_by : (pattern : Wanted) → AllByRecursion CanBeWritten pattern
    → list_all (λ field. is_some (wanted_by field)) (map field_for pattern) ≡ true
is_some-wanted_by [] all = refl
is_some-wanted_by (wanted ∷ pattern) all =
    and_from (is_some (wanted_by (field_for wanted)))
    (list_all (λ field. is_some (wanted_by field)) (map field_for pattern))
    (ap is_some (wanted_by-field_for wanted all.0)) (is_some-wanted_by pattern all.1)

filter_map-wanted_by : (pattern : Wanted) → AllByRecursion CanBeWritten pattern
    → filter_map wanted_by (map field_for pattern) ≡ pattern
filter_map-wanted_by [] all = refl
filter_map-wanted_by (wanted ∷ pattern) all =
    λ i. cons_option (wanted_by-field_for wanted all.0 i) (filter_map-wanted_by pattern all.1 i)

spelled_by-field_for : (pattern : Wanted) → AllByRecursion CanBeWritten pattern
    → spelled_by (map field_for pattern) ≡ Ok pattern
spelled_by-field_for pattern all =
    ap (λ (b : Bool). if b then Ok (filter_map wanted_by (map field_for pattern)) else Err Field)
    (is_some-wanted_by pattern all)
    ∙ ap (λ (found : Wanted). Ok found) (filter_map-wanted_by pattern all)

-- a text begins neither with LF nor with a byte order mark
record BeginsWell (text : List ℕ) : Type 0 where
  first : ℕ
  rest : List ℕ
  text_is : text ≡ first ∷ rest
  no_end : first ≢ 10
  no_mark : first ≢ 0xEF

field_text-BeginsWell : (first : ℕ) (rest more : List ℕ) → first ≢ 10 → first ≢ 0xEF
    → BeginsWell (field_text default_writer (first ∷ rest) ++ more)
field_text-BeginsWell first rest more no_end no_mark =
    by (list_any (needs_byte default_writer) (first ∷ rest)) refl
  where
    written : (b : Bool) → list_any (needs_byte default_writer) (first ∷ rest) ≡ b
        → field_text default_writer (first ∷ rest) ++ more
        ≡ (if b then quoted default_writer (first ∷ rest) else first ∷ rest) ++ more
    written b is = ap (λ (c : Bool). (if c then quoted default_writer (first ∷ rest) else first ∷ rest) ++ more) is

    by : (b : Bool) → list_any (needs_byte default_writer) (first ∷ rest) ≡ b
        → BeginsWell (field_text default_writer (first ∷ rest) ++ more)
    by true needs = record {
      first = 34;
      rest = (escaped default_writer (first ∷ rest) ++ 34 ∷ []) ++ more;
      text_is = written true needs;
      no_end = λ is. omega arith;
      no_mark = λ is. omega arith;
    }
    by false plain = record {
      first = first;
      rest = rest ++ more;
      text_is = written false plain;
      no_end = no_end;
      no_mark = no_mark;
    }

field_for-BeginsWell : (wanted : Option Coord) (more : List ℕ)
    → BeginsWell (field_text default_writer (field_for wanted) ++ more)
field_for-BeginsWell None more = field_text-BeginsWell 63 [] more (λ is. omega arith) (λ is. omega arith)
field_for-BeginsWell (Some coord.All) more =
    field_text-BeginsWell 92 (65 ∷ []) more (λ is. omega arith) (λ is. omega arith)
field_for-BeginsWell (Some coord.Null) more =
    field_text-BeginsWell 92 (78 ∷ []) more (λ is. omega arith) (λ is. omega arith)
field_for-BeginsWell (Some (coord.Text text)) more =
    field_text-BeginsWell 61 text more (λ is. omega arith) (λ is. omega arith)

line-BeginsWell : (pattern : Wanted) → 1 ≤ length pattern → BeginsWell (line (map field_for pattern))
line-BeginsWell [] some = absurd (omega arith)
line-BeginsWell (wanted ∷ pattern) some =
    subst BeginsWell (sym (append_assoc (field_text default_writer (field_for wanted)) _ _))
    (field_for-BeginsWell wanted _)

abbrev head_of : List ℕ → ℕ
head_of [] = 0
head_of (byte ∷ text) = byte

-- so it is one record
records_of-Writes : (pattern : Wanted) (word : List ℕ) → 1 ≤ length pattern → Writes word pattern
    → BeginsWell (line (map field_for pattern)) → records_of word ≡ map field_for pattern ∷ []
records_of-Writes pattern [] some written begins =
    let same : 10 ∷ [] ≡ begins.first ∷ begins.rest = sym written ∙ begins.text_is in
    absurd (begins.no_end (sym (ap head_of same)))
records_of-Writes pattern (byte ∷ word) some written begins =
    let same : byte ∷ (word ++ 10 ∷ []) ≡ begins.first ∷ begins.rest = sym written ∙ begins.text_is in
    let unended : IsUnended (map field_for pattern) (byte ∷ word) =
    record { some_field = omega (arith, some, length-map pattern field_for); written = written } in
    records_of-other byte word (λ mark. begins.no_mark (sym (ap head_of same) ∙ mark))
    ∙ records-IsUnended [] [] [] (map field_for pattern) (byte ∷ word) tt tt unended

pub pattern_of-Writes : (s : Layout) (pattern : Wanted) (word : List ℕ) → 1 ≤ length pattern
    → length pattern ≡ number_of_dimensions s → AllByRecursion CanBeWritten pattern → Writes word pattern
    → pattern_of s word ≡ Ok pattern
pattern_of-Writes s pattern word some wide all written =
    let fields : List (List ℕ) = map field_for pattern in
    ap (λ (rs : List (List (List ℕ))). option_map_or (spelled_under s) (only_one rs) (Err Fields))
    (records_of-Writes pattern word some written (line-BeginsWell pattern some))
    ∙ ap (λ (b : Bool). if b then spelled_by fields else Err Fields)
    (eq-eqb (length fields) (number_of_dimensions s) (length-map pattern field_for ∙ wide))
    ∙ spelled_by-field_for pattern all

-- ---- rolling up
all-there : (coords : List Coord) (dimension : ℕ) → dimension < length coords
    → option_map_or is_all_coord (slice_get (slice_set coords dimension coord.All) dimension) false ≡ true
all-there [] dimension below = absurd (omega arith)
all-there (c ∷ coords) zero below = refl
all-there (c ∷ coords) (suc dimension) below = all-there coords dimension (omega (arith, below))

pub rolled_up-there : (key : Key) (dimension : ℕ) → dimension < length key.coords
    → is_all_at (rolled_up dimension key) dimension ≡ true
rolled_up-there key dimension below = all-there key.coords dimension below

same-elsewhere : (coords : List Coord) (dimension other : ℕ) → other ≢ dimension
    → slice_get (slice_set coords dimension coord.All) other ≡ slice_get coords other
same-elsewhere [] dimension other apart = refl
same-elsewhere (c ∷ coords) zero zero apart = absurd (apart refl)
same-elsewhere (c ∷ coords) zero (suc other) apart = refl
same-elsewhere (c ∷ coords) (suc dimension) zero apart = refl
same-elsewhere (c ∷ coords) (suc dimension) (suc other) apart =
    same-elsewhere coords dimension other (λ same. apart (ap suc same))

pub rolled_up-elsewhere : (key : Key) (dimension other : ℕ) → other ≢ dimension
    → slice_get (rolled_up dimension key).coords other ≡ slice_get key.coords other
rolled_up-elsewhere key dimension other apart = same-elsewhere key.coords dimension other apart

-- a key drills down from what it rolls up to
pub drills_down-rolled_up : (above below : Key) (dimension : ℕ)
    → (drills_down dimension above below ≡ true)
    ↔ ((is_all_at below dimension ≡ false) × (rolled_up dimension below ≡ above))
drills_down-rolled_up above below dimension = (
  λ drills.
      let parts = and_parts (not (is_all_at below dimension))
      (eq_by_cmp key_cmp (rolled_up dimension below) above) drills in
      (not-true (is_all_at below dimension) parts.0, (key_cmp-Decides (rolled_up dimension below) above).0 parts.1),
  λ told.
      and_from (not (is_all_at below dimension)) (eq_by_cmp key_cmp (rolled_up dimension below) above)
      (ap not told.0) ((key_cmp-Decides (rolled_up dimension below) above).1 told.1),
)

-- what rolls up from a cell is a cell, where its set is kept
rolled-covers : (coords : List Coord) (values : List (Option (List ℕ))) (dimension : ℕ)
    → all_stand_for coords values ≡ true → all_stand_for (slice_set coords dimension coord.All) values ≡ true
rolled-covers [] values dimension stand = stand
rolled-covers (c ∷ coords) [] zero stand = cc
rolled-covers (c ∷ coords) [] (suc dimension) stand = cc
rolled-covers (c ∷ coords) (value ∷ values) zero stand =
    (and_parts (stands_for c value) (all_stand_for coords values) stand).1
rolled-covers (c ∷ coords) (value ∷ values) (suc dimension) stand =
    let parts = and_parts (stands_for c value) (all_stand_for coords values) stand in
    and_from (stands_for c value) (all_stand_for (slice_set coords dimension coord.All) values) parts.0
    (rolled-covers coords values dimension parts.1)

rolled-total : (coords : List Coord) (dimension : ℕ) → list_all is_all_coord coords ≡ true
    → slice_set coords dimension coord.All ≡ coords
rolled-total [] dimension all = refl
rolled-total (coord.All ∷ coords) zero all = refl
rolled-total (coord.All ∷ coords) (suc dimension) all = ap (λ rest. coord.All ∷ rest) (rolled-total coords dimension all)
rolled-total (coord.Null ∷ coords) dimension all = cc
rolled-total (coord.Text name ∷ coords) dimension all = cc

rolled-cell : (s : Layout) (facts : List Fact) (key : Key) (dimension : ℕ)
    → is_total (number_of_dimensions s) key || list_any (covers key) facts ≡ true
    → is_total (number_of_dimensions s) (rolled_up dimension key) || list_any (covers (rolled_up dimension key)) facts ≡ true
rolled-cell s facts key dimension cell =
    let width = number_of_dimensions s in
    elim (or_cases (is_total width key) (list_any (covers key) facts) cell) [
      | inl total ↦
          let parts = and_parts (length key.coords == width) (list_all is_all_coord key.coords) total in
          let same : rolled_up dimension key ≡ key
          = Key-coords (rolled_up dimension key) key (rolled-total key.coords dimension parts.1) in
          subst (λ (k : Key). is_total width k || list_any (covers k) facts ≡ true) (sym same) cell
      | inr some ↦
          let found = list_any-Contains (covers key) facts some in
          or_right (is_total width (rolled_up dimension key)) (list_any (covers (rolled_up dimension key)) facts)
          (Contains-list_any (covers (rolled_up dimension key)) facts found.0 found.1
          (rolled-covers key.coords found.0.dims dimension found.2))
    ]

pub rolled_up-row : (s : Layout) (facts : List Fact) (rows : List Row) (row : Row) (dimension : ℕ) → AreCountedRows s facts rows
    → Contains rows row → keeps s (rolled_up dimension row.key) ≡ true
    → (above : Row) × Contains rows above × (above.key ≡ rolled_up dimension row.key)
rolled_up-row s facts rows row dimension are among kept =
    let key = row.key in
    let cell = and_parts (keeps s key) (is_total (number_of_dimensions s) key || list_any (covers key) facts)
    ((are.cells key).0 (map-Contains key_of rows row among)) in
    let rolled = (are.cells (rolled_up dimension key)).1
    (and_from (keeps s (rolled_up dimension key))
    (is_total (number_of_dimensions s) (rolled_up dimension key) || list_any (covers (rolled_up dimension key)) facts)
    kept (rolled-cell s facts key dimension cell.1)) in
    let found = Contains-map key_of rows (rolled_up dimension key) rolled in
    (found.0, found.1, found.2)
