-- A written feed, read back; and how much a feed gives.
use Rattle.std.specs.Prelude.{◌≡◌, ◌≢◌, ◌↔◌, ◌==◌, ◌&&◌, ◌||◌, ◌+◌, ◌%◌, ◌≤◌, ◌<◌, nat_lt, ℕ, zero, suc, ℤ, Bool}
use Rattle.std.specs.Prelude.{true, false, not, List, [], ◌∷◌, ◌++◌, length, map, take, drop, codes, Option, Some, None, is_some}
use Rattle.std.specs.Prelude.{option_map, Result, Ok, Err, IfOk, if◌then◌else◌}
use Rattle.std.specs.Fmt.{signed_decimal}
use Rattle.std.specs.List.{AllByRecursion, flat_map, list_all, list_any, filter_map, cons_option}
use Rattle.std.specs.Str.{IsAscii, bytes_eq, is_utf8}
use Rattle.std.proofs.Common.{refl, sym, ap, ap₂, ◌∙◌, subst, inl, inr, arith}
use Rattle.std.proofs.Math.Seq.{take-append_seam, drop-append_seam}
use Rattle.std.proofs.lemmas.Bool.{cases_Bool, and_from, and_parts, eq-eqb, eqb-true, lt-ltb, ltb-true, false≢true}
use Rattle.std.proofs.lemmas.Bool.{not-true, or_cases, or_right}
use Rattle.std.proofs.lemmas.List.{length-map, length-append, drop-drop}
use Rattle.std.proofs.lemmas.List.Folds.{list_all-append, list_any-append}
use Rattle.std.proofs.lemmas.Str.{IsUtf8-from_ascii, is_utf8-from_IsUtf8}
use Rattle.std.specs.Option.{option_map_or}
use Rattle.csv.specs.Reading.{records, strip_bom}
use Rattle.csv.specs.declared.parser.State.TheVariants as st
use Rattle.cube_core.specs.Items.{width_of}
use Rattle.cube_core.specs.FeedRecords.{FeedEnd, Good, WrongHeader, TooManyRecords, WithinQuotes, RecordTooLong, IsGoodFeed}
use Rattle.cube_core.specs.FeedRecords.{RestOfFeed, TextEnd, Whole, InQuotes, InLongRecord, all_records, end_in_record}
use Rattle.cube_core.specs.FeedRecords.{ends_as, ends_in_quotes, feed_end, feed_of, has_long_record, is_within_quotes}
use Rattle.cube_core.specs.FeedRecords.{item_then, state_after, text_end, text_read, whole_records}
use Rattle.cube_core.specs.Items.{field_at, is_keep, is_measure, dimension_of, measure_of, number_of}
use Rattle.cube_core.specs.Items.{dimension_field_of, measure_field_of, dimension_fields, measure_fields, fact_of}
use Rattle.cube_core.specs.Items.{amendment_of, unless_at_fault, insert_of, update_of, change_of, is_header}
use Rattle.cube_core.specs.FeedRecords.{config_by, feed_records, found_columns, is_read, names_read, places_by}
use Rattle.cube_core.specs.FeedRecords.{plain_of, stands_once}
use Rattle.cube_core.specs.Items.{upsert_of, remove_of, are_names, arranged}
use Rattle.cube_core.specs.Items.{same_fields, keep_text, column_names, byte_order_mark}
use Rattle.cube_core.specs.FeedRecords.{items_after, items_of}
use Rattle.cube_core.specs.Layout.{Layout, number_of_dimensions}
use Rattle.cube_core.specs.TextPlaces.{at_places, beside_places, with_places_first}
use Rattle.cube_core.proofs.TextPlaceLaws.{parted-length}
use Rattle.std.proofs.lemmas.List.{take-append-drop}
use Rattle.cube_core.specs.Plain.{delimiter_of, plain_in_order}
use Rattle.cube_core.specs.Records.{records_of}
use Rattle.cube_core.specs.Shard.{whole_feed, is_in_shard, fnv_hash}
use Rattle.cube_core.specs.Takes.{takes, may_amend, null_text, is_id, fits, fits_part, is_dimension_value}
use Rattle.cube_core.specs.Takes.{may_upsert, puts_dimension_value}
use Rattle.cube_core.specs.Text.{line}
use Rattle.cube_core.specs.declared.change.Change.{Change}
use Rattle.cube_core.specs.declared.change.Change.TheVariants.{Insert, Update, Amend, Upsert, Delete, Remove}
use Rattle.cube_core.specs.declared.change.Item.{Item}
use Rattle.cube_core.specs.declared.change.LineFault.{LineFault}
use Rattle.cube_core.specs.declared.change.LineFault.TheVariants as fault
use Rattle.cube_core.specs.declared.fact.Fact.{Fact}
use Rattle.cube_core.specs.declared.feed_columns.FeedColumns.{FeedColumns}
use Rattle.cube_core.specs.declared.feed_columns.FoundColumns.{FoundColumns}
use Rattle.cube_core.specs.declared.feed_columns.FoundColumns.TheVariants.{InOrder, ByName}
use Rattle.cube_core.specs.declared.partial.Field.{Field}
use Rattle.cube_core.specs.declared.partial.Field.TheVariants.{Keep, Put}
use Rattle.cube_core.specs.declared.partial.Partial.{Partial}
use Rattle.cube_core.proofs.ItemLaws.{takes-change_of}
use Rattle.cube_core.proofs.PlainLaws.{arranged-none, map-same, plain_in_order-same}
use Rattle.cube_core.proofs.LifeLaws.{bytes_eq-itself, bytes_eq-other}
use Rattle.cube_laws.specs.Feeds.{CanBeSpelled, HasField, HasNumber, Puts, dimension_text, header_for, is_kept}
use Rattle.cube_laws.specs.Feeds.{measure_text, numbered, put_text, record_for, record_with}
use Rattle.cube_laws.proofs.BoundLaws.{text_within-whole}
use Rattle.cube_laws.proofs.NumberLaws.{number_of-signed_decimal, is_utf8-signed_decimal, signed_decimal-no_backslash}
use Rattle.cube_laws.proofs.RecordLaws.{records_of-other}
use Rattle.cube_laws.proofs.TextLaws.{records-line}

-- ---- one field
and-false : (b : Bool) → (b && false) ≡ false
and-false true = refl
and-false false = refl

-- a text that isn't the one that keeps puts its value
is_keep-other : (s : Layout) (text : List ℕ) → (s.version ≡ 2 → text ≢ codes "\\=") → is_keep s text ≡ false
is_keep-other s text other = by (may_amend s) refl
  where
    by : (b : Bool) → may_amend s ≡ b → is_keep s text ≡ false
    by false never = ap (λ c. c && bytes_eq text keep_text) never
    by true may =
        ap (λ c. may_amend s && c)
        (bytes_eq-other text keep_text (λ same. other (eqb-true s.version 2 may) (sym same)))
        ∙ and-false (may_amend s)

-- a value that a dimension may have is written as a field that spells it
dimension_of-text : (value : Option (List ℕ)) → is_dimension_value value ≡ true
    → dimension_of (dimension_text value) ≡ value
dimension_of-text None lawful = refl
dimension_of-text (Some text) lawful =
    ap (λ (b : Bool). if b then None else Some text) (not-true (bytes_eq text null_text) lawful)

is_keep-dimension : (s : Layout) (value : Option (List ℕ)) → HasField s value → is_keep s (dimension_text value) ≡ false
is_keep-dimension s None has = and-false (may_amend s)
is_keep-dimension s (Some text) has = is_keep-other s text has.1

-- what stands for null and what keeps are text
backslash-IsAscii : (byte : ℕ) → byte < 128 → IsAscii (92 ∷ byte ∷ [])
backslash-IsAscii byte below zero = omega arith
backslash-IsAscii byte below (suc zero) = below
backslash-IsAscii byte below (suc (suc i)) = omega arith

is_utf8-backslash : (byte : ℕ) → byte < 128 → is_utf8 (92 ∷ byte ∷ []) ≡ true
is_utf8-backslash byte below = is_utf8-from_IsUtf8 _ (IsUtf8-from_ascii _ (backslash-IsAscii byte below))

is_utf8-null : is_utf8 (codes "\\N") ≡ true
is_utf8-null = is_utf8-backslash 78 (omega arith)

is_utf8-keep : is_utf8 (codes "\\=") ≡ true
is_utf8-keep = is_utf8-backslash 61 (omega arith)

is_utf8-dimension : (s : Layout) (value : Option (List ℕ)) → HasField s value → is_utf8 (dimension_text value) ≡ true
is_utf8-dimension s None has = is_utf8-null
is_utf8-dimension s (Some text) has = has.0

-- and so is one of a measure
is_keep-measure : (s : Layout) (value : Option ℤ) → HasNumber value → is_keep s (measure_text value) ≡ false
is_keep-measure s None has = and-false (may_amend s)
is_keep-measure s (Some value) has =
    ap (λ c. may_amend s && c) (signed_decimal-no_backslash value (61 ∷ []) has) ∙ and-false (may_amend s)

measure_of-text : (value : Option ℤ) → HasNumber value → measure_of (measure_text value) ≡ Some value
measure_of-text None has = refl
measure_of-text (Some value) has =
    ap (λ (b : Bool). if b then Some None else option_map Some (number_of (signed_decimal value)))
    (signed_decimal-no_backslash value (78 ∷ []) has)
    ∙ ap (option_map Some) (number_of-signed_decimal value has)

is_utf8-measure : (value : Option ℤ) → HasNumber value → is_utf8 (measure_text value) ≡ true
is_utf8-measure None has = is_utf8-null
is_utf8-measure (Some value) has = is_utf8-signed_decimal value has

-- a field of an amendment too; only feeds of version 2 have a field that keeps
dimension_field_of-text : (s : Layout) (field : Field (Option (List ℕ))) → may_amend s ≡ true
    → puts_dimension_value field ≡ true → Puts (HasField s) field
    → dimension_field_of s (put_text dimension_text field) ≡ field
dimension_field_of-text s Keep may lawful has =
    ap (λ (b : Bool). if b && true then Keep else Put (dimension_of (codes "\\="))) may
dimension_field_of-text s (Put value) may lawful has =
    ap (λ (b : Bool). if b then Keep else Put (dimension_of (dimension_text value))) (is_keep-dimension s value has)
    ∙ ap Put (dimension_of-text value lawful)

measure_field_of-text : (s : Layout) (field : Field (Option ℤ)) → may_amend s ≡ true → Puts HasNumber field
    → measure_field_of s (put_text measure_text field) ≡ Some field
measure_field_of-text s Keep may has =
    ap (λ (b : Bool). if b && true then Some Keep else option_map Put (measure_of (codes "\\="))) may
measure_field_of-text s (Put value) may has =
    ap (λ (b : Bool). if b then Some Keep else option_map Put (measure_of (measure_text value)))
    (is_keep-measure s value has)
    ∙ ap (option_map Put) (measure_of-text value has)

-- a value's field, where none keeps
measure_field_of-value : (s : Layout) (value : Option ℤ) → HasNumber value
    → measure_field_of s (measure_text value) ≡ Some (Put value)
measure_field_of-value s value has =
    ap (λ (b : Bool). if b then Some Keep else option_map Put (measure_of (measure_text value)))
    (is_keep-measure s value has)
    ∙ ap (option_map Put) (measure_of-text value has)

-- ---- lists of fields
list_all-each : {X Y : Type 0} (f : X → Y) (p : Y → Bool) (P : X → Type 0) → ((x : X) → P x → p (f x) ≡ true)
    → (xs : List X) → AllByRecursion P xs → list_all p (map f xs) ≡ true
list_all-each f p P each [] all = refl
list_all-each f p P each (x ∷ xs) all =
    and_from (p (f x)) (list_all p (map f xs)) (each x all.0) (list_all-each f p P each xs all.1)

list_any-none : {X Y : Type 0} (f : X → Y) (p : Y → Bool) (P : X → Type 0) → ((x : X) → P x → p (f x) ≡ false)
    → (xs : List X) → AllByRecursion P xs → list_any p (map f xs) ≡ false
list_any-none f p P each [] all = refl
list_any-none f p P each (x ∷ xs) all =
    ap (λ b. b || list_any p (map f xs)) (each x all.0) ∙ list_any-none f p P each xs all.1

map-back : {X Y : Type 0} (f : X → Y) (g : Y → X) (P : X → Type 0) (p : X → Bool)
    → ((x : X) → P x → p x ≡ true → g (f x) ≡ x)
    → (xs : List X) → AllByRecursion P xs → list_all p xs ≡ true → map g (map f xs) ≡ xs
map-back f g P p each [] all passes = refl
map-back f g P p each (x ∷ xs) all passes =
    let parts = and_parts (p x) (list_all p xs) passes in
    ap₂ (λ y ys. y ∷ ys) (each x all.0 parts.0) (map-back f g P p each xs all.1 parts.1)

filter_map-back : {X Y : Type 0} (f : X → Y) (g : Y → Option X) (P : X → Type 0)
    → ((x : X) → P x → g (f x) ≡ Some x)
    → (xs : List X) → AllByRecursion P xs → filter_map g (map f xs) ≡ xs
filter_map-back f g P each [] all = refl
filter_map-back f g P each (x ∷ xs) all =
    λ i. cons_option (each x all.0 i) (filter_map-back f g P each xs all.1 i)

-- ---- one record
-- the fields of the dimensions and of the measures of a record
dimension_fields-with : (s : Layout) (operation id : List ℕ) (dimensions measures : List (List ℕ))
    → length dimensions ≡ length s.dimensions
    → dimension_fields s (record_with operation id dimensions measures) ≡ dimensions
dimension_fields-with s operation id dimensions measures wide =
    ap (λ n. take n (dimensions ++ measures)) (sym wide) ∙ take-append_seam dimensions measures

measure_fields-with : (s : Layout) (operation id : List ℕ) (dimensions measures : List (List ℕ))
    → length dimensions ≡ length s.dimensions
    → measure_fields s (record_with operation id dimensions measures) ≡ measures
measure_fields-with s operation id dimensions measures wide =
    sym (drop-drop (length s.dimensions) 2 (record_with operation id dimensions measures))
    ∙ ap (λ n. drop n (dimensions ++ measures)) (sym wide) ∙ drop-append_seam dimensions measures

-- a record whose fields are lawful has no fault
unless_at_fault-none : (s : Layout) (operation id : List ℕ) (dimensions measures : List (List ℕ))
    (change : Result Change LineFault)
    → length dimensions ≡ length s.dimensions → length measures ≡ length s.measures → is_id id ≡ true
    → is_utf8 id ≡ true → list_all is_utf8 dimensions ≡ true → list_all is_utf8 measures ≡ true
    → list_all (is_measure s) measures ≡ true
    → unless_at_fault change s (record_with operation id dimensions measures) ≡ change
unless_at_fault-none s operation id dimensions measures change wide deep named text texts numbers lawful =
    let fields : List (List ℕ) = record_with operation id dimensions measures in
    let last : Result Change LineFault =
    if not (list_all (is_measure s) (measure_fields s fields)) then Err fault.Measure else change in
    let third : Result Change LineFault = if length (field_at fields 1) == 0 then Err fault.Id else last in
    let second : Result Change LineFault =
    if not (list_all is_utf8 (drop 1 fields)) then Err fault.Text else third in
    ap (λ (b : Bool). if not b then Err fault.Fields else second)
    (eq-eqb (length fields) (width_of s) (omega (arith, wide, deep, length-append dimensions measures)))
    ∙ ap (λ (b : Bool). if not b then Err fault.Text else third)
    (and_from (is_utf8 id) (list_all is_utf8 (dimensions ++ measures)) text
    (list_all-append is_utf8 dimensions measures
    ∙ and_from (list_all is_utf8 dimensions) (list_all is_utf8 measures) texts numbers))
    ∙ ap (λ (b : Bool). if b then Err fault.Id else last) (not-true (length id == 0) named)
    ∙ ap (λ (b : Bool). if not b then Err fault.Measure else change)
    (ap (list_all (is_measure s)) (measure_fields-with s operation id dimensions measures wide) ∙ lawful)

-- a fact's record
record AreFactFields (s : Layout) (id : List ℕ) (fact : Fact) : Type 0 where
  wide : length (map dimension_text fact.dims) ≡ length s.dimensions
  deep : length (map measure_text fact.measures) ≡ length s.measures
  texts : list_all is_utf8 (map dimension_text fact.dims) ≡ true
  numbers : list_all is_utf8 (map measure_text fact.measures) ≡ true
  lawful : list_all (is_measure s) (map measure_text fact.measures) ≡ true
  keeps_none : list_any (is_keep s) (map dimension_text fact.dims ++ map measure_text fact.measures) ≡ false
  spelled : (operation : List ℕ)
      → fact_of s (record_with operation id (map dimension_text fact.dims) (map measure_text fact.measures)) ≡ fact

AreFactFields-fits : (s : Layout) (id : List ℕ) (fact : Fact) → fits s fact ≡ true
    → AllByRecursion (HasField s) fact.dims → AllByRecursion HasNumber fact.measures → AreFactFields s id fact
AreFactFields-fits s id fact fit dims measures =
    let parts = and_parts ((length fact.dims == length s.dimensions) && (length fact.measures == length s.measures))
    (list_all is_dimension_value fact.dims) fit in
    let sizes =
    and_parts (length fact.dims == length s.dimensions) (length fact.measures == length s.measures) parts.0 in
    let wide : length (map dimension_text fact.dims) ≡ length s.dimensions =
    length-map fact.dims dimension_text ∙ eqb-true (length fact.dims) (length s.dimensions) sizes.0 in
    record {
      wide = wide;
      deep = length-map fact.measures measure_text ∙ eqb-true (length fact.measures) (length s.measures) sizes.1;
      texts = list_all-each dimension_text is_utf8 (HasField s) (is_utf8-dimension s) fact.dims dims;
      numbers = list_all-each measure_text is_utf8 HasNumber is_utf8-measure fact.measures measures;
      lawful = list_all-each measure_text (is_measure s) HasNumber
          (λ value has. ap is_some (measure_field_of-value s value has)) fact.measures measures;
      keeps_none = list_any-append (is_keep s) (map dimension_text fact.dims) (map measure_text fact.measures)
          ∙ ap₂ (λ a b. a || b)
          (list_any-none dimension_text (is_keep s) (HasField s) (is_keep-dimension s) fact.dims dims)
          (list_any-none measure_text (is_keep s) HasNumber (is_keep-measure s) fact.measures measures);
      spelled = λ operation. ap₂ (λ values numbers.
          let found : Fact = record { dims = values; measures = numbers } in found)
          (ap (map dimension_of) (dimension_fields-with s operation id (map dimension_text fact.dims)
          (map measure_text fact.measures) wide)
          ∙ map-back dimension_text dimension_of (HasField s) is_dimension_value
          (λ value has lawful. dimension_of-text value lawful) fact.dims dims parts.1)
          (ap (filter_map measure_of) (measure_fields-with s operation id (map dimension_text fact.dims)
          (map measure_text fact.measures) wide)
          ∙ filter_map-back measure_text measure_of HasNumber measure_of-text fact.measures measures);
    }

change_of-Insert : (s : Layout) (id : List ℕ) (fact : Fact) → CanBeSpelled s (Insert id fact)
    → change_of s (record_for (Insert id fact)) ≡ Ok (Insert id fact)
change_of-Insert s id fact can =
    let taken = and_parts (is_id id) (fits s fact) can.taken in
    let has = AreFactFields-fits s id fact taken.1 can.has_record.1 can.has_record.2 in
    let fields : List (List ℕ) = record_for (Insert id fact) in
    unless_at_fault-none s (codes "I") id (map dimension_text fact.dims) (map measure_text fact.measures)
    (insert_of s fields) has.wide has.deep taken.0 can.has_record.0 has.texts has.numbers has.lawful
    ∙ ap (λ (b : Bool). if b then Err fault.Keep else Ok (Insert id (fact_of s fields))) has.keeps_none
    ∙ ap (λ (f : Fact). Ok (Insert id f)) (has.spelled (codes "I"))

change_of-Update : (s : Layout) (id : List ℕ) (fact : Fact) → CanBeSpelled s (Update id fact)
    → change_of s (record_for (Update id fact)) ≡ Ok (Update id fact)
change_of-Update s id fact can =
    let taken = and_parts (is_id id) (fits s fact) can.taken in
    let has = AreFactFields-fits s id fact taken.1 can.has_record.1 can.has_record.2 in
    let fields : List (List ℕ) = record_for (Update id fact) in
    unless_at_fault-none s (codes "U") id (map dimension_text fact.dims) (map measure_text fact.measures)
    (update_of s fields) has.wide has.deep taken.0 can.has_record.0 has.texts has.numbers has.lawful
    ∙ ap (λ (b : Bool). if b then Ok (Amend id (amendment_of s fields)) else Ok (Update id (fact_of s fields)))
    has.keeps_none
    ∙ ap (λ (f : Fact). Ok (Update id f)) (has.spelled (codes "U"))

-- an upsert's record
change_of-Upsert : (s : Layout) (id : List ℕ) (fact : Fact) → CanBeSpelled s (Upsert id fact)
    → change_of s (record_for (Upsert id fact)) ≡ Ok (Upsert id fact)
change_of-Upsert s id fact can =
    let both = and_parts (may_upsert s && is_id id) (fits s fact) can.taken in
    let first = and_parts (may_upsert s) (is_id id) both.0 in
    let has = AreFactFields-fits s id fact both.1 can.has_record.1 can.has_record.2 in
    let fields : List (List ℕ) = record_for (Upsert id fact) in
    ap (λ (b : Bool). if b && true then unless_at_fault (upsert_of s fields) s fields
    else if b && false then remove_of s fields else Err fault.Op) first.0
    ∙ unless_at_fault-none s (codes "P") id (map dimension_text fact.dims) (map measure_text fact.measures)
    (upsert_of s fields) has.wide has.deep first.1 can.has_record.0 has.texts has.numbers has.lawful
    ∙ ap (λ (b : Bool). if b then Err fault.Keep else Ok (Upsert id (fact_of s fields))) has.keeps_none
    ∙ ap (λ (f : Fact). Ok (Upsert id f)) (has.spelled (codes "P"))

-- a record of an id alone has no fault where the id has none
lone_id-none : (id : List ℕ) (change : Change) → is_utf8 id ≡ true → is_id id ≡ true
    → (if not (is_utf8 id) then Err fault.Text else if length id == 0 then Err fault.Id else Ok change) ≡ Ok change
lone_id-none id change text named =
    let after : Result Change LineFault = if length id == 0 then Err fault.Id else Ok change in
    ap (λ (b : Bool). if not b then Err fault.Text else after) text
    ∙ ap (λ (b : Bool). if b then Err fault.Id else Ok change) (not-true (length id == 0) named)

-- a delete's record
change_of-Delete : (s : Layout) (id : List ℕ) → CanBeSpelled s (Delete id)
    → change_of s (record_for (Delete id)) ≡ Ok (Delete id)
change_of-Delete s id can =
    lone_id-none id (Delete id) can.has_record can.taken

-- a removal's record
change_of-Remove : (s : Layout) (id : List ℕ) → CanBeSpelled s (Remove id)
    → change_of s (record_for (Remove id)) ≡ Ok (Remove id)
change_of-Remove s id can =
    let both = and_parts (may_upsert s) (is_id id) can.taken in
    let fields : List (List ℕ) = record_for (Remove id) in
    ap (λ (b : Bool). if b && false then unless_at_fault (upsert_of s fields) s fields
    else if b && true then remove_of s fields else Err fault.Op) both.0
    ∙ lone_id-none id (Remove id) can.has_record both.1

-- an amendment's record: a field that is kept is one that keeps
keeps-kept : {A : Type 0} (s : Layout) (text : A → List ℕ) (fields : List (Field A)) → may_amend s ≡ true
    → list_any is_kept fields ≡ true → list_any (is_keep s) (map (put_text text) fields) ≡ true
keeps-kept s text [] may some = some
keeps-kept s text (Keep ∷ fields) may some =
    ap (λ (b : Bool). (b && true) || list_any (is_keep s) (map (put_text text) fields)) may
keeps-kept s text (Put value ∷ fields) may some = or_right _ _ (keeps-kept s text fields may some)

change_of-Amend : (s : Layout) (id : List ℕ) (part : Partial) → CanBeSpelled s (Amend id part)
    → change_of s (record_for (Amend id part)) ≡ Ok (Amend id part)
change_of-Amend s id part can =
    let both = and_parts (may_amend s && is_id id) (fits_part s part) can.taken in
    let first = and_parts (may_amend s) (is_id id) both.0 in
    let may = first.0 in
    let parts = and_parts ((length part.dims == length s.dimensions) && (length part.measures == length s.measures))
    (list_all puts_dimension_value part.dims) both.1 in
    let sizes =
    and_parts (length part.dims == length s.dimensions) (length part.measures == length s.measures) parts.0 in
    let dimensions : List (List ℕ) = map (put_text dimension_text) part.dims in
    let measures : List (List ℕ) = map (put_text measure_text) part.measures in
    let fields : List (List ℕ) = record_with (codes "U") id dimensions measures in
    let wide : length dimensions ≡ length s.dimensions =
    length-map part.dims (put_text dimension_text) ∙ eqb-true (length part.dims) (length s.dimensions) sizes.0 in
    let deep : length measures ≡ length s.measures =
    length-map part.measures (put_text measure_text)
    ∙ eqb-true (length part.measures) (length s.measures) sizes.1 in
    let keeps : list_any (is_keep s) (dimensions ++ measures) ≡ true =
    list_any-append (is_keep s) dimensions measures
    ∙ elim (or_cases (list_any is_kept part.dims) (list_any is_kept part.measures) can.has_record.3) [
      | inl some ↦ ap (λ b. b || list_any (is_keep s) measures) (keeps-kept s dimension_text part.dims may some)
      | inr some ↦ or_right (list_any (is_keep s) dimensions) (list_any (is_keep s) measures)
          (keeps-kept s measure_text part.measures may some)
    ] in
    unless_at_fault-none s (codes "U") id dimensions measures (update_of s fields) wide deep first.1 can.has_record.0
    (list_all-each (put_text dimension_text) is_utf8 (Puts (HasField s)) put-dimension part.dims can.has_record.1)
    (list_all-each (put_text measure_text) is_utf8 (Puts HasNumber) put-measure part.measures can.has_record.2)
    (list_all-each (put_text measure_text) (is_measure s) (Puts HasNumber)
    (λ field has. ap is_some (measure_field_of-text s field may has)) part.measures can.has_record.2)
    ∙ ap (λ (b : Bool). if b then Ok (Amend id (amendment_of s fields)) else Ok (Update id (fact_of s fields))) keeps
    ∙ ap₂ (λ values numbers. let found : Partial = record { dims = values; measures = numbers } in Ok (Amend id found))
    (ap (map (dimension_field_of s)) (dimension_fields-with s (codes "U") id dimensions measures wide)
    ∙ map-back (put_text dimension_text) (dimension_field_of s) (Puts (HasField s)) puts_dimension_value
    (λ field has lawful. dimension_field_of-text s field may lawful has) part.dims can.has_record.1 parts.1)
    (ap (filter_map (measure_field_of s)) (measure_fields-with s (codes "U") id dimensions measures wide)
    ∙ filter_map-back (put_text measure_text) (measure_field_of s) (Puts HasNumber)
    (λ field has. measure_field_of-text s field may has) part.measures can.has_record.2)
  where
    put-dimension : (field : Field (Option (List ℕ))) → Puts (HasField s) field
        → is_utf8 (put_text dimension_text field) ≡ true
    put-dimension Keep has = is_utf8-keep
    put-dimension (Put value) has = is_utf8-dimension s value has

    put-measure : (field : Field (Option ℤ)) → Puts HasNumber field → is_utf8 (put_text measure_text field) ≡ true
    put-measure Keep has = is_utf8-keep
    put-measure (Put value) has = is_utf8-measure value has

pub change_of-record_for : (s : Layout) (change : Change) → CanBeSpelled s change
    → change_of s (record_for change) ≡ Ok change
change_of-record_for s (Insert id fact) can = change_of-Insert s id fact can
change_of-record_for s (Update id fact) can = change_of-Update s id fact can
change_of-record_for s (Amend id part) can = change_of-Amend s id part can
change_of-record_for s (Upsert id fact) can = change_of-Upsert s id fact can
change_of-record_for s (Delete id) can = change_of-Delete s id can
change_of-record_for s (Remove id) can = change_of-Remove s id can

-- ---- a whole feed
whole-is_read : (s : Layout) (fields : List (List ℕ)) → s.shard ≡ whole_feed → is_read s fields ≡ true
whole-is_read s fields whole =
    ap (λ shard. is_in_shard shard (field_at fields 1)) whole
    ∙ eq-eqb (fnv_hash (field_at fields 1) % 1) 0 (omega arith)

no_more : RestOfFeed FeedEnd
no_more = record { items = []; end = TooManyRecords }

items_after-spelled : (s : Layout) (records : List (List (List ℕ))) (changes : List Change) (number : ℕ)
    → s.columns ≡ None → s.decimals ≡ [] → s.shard ≡ whole_feed
    → map (arranged s) records ≡ map record_for changes
    → number + length changes ≤ s.max_records → AllByRecursion (CanBeSpelled s) changes
    → items_after s InOrder number records ≡ record { items = numbered (number + 1) changes; end = Good }
unfolding no_more
items_after-spelled s [] [] number none no_point whole spelled few all = refl
items_after-spelled s [] (change ∷ changes) number none no_point whole spelled few all = cc spelled
items_after-spelled s (fields ∷ records) [] number none no_point whole spelled few all = cc spelled
items_after-spelled s (fields ∷ records) (change ∷ changes) number none no_point whole spelled few all =
    let here : arranged s fields ≡ record_for change = cc spelled in
    let others : map (arranged s) records ≡ map record_for changes = cc spelled in
    let plain : List (List ℕ) = plain_in_order s fields in
    let item : Item = record { number = number + 1; what = change_of s plain } in
    let rest : RestOfFeed FeedEnd = items_after s InOrder (number + 1) records in
    ap (λ (b : Bool). if b then (if is_read s plain then item_then item rest else rest) else no_more)
    (lt-ltb number s.max_records (omega (arith, few)))
    ∙ ap (λ (b : Bool). if b then item_then item rest else rest) (whole-is_read s plain whole)
    ∙ ap₂ (λ (what : Result Change LineFault) (more : RestOfFeed FeedEnd).
    item_then (record { number = number + 1; what = what }) more)
    (ap (change_of s) (plain_in_order-same s fields none no_point ∙ here) ∙ change_of-record_for s change all.0)
    (items_after-spelled s records changes (number + 1) none no_point whole others (omega (arith, few)) all.1)

same_fields-itself : (fields : List (List ℕ)) → same_fields fields fields ≡ true
same_fields-itself [] = refl
same_fields-itself (field ∷ fields) =
    and_from (bytes_eq field field) (same_fields fields fields) (bytes_eq-itself field) (same_fields-itself fields)

pub is_header-arranged : (s : Layout) (header : List (List ℕ)) → arranged s header ≡ header_for s
    → is_header s header ≡ true
is_header-arranged s header heads =
    ap (are_names s) heads
    ∙ ap (λ b. b || same_fields (header_for s) ((byte_order_mark ++ codes "op") ∷ column_names s))
    (same_fields-itself (header_for s))

-- a record has as many fields in the order of a plain record, the first of them in front
arranged-length : (s : Layout) (fields : List (List ℕ)) → length (arranged s fields) ≡ length fields
arranged-length s fields =
    let front = take (2 + number_of_dimensions s) fields in
    let others = drop (2 + number_of_dimensions s) fields in
    omega (
      arith,
      length-append front (with_places_first s.text_places others),
      length-append (at_places s.text_places 0 others) (beside_places s.text_places 0 others),
      parted-length s.text_places 0 others,
      length-append front others,
      ap length (take-append-drop (2 + number_of_dimensions s) fields),
    )

arranged-first : (s : Layout) (field : List ℕ) (fields : List (List ℕ))
    → field_at (arranged s (field ∷ fields)) 0 ≡ field
arranged-first s field fields =
    let next : 2 + number_of_dimensions s ≡ suc (1 + number_of_dimensions s) = omega arith in
    ap (λ n. field_at (take n (field ∷ fields)
    ++ with_places_first s.text_places (drop (2 + number_of_dimensions s) (field ∷ fields))) 0) next

-- each line has a field
some_field : (s : Layout) (records : List (List (List ℕ))) (changes : List Change)
    → map (arranged s) records ≡ map record_for changes → AllByRecursion (λ fields. 1 ≤ length fields) records
some_field s [] changes spelled = tt
some_field s (fields ∷ records) [] spelled = cc spelled
some_field s (fields ∷ records) (change ∷ changes) spelled =
    let here : arranged s fields ≡ record_for change = cc spelled in
    let others : map (arranged s) records ≡ map record_for changes = cc spelled in
    (omega (arith, arranged-length s fields, ap length here, each change), some_field s records changes others)
  where
    each : (c : Change) → 1 ≤ length (record_for c)
    each (Insert id fact) = omega arith
    each (Update id fact) = omega arith
    each (Amend id part) = omega arith
    each (Upsert id fact) = omega arith
    each (Delete id) = omega arith
    each (Remove id) = omega arith

-- the text of the header begins with `o`
records_of-feed : (s : Layout) (header : List (List ℕ)) (lines : List (List (List ℕ)))
    → arranged s header ≡ header_for s → AllByRecursion (λ fields. 1 ≤ length fields) lines
    → records_of (flat_map line (header ∷ lines)) ≡ header ∷ lines
records_of-feed s [] lines heads all = absurd (omega (arith, arranged-length s [], ap length heads))
records_of-feed s (name ∷ []) lines heads all =
    absurd (omega (arith, arranged-length s (name ∷ []), ap length heads))
records_of-feed s (name ∷ second ∷ names) lines heads all =
    let is_op : name ≡ codes "op" =
    sym (arranged-first s name (second ∷ names)) ∙ ap (λ fields. field_at fields 0) heads in
    subst (λ first. records_of (flat_map line ((first ∷ second ∷ names) ∷ lines)) ≡ (first ∷ second ∷ names) ∷ lines)
    (sym is_op)
    (records_of-other 111 _ (λ is. omega arith)
    ∙ records-line ((codes "op" ∷ second ∷ names) ∷ lines) (omega arith, all))

-- without columns by name nobody asks whether a text ends within quotes
ends_in_quotes-in_order : (s : Layout) (bytes : List ℕ) → s.columns ≡ None → ends_in_quotes s bytes ≡ false
ends_in_quotes-in_order s bytes none =
    ap (λ (columns : Option FeedColumns). is_some columns
    && is_within_quotes (state_after (config_by (delimiter_of s)) st.StartRecord (strip_bom bytes))) none

-- of a text in which no record exceeds its bound all is read
text_read-whole : (s : Layout) (bytes : List ℕ) → has_long_record s bytes ≡ false → text_read s bytes ≡ strip_bom bytes
text_read-whole s bytes short = text_within-whole (config_by (delimiter_of s)) s.max_record_bytes bytes short

pub feed_of-in_order : (s : Layout) (bytes : List ℕ) → s.columns ≡ None → has_long_record s bytes ≡ false
    → feed_of s bytes ≡ items_of s (all_records s bytes)
feed_of-in_order s bytes none short =
    ap (λ (end : TextEnd). ends_as s end (length (whole_records end (all_records s bytes)))
    (items_of s (whole_records end (all_records s bytes))))
    (ap₂ (λ (long quoted : Bool). if long then InLongRecord else if quoted then InQuotes else Whole)
    short (ends_in_quotes-in_order s bytes none))

-- a feed whose text ends in a record is at fault
ends_as-cut : (s : Layout) (end : TextEnd) (number : ℕ) (rest : RestOfFeed FeedEnd) → (end ≡ Whole → ⊥)
    → (ends_as s end number rest).end ≡ Good → ⊥
ends_as-cut s end number rest cut good = by end cut rest.end good
  where
    room : (b : Bool) (so : FeedEnd) → (so ≡ Good → ⊥) → (if b then TooManyRecords else so) ≡ Good → ⊥
    room true so other is = cc is
    room false so other is = other is

    at : (so : ℕ → FeedEnd) → (so number ≡ Good → ⊥) → (whole : FeedEnd) → end_in_record s so number whole ≡ Good → ⊥
    at so other Good is = room (nat_lt s.max_records number) (so number) other is
    at so other WrongHeader is = cc is
    at so other TooManyRecords is = cc is
    at so other (WithinQuotes n) is = cc is
    at so other (RecordTooLong n) is = cc is

    by : (e : TextEnd) → (e ≡ Whole → ⊥) → (whole : FeedEnd) → feed_end s e number whole ≡ Good → ⊥
    by Whole none whole is = none refl
    by InQuotes none whole is = at WithinQuotes (λ same. cc same) whole is
    by InLongRecord none whole is = at RecordTooLong (λ same. cc same) whole is

-- a text that ends within quotes is at fault, and so is one with a record that exceeds its bound
pub feed_of-quotes : (s : Layout) (bytes : List ℕ) → ends_in_quotes s bytes ≡ true
    → (feed_of s bytes).end ≡ Good → ⊥
feed_of-quotes s bytes quoted =
    ends_as-cut s (text_end s bytes) (length (feed_records s bytes)) (items_of s (feed_records s bytes))
    (λ whole. by (has_long_record s bytes) (ends_in_quotes s bytes) quoted whole)
  where
    by : (long unclosed : Bool) → unclosed ≡ true
        → (if long then InLongRecord else if unclosed then InQuotes else Whole) ≡ Whole → ⊥
    by true unclosed is whole = cc whole
    by false true is whole = cc whole
    by false false is whole = cc is

pub feed_of-long : (s : Layout) (bytes : List ℕ) → has_long_record s bytes ≡ true
    → (feed_of s bytes).end ≡ Good → ⊥
feed_of-long s bytes long =
    ends_as-cut s (text_end s bytes) (length (feed_records s bytes)) (items_of s (feed_records s bytes))
    (λ whole. by (has_long_record s bytes) (ends_in_quotes s bytes) long whole)
  where
    by : (exceeds unclosed : Bool) → exceeds ≡ true
        → (if exceeds then InLongRecord else if unclosed then InQuotes else Whole) ≡ Whole → ⊥
    by true unclosed is whole = cc whole
    by false unclosed is whole = cc is

-- without columns by name a text is read with commas, and its first record has to be the header
all_records-in_order : (s : Layout) (bytes : List ℕ) → s.columns ≡ None → has_long_record s bytes ≡ false
    → all_records s bytes ≡ records_of bytes
all_records-in_order s bytes none short =
    ap (records (config_by (delimiter_of s))) (text_read-whole s bytes short)
    ∙ ap (λ (columns : Option FeedColumns).
    records (config_by (option_map_or (λ (it : FeedColumns). it.delimiter) columns 44)) (strip_bom bytes)) none

found_columns-in_order : (s : Layout) (header : List (List ℕ)) → s.columns ≡ None
    → found_columns s header ≡ (if is_header s header then Some InOrder else None)
found_columns-in_order s header none = rw none refl

pub items_of-spelled : (s : Layout) (header : List (List ℕ)) (lines : List (List (List ℕ))) (changes : List Change)
    → s.columns ≡ None → s.decimals ≡ [] → s.shard ≡ whole_feed → length changes ≤ s.max_records
    → arranged s header ≡ header_for s → map (arranged s) lines ≡ map record_for changes
    → has_long_record s (flat_map line (header ∷ lines)) ≡ false → AllByRecursion (CanBeSpelled s) changes
    → feed_of s (flat_map line (header ∷ lines)) ≡ record { items = numbered 1 changes; end = Good }
items_of-spelled s header lines changes none no_point whole few heads spelled short all =
    let wrong : RestOfFeed FeedEnd = record { items = []; end = WrongHeader } in
    feed_of-in_order s (flat_map line (header ∷ lines)) none short
    ∙ ap (items_of s) (all_records-in_order s (flat_map line (header ∷ lines)) none short)
    ∙ ap (items_of s) (records_of-feed s header lines heads (some_field s lines changes spelled))
    ∙ ap (λ (found : Option FoundColumns). option_map_or (λ columns. items_after s columns 0 lines) found wrong)
    (found_columns-in_order s header none
    ∙ ap (λ (b : Bool). if b then Some InOrder else None) (is_header-arranged s header heads))
    ∙ items_after-spelled s lines changes 0 none no_point whole spelled (omega (arith, few)) all

-- where no text is counted, records stand in their order
pub items_of-record_for : (s : Layout) (changes : List Change) → s.columns ≡ None → s.decimals ≡ []
    → s.text_places ≡ [] → s.shard ≡ whole_feed → length changes ≤ s.max_records
    → has_long_record s (flat_map line (header_for s ∷ map record_for changes)) ≡ false
    → AllByRecursion (CanBeSpelled s) changes
    → feed_of s (flat_map line (header_for s ∷ map record_for changes))
    ≡ record { items = numbered 1 changes; end = Good }
items_of-record_for s changes none no_point no_texts whole few =
    let same : (fields : List (List ℕ)) → arranged s fields ≡ fields = λ fields. arranged-none s fields no_texts in
    items_of-spelled s (header_for s) (map record_for changes) changes none no_point whole few (same (header_for s))
    (map-same (arranged s) same (map record_for changes))

-- ---- how much a feed gives
items_after-at_most : (s : Layout) (columns : FoundColumns) (number : ℕ) (records : List (List (List ℕ)))
    → number ≤ s.max_records
    → number + length (items_after s columns number records).items ≤ s.max_records
items_after-at_most s columns number [] within = omega (arith, within)
items_after-at_most s columns number (fields ∷ records) within =
    let plain : List (List ℕ) = plain_of s columns (number + 1) fields in
    let item : Item = record { number = number + 1; what = change_of s plain } in
    let rest : RestOfFeed FeedEnd = items_after s columns (number + 1) records in
    let past : RestOfFeed FeedEnd = record { items = []; end = TooManyRecords } in
    elim (cases_Bool (nat_lt number s.max_records)) [
      | inl room ↦
          let below : number < s.max_records = ltb-true number s.max_records room in
          let more = items_after-at_most s columns (number + 1) records (omega (arith, below)) in
          subst (λ (b : Bool). number + length (if b then (if is_read s plain then item_then item rest else rest)
          else past).items ≤ s.max_records) (sym room) (elim (cases_Bool (is_read s plain)) [
            | inl read ↦ subst (λ (b : Bool). number + length (if b then item_then item rest else rest).items
                ≤ s.max_records) (sym read) (omega (arith, more))
            | inr other ↦ subst (λ (b : Bool). number + length (if b then item_then item rest else rest).items
                ≤ s.max_records) (sym other) (omega (arith, more))
          ])
      | inr full ↦
          subst (λ (b : Bool). number + length (if b then (if is_read s plain then item_then item rest else rest)
          else past).items ≤ s.max_records) (sym full) (omega (arith, within))
    ]

pub items_of-at_most : (s : Layout) (records : List (List (List ℕ))) → length (items_of s records).items ≤ s.max_records
items_of-at_most s [] = omega arith
items_of-at_most s (header ∷ records) = by (found_columns s header)
  where
    by : (found : Option FoundColumns)
        → length (option_map_or (λ (columns : FoundColumns). items_after s columns 0 records) found
        (let wrong : RestOfFeed FeedEnd = record { items = []; end = WrongHeader } in wrong)).items ≤ s.max_records
    by None = omega arith
    by (Some columns) =
        let more = items_after-at_most s columns 0 records (omega arith) in
        omega (arith, more)

-- a feed is good where its records are so few
items_after-Good : (s : Layout) (columns : FoundColumns) (number : ℕ) (records : List (List (List ℕ)))
    → number ≤ s.max_records
    → ((items_after s columns number records).end ≡ Good) ↔ (number + length records ≤ s.max_records)
items_after-Good s columns number [] within = (λ good. omega (arith, within), λ few. refl)
items_after-Good s columns number (fields ∷ records) within =
    let plain : List (List ℕ) = plain_of s columns (number + 1) fields in
    let item : Item = record { number = number + 1; what = change_of s plain } in
    let rest : RestOfFeed FeedEnd = items_after s columns (number + 1) records in
    let past : RestOfFeed FeedEnd = record { items = []; end = TooManyRecords } in
    let all : Bool → RestOfFeed FeedEnd =
    λ b. if b then (if is_read s plain then item_then item rest else rest) else past in
    elim (cases_Bool (nat_lt number s.max_records)) [
      | inl room ↦
          let below : number < s.max_records = ltb-true number s.max_records room in
          let more = items_after-Good s columns (number + 1) records (omega (arith, below)) in
          let same : (all (nat_lt number s.max_records)).end ≡ rest.end =
          ap (λ (b : Bool). (all b).end) room ∙ end-same item rest (is_read s plain) in (
            λ good. let fewer = more.0 (sym same ∙ good) in omega (arith, fewer),
            λ few. same ∙ more.1 (omega (arith, few)),
          )
      | inr full ↦
          let same : (all (nat_lt number s.max_records)).end ≡ TooManyRecords = ap (λ (b : Bool). (all b).end) full in (
            λ good. absurd (apart (sym same ∙ good)),
            λ few. absurd (false≢true (sym full ∙ lt-ltb number s.max_records (omega (arith, few)))),
          )
    ]
  where
    end-same : (item : Item) (rest : RestOfFeed FeedEnd) (b : Bool)
        → (if b then item_then item rest else rest).end ≡ rest.end
    end-same item rest true = refl
    end-same item rest false = refl

    apart : TooManyRecords ≡ Good → ⊥
    apart same = cc

pub IsGoodFeed-some : (s : Layout) (header : List (List ℕ)) (records : List (List (List ℕ)))
    → IsGoodFeed s (header ∷ records)
    ↔ ((is_some (found_columns s header) ≡ true) × (length records ≤ s.max_records))
IsGoodFeed-some s header records = by (found_columns s header)
  where
    apart : WrongHeader ≡ Good → ⊥
    apart same = cc

    by : (found : Option FoundColumns)
        → ((option_map_or (λ (columns : FoundColumns). items_after s columns 0 records) found
        (let wrong : RestOfFeed FeedEnd = record { items = []; end = WrongHeader } in wrong)).end ≡ Good)
        ↔ ((is_some found ≡ true) × (length records ≤ s.max_records))
    by None = (λ good. absurd (apart good), λ both. absurd (false≢true both.0))
    by (Some columns) =
        let told = items_after-Good s columns 0 records (omega arith) in (
          λ good. (refl, let few = told.0 good in omega (arith, few)),
          λ both. told.1 (omega (arith, both.1)),
        )

-- when a first record names the columns
pub found_columns-header : (s : Layout) (header : List (List ℕ)) → s.columns ≡ None
    → is_some (found_columns s header) ≡ is_header s header
found_columns-header s header none =
    ap is_some (found_columns-in_order s header none) ∙ by (is_header s header)
  where
    by : (b : Bool) → is_some (if b then Some InOrder else None) ≡ b
    by true = refl
    by false = refl

pub found_columns-by_name : (s : Layout) (columns : FeedColumns) (header : List (List ℕ)) → s.columns ≡ Some columns
    → is_some (found_columns s header) ≡ list_all (stands_once header) (names_read columns)
found_columns-by_name s columns header some =
    ap (λ (it : Option FeedColumns). is_some (option_map_or (λ (named : FeedColumns).
    if list_all (stands_once header) (names_read named) then Some (ByName (places_by named header)) else None)
    it (if is_header s header then Some InOrder else None))) some
    ∙ by (list_all (stands_once header) (names_read columns)) (ByName (places_by columns header))
  where
    by : (b : Bool) (found : FoundColumns) → is_some (if b then Some found else None) ≡ b
    by true found = refl
    by false found = refl

-- each change that a feed gives is taken
abbrev IsTaken : Layout → Item → Type 0
IsTaken s item = IfOk item.what (λ change. takes s change ≡ true)

items_after-IsTaken : (s : Layout) (columns : FoundColumns) (number : ℕ) (records : List (List (List ℕ)))
    → AllByRecursion (IsTaken s) (items_after s columns number records).items
items_after-IsTaken s columns number [] = tt
items_after-IsTaken s columns number (fields ∷ records) =
    let plain : List (List ℕ) = plain_of s columns (number + 1) fields in
    let item : Item = record { number = number + 1; what = change_of s plain } in
    let rest : RestOfFeed FeedEnd = items_after s columns (number + 1) records in
    by item rest (takes-change_of s plain) (items_after-IsTaken s columns (number + 1) records)
    (nat_lt number s.max_records) (is_read s plain)
  where
    by : (item : Item) (rest : RestOfFeed FeedEnd) → IsTaken s item → AllByRecursion (IsTaken s) rest.items
        → (room read : Bool) → AllByRecursion (IsTaken s)
        (if room then (if read then item_then item rest else rest)
        else (let past : RestOfFeed FeedEnd = record { items = []; end = TooManyRecords } in past)).items
    by item rest one all true true = (one, all)
    by item rest one all true false = all
    by item rest one all false read = tt

pub items_of-IsTaken : (s : Layout) (records : List (List (List ℕ)))
    → AllByRecursion (IsTaken s) (items_of s records).items
items_of-IsTaken s [] = tt
items_of-IsTaken s (header ∷ records) = by (found_columns s header)
  where
    by : (found : Option FoundColumns) → AllByRecursion (IsTaken s)
        (option_map_or (λ (columns : FoundColumns). items_after s columns 0 records) found
        (let wrong : RestOfFeed FeedEnd = record { items = []; end = WrongHeader } in wrong)).items
    by (Some columns) = items_after-IsTaken s columns 0 records
    by None = tt
