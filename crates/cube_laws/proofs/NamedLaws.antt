-- Feeds whose columns are known by their names: what they give.
use Rattle.std.proofs.Common.{◌≡◌, ◌≤◌, ◌<◌, ◌+◌, ℕ, zero, suc, Bool, true, false, not, List, [], ◌∷◌, ◌++◌, length}
use Rattle.std.proofs.Common.{get_or, filter, map, codes, Option, Some, None, option_map, refl, sym, ap, ap₂, ◌∙◌}
use Rattle.std.proofs.Common.{subst, inl, inr, arith, nat_lt, zero-add, IsPermutation}
use Rattle.std.specs.Prelude.{◌==◌, ◌||◌, cond, is_some, unwrap_or, if◌then◌else◌, Err}
use Rattle.std.specs.List.{AllByRecursion, AllZip, filter_map, list_all, position_from, range_with_len}
use Rattle.std.specs.Option.{option_map_or}
use Rattle.std.specs.Str.{bytes_eq}
use Rattle.std.proofs.lemmas.Bool.{and_from, and_parts, cases_Bool, eq-eqb, eqb-true, false_from_ne_true, false≢true}
use Rattle.std.proofs.lemmas.Bool.{not-true, or_parts}
use Rattle.std.proofs.lemmas.Iterator.Adapters.{position_from-zero}
use Rattle.std.proofs.lemmas.List.{append-nil, ext_get_or, get_or-map, get_or_default, length-append, length-map}
use Rattle.std.proofs.lemmas.List.{drop-drop, map-append}
use Rattle.std.proofs.Math.Seq.{drop-append_seam, take-append_seam}
use Rattle.std.proofs.lemmas.List.FromFn.{get_or-map-range_with_len, get_or-range_with_len, length-map-range_with_len}
use Rattle.std.proofs.lemmas.List.FromFn.{length-range_with_len}
use Rattle.std.proofs.lemmas.List.Sorted.{All-permutation, IsPermutation-map, length_permutation}
use Rattle.std.proofs.lemmas.List.Sums.{list_all-from_AllPass}
use Rattle.std.proofs.lemmas.Slice.Eq.{bytes_eq-Decides}
use Rattle.toml.specs.Data.{no_members, table}
use Rattle.cube_core.specs.FeedDocument.{columns_of_feed, dimension_column, feed_columns, is_feed_table, measure_column}
use Rattle.cube_core.specs.FeedRecords.{FeedEnd, RestOfFeed, TooManyRecords, WrongHeader, found_columns, is_read}
use Rattle.cube_core.specs.FeedRecords.{item_then, items_after, items_of, names_read, place_in, places_by}
use Rattle.cube_core.specs.FeedRecords.{stands_once}
use Rattle.cube_core.specs.Items.{change_of, delete_of, dimension_fields, field_at, insert_of, is_header, is_keep}
use Rattle.cube_core.specs.Items.{measure_fields, remove_of, unless_at_fault, update_of, upsert_of, width_of}
use Rattle.cube_core.specs.declared.change.LineFault.TheVariants as fault
use Rattle.cube_core.specs.Layout.{IsSchema, Layout, are_distinct, is_lawful_name, is_listed}
use Rattle.cube_core.specs.Plain.{nulls_of, plain_at, plain_by_name, plain_dimension, plain_in_order, plain_of_arranged}
use Rattle.cube_core.specs.Plain.{plain_measure, plain_measures, point_of}
use Rattle.cube_core.specs.Takes.{null_text}
use Rattle.cube_core.specs.declared.feed_columns.Column.{Column}
use Rattle.cube_core.specs.declared.feed_columns.FeedColumns.{FeedColumns}
use Rattle.cube_core.specs.declared.feed_columns.FoundColumns.{FoundColumns}
use Rattle.cube_core.specs.declared.feed_columns.FoundColumns.TheVariants.{InOrder, ByName}
use Rattle.cube_core.proofs.LifeLaws.{bytes_eq-itself}
use Rattle.cube_core.proofs.ListLaws.{filter-failed, filter-passed}
use Rattle.cube_core.proofs.PlainLaws.{arranged-none, map-same, plain_dimension-same}
use Rattle.cube_laws.proofs.FeedLaws.{is_header-arranged}
use Rattle.cube_laws.specs.Feeds.{header_for}
use Rattle.cube_laws.specs.Named.{AreReadAlike, bare_columns, by_names, in_order, own_columns, picked}
use Rattle.cube_laws.specs.Named.{puts_or_removes, whole_column}
use Rattle.cube_core.proofs.ReorderedLaws.{IsPermutation-Reordered, Reordered, filter-Reordered}
use Rattle.cube_laws.proofs.RowOrderLaws.{length-Reordered}
use Rattle.cube_core.specs.declared.feed_columns.DimensionPlace.{DimensionPlace}

-- where the column of a dimension stands, by a header
abbrev place_by : List (List ℕ) → Column → DimensionPlace
place_by header column = record { place = place_in header column.name; first = column.first }

-- what holds of all elements of two lists, joined, holds of all of each
AllByRecursion-split : {X : Type 0} (P : X → Type 0) (xs ys : List X) → AllByRecursion P (xs ++ ys)
    → AllByRecursion P xs × AllByRecursion P ys
AllByRecursion-split P [] ys all = (tt, all)
AllByRecursion-split P (x ∷ xs) ys all =
    let rest = AllByRecursion-split P xs ys all.1 in
    ((all.0, rest.0), rest.1)

-- ---- the columns that a header names
found_columns-once : (s : Layout) (columns : FeedColumns) (header : List (List ℕ)) → s.columns ≡ Some columns
    → list_all (stands_once header) (names_read columns) ≡ true
    → found_columns s header ≡ Some (ByName (places_by columns header))
found_columns-once s columns header some once =
    ap (λ (it : Option FeedColumns). option_map_or (λ (named : FeedColumns).
    if list_all (stands_once header) (names_read named) then Some (ByName (places_by named header)) else None)
    it (if is_header s header then Some InOrder else None)) some
    ∙ ap (λ (b : Bool). if b then Some (ByName (places_by columns header)) else None) once

-- what records give after a header that names these columns, or none
abbrev gives : Layout → List (List (List ℕ)) → Option FoundColumns → RestOfFeed FeedEnd
gives s records found = option_map_or (λ (columns : FoundColumns). items_after s columns 0 records) found
    (let wrong : RestOfFeed FeedEnd = record { items = []; end = WrongHeader } in wrong)

items_of-found : (s : Layout) (header : List (List ℕ)) (records : List (List (List ℕ))) (columns : FoundColumns)
    → found_columns s header ≡ Some columns → items_of s (header ∷ records) ≡ items_after s columns 0 records
items_of-found s header records columns found = ap (gives s records) found

-- ---- records that are read alike
module _ (s : Layout) (columns : FeedColumns) (header other : List (List ℕ)) where
  abbrev SameAt : List (List ℕ) → List (List ℕ) → List ℕ → Type 0
  SameAt fields others name = field_at fields (place_in header name) ≡ field_at others (place_in other name)

  same-name : (fields others : List (List ℕ)) (name : Option (List ℕ)) (default : List ℕ)
      → AllByRecursion (SameAt fields others) (option_map_or (λ it. it ∷ []) name [])
      → option_map_or (field_at fields) (option_map (place_in header) name) default
      ≡ option_map_or (field_at others) (option_map (place_in other) name) default
  same-name fields others None default same = refl
  same-name fields others (Some name) default same = same.0

  same-dimensions : (fields others : List (List ℕ)) (dimensions : List Column)
      → AllByRecursion (SameAt fields others) (map (λ (column : Column). column.name) dimensions)
      → map (plain_at s fields) (map (place_by header) dimensions)
      ≡ map (plain_at s others) (map (place_by other) dimensions)
  same-dimensions fields others [] same = refl
  same-dimensions fields others (column ∷ dimensions) same =
      ap₂ (λ (field : List ℕ) (rest : List (List ℕ)). field ∷ rest)
      (ap (plain_dimension s (nulls_of s) column.first) same.0) (same-dimensions fields others dimensions same.1)

  same-measures : (fields others : List (List ℕ)) (measures : List (List ℕ))
      → AllByRecursion (SameAt fields others) measures
      → map (field_at fields) (map (place_in header) measures) ≡ map (field_at others) (map (place_in other) measures)
  same-measures fields others [] same = refl
  same-measures fields others (name ∷ measures) same =
      ap₂ (λ (field : List ℕ) (rest : List (List ℕ)). field ∷ rest) same.0
      (same-measures fields others measures same.1)

  plain_by_name-alike : (number : ℕ) (fields others : List (List ℕ))
      → AreReadAlike columns header other fields others
      → plain_by_name s (places_by columns header) number fields
      ≡ plain_by_name s (places_by columns other) number others
  plain_by_name-alike number fields others alike =
      let (front, measures) = AllByRecursion-split _ _ columns.measures alike.same in
      let (ids, dimensions) =
      AllByRecursion-split _ _ (map (λ (column : Column). column.name) columns.dimensions) front in
      let (op, id) = AllByRecursion-split _ (option_map_or (λ it. it ∷ []) columns.op []) _ ids in
      let wide : (length fields == length header) ≡ true = eq-eqb _ _ alike.width in
      let other_wide : (length others == length other) ≡ true = eq-eqb _ _ alike.other_width in
      let ops = same-name fields others columns.op (codes "I") op in
      let named = same-name fields others columns.id _ id in
      let of_dimensions = same-dimensions fields others columns.dimensions dimensions in
      let of_measures = ap (plain_measures s (nulls_of s) (point_of s) 0)
      (same-measures fields others columns.measures measures) in
      λ i. ops i ∷ named i ∷ of_dimensions i ++ of_measures i
      ++ (if (wide ∙ sym other_wide) i then [] else [] ∷ [])

  items_after-alike : (number : ℕ) (records others : List (List (List ℕ)))
      → AllZip (AreReadAlike columns header other) records others
      → items_after s (ByName (places_by columns header)) number records
      ≡ items_after s (ByName (places_by columns other)) number others
  items_after-alike number [] [] alike = refl
  items_after-alike number [] (fields ∷ others) alike = absurd alike
  items_after-alike number (fields ∷ records) [] alike = absurd alike
  items_after-alike number (fields ∷ records) (those ∷ others) alike =
      let no_more : RestOfFeed FeedEnd = record { items = []; end = TooManyRecords } in
      ap₂ (λ (plain : List (List ℕ)) (rest : RestOfFeed FeedEnd). if nat_lt number s.max_records
      then (if is_read s plain then item_then (record { number = number + 1; what = change_of s plain }) rest else rest)
      else no_more)
      (plain_by_name-alike (number + 1) fields those alike.0) (items_after-alike (number + 1) records others alike.1)

  pub items_of-alike : (records others : List (List (List ℕ))) → s.columns ≡ Some columns
      → list_all (stands_once header) (names_read columns) ≡ true
      → list_all (stands_once other) (names_read columns) ≡ true
      → AllZip (AreReadAlike columns header other) records others
      → items_of s (header ∷ records) ≡ items_of s (other ∷ others)
  items_of-alike records others some once other_once alike =
      items_of-found s header records (ByName (places_by columns header))
      (found_columns-once s columns header some once)
      ∙ items_after-alike 0 records others alike
      ∙ sym (items_of-found s other others (ByName (places_by columns other))
      (found_columns-once s columns other some other_once))

-- ---- where a name stands
-- what has an element that passes, filtered, has one
some-passed : (p : List ℕ → Bool) (xs : List (List ℕ)) (i : ℕ) → i < length xs → p (get_or xs i []) ≡ true
    → 1 ≤ length (filter p xs)
some-passed p [] i inside passes = absurd (omega (arith, inside))
some-passed p (x ∷ xs) zero inside passes = omega (arith, ap length (filter-passed p x xs passes))
some-passed p (x ∷ xs) (suc i) inside passes = elim (cases_Bool (p x)) [
  | inl here ↦ omega (arith, ap length (filter-passed p x xs here))
  | inr there ↦
      omega (arith, ap length (filter-failed p x xs there), some-passed p xs i (omega (arith, inside)) passes)
]

-- the one place of what passes once
position_from-once : (p : List ℕ → Bool) (k : ℕ) (xs : List (List ℕ)) (i : ℕ) → length (filter p xs) ≡ 1
    → i < length xs → p (get_or xs i []) ≡ true → position_from p k xs ≡ Some (k + i)
position_from-once p k [] i once inside passes = absurd (omega (arith, inside))
position_from-once p k (x ∷ xs) zero once inside passes =
    ap (λ b. cond b (Some k) (position_from p (k + 1) xs)) passes ∙ ap Some (omega arith)
position_from-once p k (x ∷ xs) (suc i) once inside passes = elim (cases_Bool (p x)) [
  | inl here ↦ absurd (omega (
    arith,
    once,
    ap length (filter-passed p x xs here),
    some-passed p xs i (omega (arith, inside)) passes,
  ))
  | inr there ↦
      ap (λ b. cond b (Some k) (position_from p (k + 1) xs)) there
      ∙ position_from-once p (k + 1) xs i (sym (ap length (filter-failed p x xs there)) ∙ once)
      (omega (arith, inside)) passes
      ∙ ap Some (omega arith)
]

place_in-once : (header : List (List ℕ)) (name : List ℕ) (i : ℕ) → length (filter (bytes_eq name) header) ≡ 1
    → i < length header → bytes_eq name (get_or header i []) ≡ true → place_in header name ≡ i
place_in-once header name i once inside same =
    ap (λ found. unwrap_or found 0)
    (position_from-zero (bytes_eq name) header ∙ position_from-once (bytes_eq name) 0 header i once inside same)
    ∙ zero-add i

-- ---- names that differ
-- nothing passes of a list where none of its elements does
filter-none : (name : List ℕ) (names : List (List ℕ)) → is_listed name names ≡ false
    → length (filter (bytes_eq name) names) ≡ 0
filter-none name [] none = refl
filter-none name (other ∷ names) none = elim (cases_Bool (bytes_eq name other)) [
  | inl here ↦ absurd (false≢true (sym none ∙ first here))
  | inr there ↦
      ap length (filter-failed (bytes_eq name) other names there)
      ∙ filter-none name names (sym (rest there) ∙ none)
]
  where
    first : bytes_eq name other ≡ true → is_listed name (other ∷ names) ≡ true
    first here = rw here refl

    rest : bytes_eq name other ≡ false → is_listed name (other ∷ names) ≡ is_listed name names
    rest there = rw there refl

-- what is at a place of names is listed
listed-at : (names : List (List ℕ)) (i : ℕ) → i < length names → is_listed (get_or names i []) names ≡ true
listed-at [] i inside = absurd (omega (arith, inside))
listed-at (name ∷ names) zero inside = rw (bytes_eq-itself name) refl
listed-at (name ∷ names) (suc i) inside = elim (cases_Bool (bytes_eq (get_or names i []) name)) [
  | inl here ↦ rw here refl
  | inr there ↦ rw there (listed-at names i (omega (arith, inside)))
]

-- of names that differ each stands once
once-distinct : (names : List (List ℕ)) (i : ℕ) → are_distinct names ≡ true → i < length names
    → length (filter (bytes_eq (get_or names i [])) names) ≡ 1
once-distinct [] i distinct inside = absurd (omega (arith, inside))
once-distinct (name ∷ names) zero distinct inside =
    let (alone, others) = and_parts (not (is_listed name names)) (are_distinct names) distinct in
    ap length (filter-passed (bytes_eq name) name names (bytes_eq-itself name))
    ∙ ap suc (filter-none name names (not-true _ alone))
once-distinct (name ∷ names) (suc i) distinct inside =
    let (alone, others) = and_parts (not (is_listed name names)) (are_distinct names) distinct in
    let here : List ℕ = get_or names i [] in
    let differ : bytes_eq here name ≡ false =
    false_from_ne_true _ (λ same. false≢true (sym (not-true _ alone)
    ∙ subst (λ it. is_listed it names ≡ true) ((bytes_eq-Decides here name).0 same)
    (listed-at names i (omega (arith, inside))))) in
    ap length (filter-failed (bytes_eq here) name names differ)
    ∙ once-distinct names i others (omega (arith, inside))

-- a name that isn't lawful is none of lawful names
listed-lawful : (name : List ℕ) (names : List (List ℕ)) → is_lawful_name name ≡ false
    → list_all is_lawful_name names ≡ true → is_listed name names ≡ false
listed-lawful name [] wrong lawful = refl
listed-lawful name (other ∷ names) wrong lawful =
    let (here, rest) = and_parts (is_lawful_name other) (list_all is_lawful_name names) lawful in
    let differ : bytes_eq name other ≡ false =
    false_from_ne_true _ (λ same. false≢true
    (sym wrong ∙ ap is_lawful_name ((bytes_eq-Decides name other).0 same) ∙ here)) in
    rw differ (listed-lawful name names wrong rest)

header_for-distinct : (s : Layout) → IsSchema s → are_distinct (header_for s) ≡ true
header_for-distinct s is =
    let op : is_listed (codes "op") (s.dimensions ++ s.measures) ≡ false =
    listed-lawful (codes "op") (s.dimensions ++ s.measures) refl is.names_are_lawful in
    let id : is_listed (codes "id") (s.dimensions ++ s.measures) ≡ false =
    listed-lawful (codes "id") (s.dimensions ++ s.measures) refl is.names_are_lawful in
    rw (op, id) is.names_are_distinct

-- ---- the columns of a schema's own order
names_read-own : (s : Layout) → names_read (own_columns s) ≡ header_for s
names_read-own s =
    ap (λ (names : List (List ℕ)). codes "op" ∷ codes "id" ∷ names ++ s.measures) (same s.dimensions)
  where
    same : (names : List (List ℕ)) → map (λ (column : Column). column.name) (map whole_column names) ≡ names
    same [] = refl
    same (name ∷ names) = ap (λ (rest : List (List ℕ)). name ∷ rest) (same names)

stands_once-own : (names : List (List ℕ)) → are_distinct names ≡ true → list_all (stands_once names) names ≡ true
stands_once-own names distinct =
    list_all-from_AllPass (stands_once names) names
    (λ i d inside. eq-eqb _ _ (subst (λ name. length (filter (bytes_eq name) names) ≡ 1)
    (get_or_default names i [] d inside) (once-distinct names i distinct inside)))

-- the fields at the places of all names of a header are those of the record
picked-all : (header fields : List (List ℕ)) → are_distinct header ≡ true → length fields ≡ length header
    → map (λ name. field_at fields (place_in header name)) header ≡ fields
picked-all header fields distinct wide =
    ext_get_or [] _ fields (length-map header (λ name. field_at fields (place_in header name)) ∙ sym wide)
    (λ i inside.
    let within : i < length header =
    omega (arith, inside, length-map header (λ name. field_at fields (place_in header name))) in
    get_or-map (λ name. field_at fields (place_in header name)) header i [] [] within
    ∙ ap (field_at fields) (place_in-once header (get_or header i []) i (once-distinct header i distinct within) within
    (bytes_eq-itself (get_or header i []))))

-- where `\N` alone is null, a field stays as it is
plain_dimension-own : (s : Layout) (field : List ℕ) → plain_dimension s (null_text ∷ []) None field ≡ field
plain_dimension-own s field = elim (cases_Bool (is_keep s field)) [
  | inl keeps ↦ rw keeps refl
  | inr puts ↦ elim (cases_Bool (bytes_eq field null_text)) [
    | inl null ↦ rw (puts, null) (sym ((bytes_eq-Decides field null_text).0 null))
    | inr text ↦ rw (puts, text) refl
  ]
]

-- that null is spelled `\N` need be said but once
plain_measure-once : (s : Layout) (point m : ℕ) (field : List ℕ)
    → plain_measure s (null_text ∷ []) point m field ≡ plain_measure s (null_text ∷ null_text ∷ []) point m field
plain_measure-once s point m field = elim (cases_Bool (bytes_eq field null_text)) [
  | inl null ↦ rw null refl
  | inr text ↦ rw text refl
]

plain_measures-once : (s : Layout) (point m : ℕ) (fields : List (List ℕ))
    → plain_measures s (null_text ∷ []) point m fields ≡ plain_measures s (null_text ∷ null_text ∷ []) point m fields
plain_measures-once s point m [] = refl
plain_measures-once s point m (field ∷ fields) =
    ap₂ (λ (first : List ℕ) (rest : List (List ℕ)). first ∷ rest) (plain_measure-once s point m field)
    (plain_measures-once s point (m + 1) fields)

-- a plain record in the order of the schema, by its parts
plain_in_order-parts : (s : Layout) (op id : List ℕ) (dimensions measures : List (List ℕ)) → s.columns ≡ None
    → s.text_places ≡ [] → length dimensions ≡ length s.dimensions
    → plain_in_order s (op ∷ id ∷ dimensions ++ measures)
    ≡ op ∷ id ∷ dimensions ++ plain_measures s (null_text ∷ []) 46 0 measures
plain_in_order-parts s op id dimensions measures none no_texts wide =
    let nulls : nulls_of s ≡ null_text ∷ [] = rw none refl in
    let fields = op ∷ id ∷ dimensions ++ measures in
    let front : dimension_fields s fields ≡ dimensions = rw (← wide) (take-append_seam dimensions measures) in
    let back : measure_fields s fields ≡ measures =
    rw (← drop-drop (length s.dimensions) 2 fields, ← wide) (drop-append_seam dimensions measures) in
    let plain = plain_dimension s (null_text ∷ null_text ∷ []) None in
    let first : map (plain_dimension s (null_text ∷ nulls_of s) None) (dimension_fields s fields) ≡ dimensions
    = ap (λ (texts : List (List ℕ)). map (plain_dimension s (null_text ∷ texts) None) (dimension_fields s fields)) nulls
    ∙ ap (map plain) front ∙ map-same plain (plain_dimension-same s) dimensions in
    let last : plain_measures s (null_text ∷ nulls_of s) 46 0 (measure_fields s fields)
    ≡ plain_measures s (null_text ∷ []) 46 0 measures
    = ap (λ (texts : List (List ℕ)). plain_measures s (null_text ∷ texts) 46 0 (measure_fields s fields)) nulls
    ∙ ap (plain_measures s (null_text ∷ null_text ∷ []) 46 0) back ∙ sym (plain_measures-once s 46 0 measures) in
    ap (plain_of_arranged s) (arranged-none s fields no_texts)
    ∙ ap₂ (λ (a b : List (List ℕ)). op ∷ id ∷ a ++ b) first last

module _ (s : Layout) (is : IsSchema s) (no_texts : s.text_places ≡ []) where
  abbrev named : Layout
  named = by_names (own_columns s) s

  abbrev at : List (List ℕ) → List ℕ → List ℕ
  at fields name = field_at fields (place_in (header_for s) name)

  own-dimensions : (fields names : List (List ℕ))
      → map (plain_at named fields) (map (place_by (header_for s)) (map whole_column names))
      ≡ map (at fields) names
  own-dimensions fields [] = refl
  own-dimensions fields (name ∷ names) =
      ap₂ (λ (field : List ℕ) (rest : List (List ℕ)). field ∷ rest)
      (plain_dimension-own named (at fields name)) (own-dimensions fields names)

  own-measures : (fields names : List (List ℕ))
      → map (field_at fields) (map (place_in (header_for s)) names) ≡ map (at fields) names
  own-measures fields [] = refl
  own-measures fields (name ∷ names) =
      ap (λ (rest : List (List ℕ)). at fields name ∷ rest) (own-measures fields names)

  own-fields : (fields : List (List ℕ)) → length fields ≡ length (header_for s)
      → fields ≡ at fields (codes "op") ∷ at fields (codes "id") ∷ map (at fields) s.dimensions
      ++ map (at fields) s.measures
  own-fields fields wide =
      sym (picked-all (header_for s) fields (header_for-distinct s is) wide)
      ∙ ap (λ (rest : List (List ℕ)). at fields (codes "op") ∷ at fields (codes "id") ∷ rest)
      (map-append (at fields) s.dimensions s.measures)

  plain_by_name-own : (number : ℕ) (fields : List (List ℕ)) → length fields ≡ length (header_for s)
      → plain_by_name named (places_by (own_columns s) (header_for s)) number fields
      ≡ plain_in_order (in_order s) fields
  plain_by_name-own number fields wide =
      let right : (length fields == length (header_for s)) ≡ true = eq-eqb _ _ wide in
      let dimensions = own-dimensions fields s.dimensions in
      let measures = ap (plain_measures named (null_text ∷ []) 46 0) (own-measures fields s.measures) in
      (λ i. at fields (codes "op") ∷ at fields (codes "id") ∷ dimensions i ++ measures i
      ++ (if right i then [] else [] ∷ []))
      ∙ append-nil _
      ∙ sym (plain_in_order-parts (in_order s) (at fields (codes "op")) (at fields (codes "id"))
      (map (at fields) s.dimensions) (map (at fields) s.measures) refl no_texts (length-map s.dimensions (at fields)))
      ∙ sym (ap (plain_in_order (in_order s)) (own-fields fields wide))

  -- the operation of a plain record is that of the record
  first-plain : (fields : List (List ℕ)) → 1 ≤ length fields
      → field_at (plain_in_order (in_order s) fields) 0 ≡ field_at fields 0
  first-plain [] some = absurd (omega arith)
  first-plain (op ∷ fields) some =
      ap (λ arranged. field_at (plain_of_arranged (in_order s) arranged) 0)
      (arranged-none (in_order s) (op ∷ fields) no_texts)

  -- a record that isn't an upsert or a removal spells the same change by names and in order
  change_of-own : (plain : List (List ℕ)) → puts_or_removes plain ≡ false
      → change_of named plain ≡ change_of (in_order s) plain
  change_of-own plain neither =
      let parts = or_parts (bytes_eq (field_at plain 0) (codes "P")) (bytes_eq (field_at plain 0) (codes "R")) neither in
      ap₂ (λ (puts removes : Bool).
      if bytes_eq (field_at plain 0) (codes "I") then unless_at_fault (insert_of named plain) named plain
      else if bytes_eq (field_at plain 0) (codes "U") then unless_at_fault (update_of named plain) named plain
      else if bytes_eq (field_at plain 0) (codes "D") then delete_of named plain
      else if puts then unless_at_fault (upsert_of named plain) named plain
      else if removes then remove_of named plain
      else Err fault.Op) parts.0 parts.1

  items_after-own : (number : ℕ) (records : List (List (List ℕ)))
      → AllByRecursion (λ fields. length fields ≡ length (header_for s)) records
      → AllByRecursion (λ fields. puts_or_removes fields ≡ false) records
      → items_after named (ByName (places_by (own_columns s) (header_for s))) number records
      ≡ items_after (in_order s) InOrder number records
  items_after-own number [] wide neither = refl
  items_after-own number (fields ∷ records) wide neither =
      let no_more : RestOfFeed FeedEnd = record { items = []; end = TooManyRecords } in
      let same = plain_by_name-own (number + 1) fields wide.0 in
      let plain : List (List ℕ) = plain_in_order (in_order s) fields in
      let first : field_at plain 0 ≡ field_at fields 0 = first-plain fields (omega (arith, wide.0)) in
      let none : puts_or_removes plain ≡ false =
      ap (λ (op : List ℕ). bytes_eq op (codes "P") || bytes_eq op (codes "R")) first ∙ neither.0 in
      let what = ap (change_of named) same ∙ change_of-own plain none in
      let rest = items_after-own (number + 1) records wide.1 neither.1 in
      λ i. if nat_lt number s.max_records
      then (if is_read s (same i) then item_then (record { number = number + 1; what = what i }) (rest i) else rest i)
      else no_more

pub items_of-own : (s : Layout) (records : List (List (List ℕ))) → IsSchema s
    → s.text_places ≡ [] → AllByRecursion (λ fields. length fields ≡ width_of s) records
    → AllByRecursion (λ fields. puts_or_removes fields ≡ false) records
    → items_of (by_names (own_columns s) s) (header_for s ∷ records)
    ≡ items_of (in_order s) (header_for s ∷ records)
items_of-own s records is no_texts wide neither =
    let columns = own_columns s in
    let once : list_all (stands_once (header_for s)) (names_read (own_columns s)) ≡ true =
    subst (λ names. list_all (stands_once (header_for s)) names ≡ true) (sym (names_read-own s))
    (stands_once-own (header_for s) (header_for-distinct s is)) in
    items_of-found (by_names columns s) (header_for s) records (ByName (places_by columns (header_for s)))
    (found_columns-once (by_names columns s) columns (header_for s) refl once)
    ∙ items_after-own s is no_texts 0 records (each records wide) neither
    ∙ sym (items_of-found (in_order s) (header_for s) records InOrder
    (ap (λ (b : Bool). if b then Some InOrder else None) (is_header-arranged (in_order s) (header_for s) (arranged-none (in_order s) (header_for s) no_texts))))
  where
    each : (rs : List (List (List ℕ))) → AllByRecursion (λ fields. length fields ≡ width_of s) rs
        → AllByRecursion (λ fields. length fields ≡ length (header_for s)) rs
    each [] all = tt
    each (fields ∷ rs) all =
        (omega (arith, all.0, length-append s.dimensions s.measures), each rs all.1)

-- ---- columns in another order
-- what has passed is at a place
passed-at : (p : List ℕ → Bool) (xs : List (List ℕ)) → 1 ≤ length (filter p xs)
    → (i : ℕ) × (i < length xs) × (p (get_or xs i []) ≡ true)
passed-at p [] some = absurd (omega (arith, some))
passed-at p (x ∷ xs) some = elim (cases_Bool (p x)) [
  | inl here ↦ (0, omega arith, here)
  | inr there ↦
      let rest = passed-at p xs (omega (arith, some, ap length (filter-failed p x xs there))) in
      (suc rest.0, omega (arith, rest.1), rest.2)
]

-- a record's fields, from the first to the last
all-places : (fields : List (List ℕ)) → map (field_at fields) (range_with_len 0 (length fields)) ≡ fields
all-places fields =
    ext_get_or [] _ fields (length-map-range_with_len (field_at fields) 0 (length fields))
    (λ i inside. get_or-map-range_with_len (field_at fields) 0 (length fields) i i []
    (omega (arith, inside, length-map-range_with_len (field_at fields) 0 (length fields))) (omega arith))

module _ (columns : FeedColumns) (places : List ℕ) (header : List (List ℕ))
    (all : IsPermutation (range_with_len 0 (length header)) places) where
  abbrev moved : List (List ℕ)
  moved = picked places header

  as_many : length places ≡ length header
  as_many = length_permutation _ places all ∙ length-range_with_len 0 (length header)

  place-below : (j : ℕ) → j < length places → get_or places j 0 < length header
  place-below j inside =
      All-permutation (λ k. k < length header) (range_with_len 0 (length header)) places all
      (λ i d within.
      let below : i < length header = omega (arith, within, length-range_with_len 0 (length header)) in
      omega (arith, get_or-range_with_len 0 (length header) i d below, below)) j 0 inside

  moved-Reordered : Reordered header moved
  moved-Reordered =
      IsPermutation-Reordered header moved
      (subst (λ h. IsPermutation h (map (field_at header) places)) (all-places header)
      (IsPermutation-map (field_at header) (range_with_len 0 (length header)) places all))

  moved-count : (name : List ℕ) → length (filter (bytes_eq name) header) ≡ length (filter (bytes_eq name) moved)
  moved-count name = length-Reordered (filter-Reordered (bytes_eq name) moved-Reordered)

  moved-once : stands_once header ≡ stands_once moved
  moved-once = λ i name. moved-count name i == 1

  moved-field : (fields : List (List ℕ)) (name : List ℕ) → stands_once header name ≡ true
      → field_at (picked places fields) (place_in moved name) ≡ field_at fields (place_in header name)
  moved-field fields name stands =
      let once : length (filter (bytes_eq name) header) ≡ 1 = eqb-true _ _ stands in
      let moved_once : length (filter (bytes_eq name) moved) ≡ 1 = sym (moved-count name) ∙ once in
      let found = passed-at (bytes_eq name) moved (omega (arith, moved_once)) in
      let j = found.0 in
      let inside : j < length places = omega (arith, found.1, length-map places (field_at header)) in
      let k = get_or places j 0 in
      let there : get_or moved j [] ≡ get_or header k [] = get_or-map (field_at header) places j 0 [] inside in
      ap (field_at (picked places fields)) (place_in-once moved name j moved_once found.1 found.2)
      ∙ get_or-map (field_at fields) places j 0 [] inside
      ∙ sym (ap (field_at fields) (place_in-once header name k once (place-below j inside)
      (sym (ap (bytes_eq name) there) ∙ found.2)))

  moved-alike : (names : List (List ℕ)) (fields : List (List ℕ)) → list_all (stands_once header) names ≡ true
      → AllByRecursion
      (λ name. field_at (picked places fields) (place_in moved name) ≡ field_at fields (place_in header name)) names
  moved-alike [] fields once = tt
  moved-alike (name ∷ names) fields once =
      let (here, rest) = and_parts (stands_once header name) (list_all (stands_once header) names) once in
      (moved-field fields name here, moved-alike names fields rest)

  moved-records : (records : List (List (List ℕ))) → list_all (stands_once header) (names_read columns) ≡ true
      → AllByRecursion (λ fields. length fields ≡ length header) records
      → AllZip (AreReadAlike columns moved header) (map (picked places) records) records
  moved-records [] once wide = tt
  moved-records (fields ∷ records) once wide = (
    record {
      width = length-map places (field_at fields) ∙ sym (length-map places (field_at header));
      other_width = wide.0;
      same = moved-alike (names_read columns) fields once;
    },
    moved-records records once wide.1,
  )

found_columns-missing : (s : Layout) (columns : FeedColumns) (header : List (List ℕ)) → s.columns ≡ Some columns
    → list_all (stands_once header) (names_read columns) ≡ false → found_columns s header ≡ None
found_columns-missing s columns header some missing =
    ap (λ (it : Option FeedColumns). option_map_or (λ (named : FeedColumns).
    if list_all (stands_once header) (names_read named) then Some (ByName (places_by named header)) else None)
    it (if is_header s header then Some InOrder else None)) some
    ∙ ap (λ (b : Bool). if b then Some (ByName (places_by columns header)) else None) missing

items_of-missing : (s : Layout) (header other : List (List ℕ)) (records others : List (List (List ℕ)))
    → found_columns s header ≡ None → found_columns s other ≡ None
    → items_of s (header ∷ records) ≡ items_of s (other ∷ others)
items_of-missing s header other records others none other_none =
    ap (gives s records) none ∙ sym (ap (gives s others) other_none)

pub items_of-moved : (s : Layout) (columns : FeedColumns) (places : List ℕ) (header : List (List ℕ))
    (records : List (List (List ℕ))) → s.columns ≡ Some columns
    → IsPermutation (range_with_len 0 (length header)) places
    → AllByRecursion (λ fields. length fields ≡ length header) records
    → items_of s (picked places header ∷ map (picked places) records) ≡ items_of s (header ∷ records)
items_of-moved s columns places header records some all wide =
    let same : list_all (stands_once (picked places header)) (names_read columns)
    ≡ list_all (stands_once header) (names_read columns) =
    sym (ap (λ test. list_all test (names_read columns)) (moved-once columns places header all)) in
    elim (cases_Bool (list_all (stands_once header) (names_read columns))) [
      | inl once ↦
          items_of-alike s columns (picked places header) header (map (picked places) records) records some
          (same ∙ once) once (moved-records columns places header all records once wide)
      | inr missing ↦
          items_of-missing s (picked places header) header (map (picked places) records) records
          (found_columns-missing s columns (picked places header) some (same ∙ missing))
          (found_columns-missing s columns header some missing)
    ]

-- ---- an empty table `feed`
bare-dimensions : (names : List (List ℕ))
    → (list_all (λ name. is_some (dimension_column no_members name)) names ≡ true)
    × (filter_map (dimension_column no_members) names ≡ map whole_column names)
bare-dimensions [] = (refl, refl)
bare-dimensions (name ∷ names) =
    let rest = bare-dimensions names in
    (rest.0, ap (λ (columns : List Column). whole_column name ∷ columns) rest.1)

bare-measures : (names : List (List ℕ))
    → (list_all (λ name. is_some (measure_column no_members name)) names ≡ true)
    × (filter_map (measure_column no_members) names ≡ names)
bare-measures [] = (refl, refl)
bare-measures (name ∷ names) =
    let rest = bare-measures names in
    (rest.0, ap (λ (others : List (List ℕ)). name ∷ others) rest.1)

pub columns_of_feed-empty : (dimensions measures : List (List ℕ))
    → columns_of_feed dimensions measures (table no_members) ≡ Some (bare_columns dimensions measures)
columns_of_feed-empty dimensions measures =
    let ds = bare-dimensions dimensions in
    let ms = bare-measures measures in
    let right : is_feed_table dimensions measures no_members ≡ true = and_from _ _ refl (and_from _ _ ds.0 ms.0) in
    ap (λ (yes : Bool). if yes then Some (feed_columns dimensions measures no_members) else None) right
    ∙ ap₂ (λ (of_dimensions : List Column) (of_measures : List (List ℕ)). Some (record {
      id = None;
      op = None;
      nulls = null_text ∷ [];
      delimiter = 44;
      point = 46;
      dimensions = of_dimensions;
      measures = of_measures;
    })) ds.1 ms.1
