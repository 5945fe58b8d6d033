-- The facts that survive the feeds of fewer than 2 to the power 32 sources can be printed.
use Rattle.std.proofs.Common.{◌≡◌, ℕ, ◌<◌, ◌≤◌, ◌+◌, ◌*◌, ◌^◌, nat_lt, ltb-true, true, ℤ, pos, negsuc, List, [], ◌∷◌}
use Rattle.std.proofs.Common.{length, map, filter_map, drop, remove, if◌then◌else◌, Option, Some, None, Result, Ok, Err}
use Rattle.std.proofs.Common.{IfSome, IfOk, Contains, IsPermutation, FitsSigned, option_map, refl, sym, ap, ◌∙◌, subst}
use Rattle.std.proofs.Common.{inl, inr, arith, codes}
use Rattle.std.specs.Prelude.{◌==◌, ◌&&◌, not}
use Rattle.std.specs.Int.{w64}
use Rattle.std.specs.List.{AllByRecursion, AllZip, IsDistinct, list_all, list_any}
use Rattle.std.specs.Option.{option_map_or}
use Rattle.std.specs.Str.{bytes_eq, is_utf8}
use Rattle.std.specs.Str.Parse.{signed_digits_value}
use Rattle.std.proofs.lemmas.Bool.{cases_Bool, and_parts, and_from, eqb-true, eq-eqb}
use Rattle.std.proofs.lemmas.List.{length-append, length-map}
use Rattle.std.proofs.lemmas.List.Elements.{All-filter, All-from_recursion, recursion_from_All}
use Rattle.std.proofs.lemmas.List.Sorted.{IsPermutation-remove, Contains-permutation}
use Rattle.std.proofs.lemmas.Map.Keys.{IsDistinct-tail}
use Rattle.std.proofs.lemmas.Slice.Eq.{bytes_eq-Decides}
use Rattle.cube_core.specs.Amendment.{over, fields_over}
use Rattle.cube_core.specs.Items.{change_of, fact_of, fits_i64, insert_of, is_keep, is_measure, is_null, is_number}
use Rattle.cube_core.specs.Items.{keeps_any, measure_field_of, measure_fields, upsert_of}
use Rattle.cube_core.specs.FeedRecords.{WrongHeader, RestOfFeed, feed_records, found_columns, is_read, items_after}
use Rattle.cube_core.specs.FeedRecords.{FeedEnd, items_of, plain_of}
use Rattle.cube_core.specs.Items.{measure_of, number_of, unless_at_fault, update_of, width_of, field_at}
use Rattle.cube_core.specs.Layout.{Layout, IsSchema}
use Rattle.cube_core.specs.Life.{id_of, naming, is_delete, since_delete, updated, from_insert, life_of, taken_change}
use Rattle.cube_core.specs.Life.{changes_of}
use Rattle.cube_core.specs.Sources.{SurviveTogether, items_of_sources}
use Rattle.cube_core.specs.Surviving.{AreSurviving, Survive}
use Rattle.cube_core.specs.Takes.{fits, fits_part, is_dimension_value, is_id, may_amend, may_upsert, takes}
use Rattle.cube_core.specs.Takes.{puts_dimension_value}
use Rattle.cube_core.specs.declared.change.Change.{Change}
use Rattle.cube_core.specs.declared.change.Change.TheVariants.{Insert, Update, Amend, Upsert, Delete, Remove}
use Rattle.cube_core.specs.declared.change.Item.{Item}
use Rattle.cube_core.specs.declared.change.LineFault.{LineFault}
use Rattle.cube_core.specs.declared.fact.Fact.{Fact}
use Rattle.cube_core.specs.declared.feed_columns.FoundColumns.{FoundColumns}
use Rattle.cube_core.specs.declared.partial.Field.{Field}
use Rattle.cube_core.specs.declared.partial.Field.TheVariants.{Keep, Put}
use Rattle.cube_core.specs.declared.partial.Partial.{Partial}
use Rattle.cube_core.proofs.AmendmentLaws.{length-fields_over}
use Rattle.cube_core.proofs.ItemLaws.{IfOk-if, unless_id_at_fault-IfOk}
use Rattle.cube_core.proofs.ListLaws.{AllByRecursion-Contains, Contains-AllByRecursion, Contains-cases, Contains-head}
use Rattle.cube_core.proofs.ListLaws.{Contains-tail, list_any-Contains, map-Contains}
use Rattle.cube_laws.specs.Merging.{joined}
use Rattle.cube_laws.specs.Told.{CanBePrinted, HasSmallValues}
use Rattle.cube_laws.proofs.MergedLaws.{filter-none}
use Rattle.cube_merge.proofs.MergedLaws.{AllByRecursion-append}
use Rattle.cube_laws.proofs.RangeLaws.{AllByRecursion-cons_option, length-cons_option-le}
use Rattle.cube_core.proofs.ReorderedLaws.{IsPermutation-Reordered}
use Rattle.cube_laws.proofs.RowOrderLaws.{length-Reordered}
use Rattle.cube_laws.proofs.SurvivorLaws.{filter_map-map, head-once}

-- ---- amendments of facts that fit
-- a value of 64 bits, or null
abbrev IsSmall : Option ℤ → Type 0
IsSmall value = IfSome value (FitsSigned w64)

-- a field that keeps its value, or puts one of 64 bits
abbrev IsSmallField : Field (Option ℤ) → Type 0
IsSmallField Keep = Unit {0}
IsSmallField (Put value) = IsSmall value

-- a fact that fits and has such values
record IsFitFact (s : Layout) (fact : Fact) : Type 0 where
  fit : fits s fact ≡ true
  small : HasSmallValues fact

record IsFitPart (s : Layout) (part : Partial) : Type 0 where
  fit : fits_part s part ≡ true
  small : AllByRecursion IsSmallField part.measures

fields_over-small : (fields : List (Field (Option ℤ))) (olds : List (Option ℤ)) → AllByRecursion IsSmallField fields
    → AllByRecursion IsSmall olds → AllByRecursion IsSmall (fields_over fields olds)
fields_over-small [] olds puts small = tt
fields_over-small (field ∷ fields) [] puts small = tt
fields_over-small (Keep ∷ fields) (old ∷ olds) puts small = (small.0, fields_over-small fields olds puts.1 small.1)
fields_over-small (Put value ∷ fields) (old ∷ olds) puts small = (puts.0, fields_over-small fields olds puts.1 small.1)

fields_over-lawful : (fields : List (Field (Option (List ℕ)))) (olds : List (Option (List ℕ)))
    → list_all puts_dimension_value fields ≡ true → list_all is_dimension_value olds ≡ true
    → list_all is_dimension_value (fields_over fields olds) ≡ true
fields_over-lawful [] olds puts lawful = refl
fields_over-lawful (field ∷ fields) [] puts lawful = refl
fields_over-lawful (Keep ∷ fields) (old ∷ olds) puts lawful =
    let olds_are = and_parts (is_dimension_value old) (list_all is_dimension_value olds) lawful in
    and_from _ _ olds_are.0 (fields_over-lawful fields olds puts olds_are.1)
fields_over-lawful (Put value ∷ fields) (old ∷ olds) puts lawful =
    let puts_are = and_parts (is_dimension_value value) (list_all puts_dimension_value fields) puts in
    and_from _ _ puts_are.0 (fields_over-lawful fields olds puts_are.1
    (and_parts (is_dimension_value old) (list_all is_dimension_value olds) lawful).1)

IsFitFact-over : (s : Layout) (part : Partial) (fact : Fact) → IsFitPart s part → IsFitFact s fact
    → IsFitFact s (over part fact)
IsFitFact-over s part fact p f =
    let part_halves = and_parts _ _ p.fit in
    let fact_halves = and_parts _ _ f.fit in
    let part_lengths = and_parts _ _ part_halves.0 in
    let fact_lengths = and_parts _ _ fact_halves.0 in
    let part_dims : length part.dims ≡ length s.dimensions = eqb-true _ _ part_lengths.0 in
    let fact_dims : length fact.dims ≡ length s.dimensions = eqb-true _ _ fact_lengths.0 in
    let part_measures : length part.measures ≡ length s.measures = eqb-true _ _ part_lengths.1 in
    let fact_measures : length fact.measures ≡ length s.measures = eqb-true _ _ fact_lengths.1 in
    let dims : length (fields_over part.dims fact.dims) ≡ length s.dimensions =
    length-fields_over part.dims fact.dims (part_dims ∙ sym fact_dims) ∙ fact_dims in
    let measures : length (fields_over part.measures fact.measures) ≡ length s.measures
    = length-fields_over part.measures fact.measures (part_measures ∙ sym fact_measures) ∙ fact_measures in
    record {
      fit = and_from _ _ (and_from _ _ (eq-eqb _ _ dims) (eq-eqb _ _ measures))
          (fields_over-lawful part.dims fact.dims part_halves.1 fact_halves.1);
      small = fields_over-small part.measures fact.measures p.small f.small;
    }

-- ---- the life of an id
-- a change of facts that fit
abbrev IsFitChange : Layout → Change → Type 0
IsFitChange s (Insert id fact) = IsFitFact s fact
IsFitChange s (Update id fact) = IsFitFact s fact
IsFitChange s (Amend id part) = IsFitPart s part
IsFitChange s (Upsert id fact) = IsFitFact s fact
IsFitChange s (Delete id) = Unit {0}
IsFitChange s (Remove id) = Unit {0}

updated-fit : (s : Layout) (changes : List Change) (fact : Fact) → AllByRecursion (IsFitChange s) changes
    → IsFitFact s fact → IsFitFact s (updated fact changes)
updated-fit s [] fact all fit = fit
updated-fit s (Insert id other ∷ changes) fact all fit = updated-fit s changes fact all.1 fit
updated-fit s (Update id other ∷ changes) fact all fit = updated-fit s changes other all.1 all.0
updated-fit s (Amend id part ∷ changes) fact all fit =
    updated-fit s changes (over part fact) all.1 (IsFitFact-over s part fact all.0 fit)
updated-fit s (Upsert id other ∷ changes) fact all fit = updated-fit s changes other all.1 all.0
updated-fit s (Delete id ∷ changes) fact all fit = updated-fit s changes fact all.1 fit
updated-fit s (Remove id ∷ changes) fact all fit = updated-fit s changes fact all.1 fit

from_insert-fit : (s : Layout) (changes : List Change) → AllByRecursion (IsFitChange s) changes
    → IfSome (from_insert changes) (IsFitFact s)
from_insert-fit s [] all = tt
from_insert-fit s (Insert id fact ∷ changes) all = updated-fit s changes fact all.1 all.0
from_insert-fit s (Update id fact ∷ changes) all = from_insert-fit s changes all.1
from_insert-fit s (Amend id part ∷ changes) all = from_insert-fit s changes all.1
from_insert-fit s (Upsert id fact ∷ changes) all = updated-fit s changes fact all.1 all.0
from_insert-fit s (Delete id ∷ changes) all = from_insert-fit s changes all.1
from_insert-fit s (Remove id ∷ changes) all = from_insert-fit s changes all.1

since_delete-all : (P : Change → Type 0) (changes : List Change) → AllByRecursion P changes
    → AllByRecursion P (since_delete changes)
since_delete-all P [] all = tt
since_delete-all P (change ∷ changes) all = elim (cases_Bool (list_any is_delete (change ∷ changes))) [
  | inl some ↦ subst (λ b. AllByRecursion P (if b then since_delete changes else change ∷ changes)) (sym some)
      (since_delete-all P changes all.1)
  | inr none ↦ subst (λ b. AllByRecursion P (if b then since_delete changes else change ∷ changes)) (sym none) all
]

life_of-fit : (s : Layout) (id : List ℕ) (changes : List Change) → AllByRecursion (IsFitChange s) changes
    → IfSome (life_of id changes) (IsFitFact s)
life_of-fit s id changes all =
    from_insert-fit s (since_delete (naming id changes)) (since_delete-all (IsFitChange s) (naming id changes)
    (recursion_from_All (IsFitChange s) (naming id changes) (All-filter (λ change. bytes_eq id (id_of change))
    (IsFitChange s) changes (All-from_recursion (IsFitChange s) changes all))))

-- the survivors
filter_map-fit : (s : Layout) (changes : List Change) (ids : List (List ℕ)) → AllByRecursion (IsFitChange s) changes
    → AllByRecursion (IsFitFact s) (filter_map (λ id. life_of id changes) ids)
filter_map-fit s changes [] all = tt
filter_map-fit s changes (id ∷ ids) all =
    AllByRecursion-cons_option (IsFitFact s) (life_of id changes) (filter_map (λ other. life_of other changes) ids)
    (life_of-fit s id changes all) (filter_map-fit s changes ids all)

Survive-fit : (s : Layout) (changes : List Change) (facts : List Fact) → AllByRecursion (IsFitChange s) changes
    → Survive changes facts → AllByRecursion (IsFitFact s) facts
Survive-fit s changes facts all survive =
    subst (AllByRecursion (IsFitFact s))
    (sym (filter_map-map (λ id. life_of id changes) survive.ids facts survive.facts_are_theirs))
    (filter_map-fit s changes survive.ids all)

-- ---- how many survive
-- distinct ids that a list has are no more than the list
IsDistinct-length : (ids others : List (List ℕ)) → IsDistinct bytes_eq ids
    → ((id : List ℕ) → Contains ids id → Contains others id) → length ids ≤ length others
IsDistinct-length [] others distinct within = omega arith
IsDistinct-length (id ∷ ids) others distinct within =
    let found = within id (Contains-head id ids) in
    let left : List (List ℕ) = remove others found.0 in
    let moved : IsPermutation others (id ∷ left) = IsPermutation-remove others found.0 id found.1 (sym found.2) in
    let count : length others ≡ length (id ∷ left) =
    length-Reordered (IsPermutation-Reordered others (id ∷ left) moved) in
    let rest = IsDistinct-length ids left (IsDistinct-tail bytes_eq id ids distinct) (λ other among.
    elim (Contains-cases id left other
    (Contains-permutation others (id ∷ left) other moved (within other (Contains-tail id ids other among)))) [
      | inl same ↦ absurd (head-once id ids distinct (subst (Contains ids) (sym same) among))
      | inr after ↦ after
    ]) in
    omega (arith, count, rest)

-- an id that is present is named
life_of-named : (id : List ℕ) (changes : List Change) (fact : Fact) → life_of id changes ≡ Some fact
    → Contains (map id_of changes) id
life_of-named id changes fact present = elim (cases_Bool (list_any (λ change. bytes_eq id (id_of change)) changes)) [
  | inl named ↦
      let found = list_any-Contains (λ change. bytes_eq id (id_of change)) changes named in
      subst (Contains (map id_of changes)) (sym ((bytes_eq-Decides id (id_of found.0)).0 found.2))
      (map-Contains id_of changes found.0 found.1)
  | inr none ↦
      let absent : from_insert (since_delete (naming id changes)) ≡ None =
      ap (λ named. from_insert (since_delete named))
      (filter-none (λ change. bytes_eq id (id_of change)) changes none) in
      let clash : None ≡ Some fact = sym absent ∙ present in
      absurd (cc clash)
]

-- the ids of survivors are present
ids-present : (life : List ℕ → Option Fact) (ids : List (List ℕ)) (facts : List Fact) → map Some facts ≡ map life ids
    → (id : List ℕ) → Contains ids id → (fact : Fact) × (life id ≡ Some fact)
ids-present life [] facts same id among = absurd (omega (arith, among.1))
ids-present life (first ∷ ids) [] same id among = cc same
ids-present life (first ∷ ids) (fact ∷ facts) same id among =
    let here : Some fact ≡ life first = cc same in
    let after : map Some facts ≡ map life ids = cc same in
    elim (Contains-cases first ids id among) [
      | inl head ↦ (fact, ap life (sym head) ∙ sym here)
      | inr rest ↦ ids-present life ids facts after id rest
    ]

Survive-length : (changes : List Change) (facts : List Fact) → Survive changes facts → length facts ≤ length changes
Survive-length changes facts survive =
    let many : length survive.ids ≤ length (map id_of changes) =
    IsDistinct-length survive.ids (map id_of changes) survive.each_once (λ id among.
    let present = ids-present (λ other. life_of other changes) survive.ids facts survive.facts_are_theirs id among in
    life_of-named id changes present.0 present.1) in
    let as_many : length facts ≡ length survive.ids
    = sym (length-map facts Some) ∙ ap length survive.facts_are_theirs
    ∙ length-map survive.ids (λ id. life_of id changes) in
    omega (arith, many, as_many, length-map changes id_of)

-- ---- the changes of a feed
-- a number that a text spells has 64 bits
fits_i64-FitsSigned : (z : ℤ) → fits_i64 z ≡ true → FitsSigned w64 z
fits_i64-FitsSigned (pos n) fit = let below : n < 2 ^ 63 = ltb-true n (2 ^ 63) fit in omega arith
fits_i64-FitsSigned (negsuc n) fit = let below : n < 2 ^ 63 = ltb-true n (2 ^ 63) fit in omega arith

number_of-small : (text : List ℕ) → IfSome (number_of text) (FitsSigned w64)
number_of-small text = elim (cases_Bool (is_number text)) [
  | inl number ↦
      subst (λ b. IfSome (if b then Some (signed_digits_value 10 text) else None) (FitsSigned w64)) (sym number)
      (fits_i64-FitsSigned (signed_digits_value 10 text) (and_parts _ _ number).1)
  | inr none ↦
      subst (λ b. IfSome (if b then Some (signed_digits_value 10 text) else None) (FitsSigned w64)) (sym none) tt
]

option_map-Some : (found : Option ℤ) → IfSome found (FitsSigned w64) → IfSome (option_map Some found) IsSmall
option_map-Some None small = tt
option_map-Some (Some z) small = small

measure_of-small : (field : List ℕ) → IfSome (measure_of field) IsSmall
measure_of-small field = elim (cases_Bool (is_null field)) [
  | inl null ↦ subst (λ b. IfSome (if b then Some None else option_map Some (number_of field)) IsSmall) (sym null) tt
  | inr some ↦ subst (λ b. IfSome (if b then Some None else option_map Some (number_of field)) IsSmall) (sym some)
      (option_map-Some (number_of field) (number_of-small field))
]

option_map-Put : (found : Option (Option ℤ)) → IfSome found IsSmall → IfSome (option_map Put found) IsSmallField
option_map-Put None small = tt
option_map-Put (Some value) small = small

measure_field_of-small : (s : Layout) (field : List ℕ) → IfSome (measure_field_of s field) IsSmallField
measure_field_of-small s field = elim (cases_Bool (is_keep s field)) [
  | inl keeps ↦
      subst (λ b. IfSome (if b then Some Keep else option_map Put (measure_of field)) IsSmallField) (sym keeps) tt
  | inr puts ↦ subst (λ b. IfSome (if b then Some Keep else option_map Put (measure_of field)) IsSmallField) (sym puts)
      (option_map-Put (measure_of field) (measure_of-small field))
]

filter_map-all : {X Y : Type 0} (P : Y → Type 0) (f : X → Option Y) (xs : List X) → ((x : X) → IfSome (f x) P)
    → AllByRecursion P (filter_map f xs)
filter_map-all P f [] each = tt
filter_map-all P f (x ∷ xs) each =
    AllByRecursion-cons_option P (f x) (filter_map f xs) (each x) (filter_map-all P f xs each)

-- a change whose values have 64 bits
abbrev IsSmallChange : Change → Type 0
IsSmallChange (Insert id fact) = HasSmallValues fact
IsSmallChange (Update id fact) = HasSmallValues fact
IsSmallChange (Amend id part) = AllByRecursion IsSmallField part.measures
IsSmallChange (Upsert id fact) = HasSmallValues fact
IsSmallChange (Delete id) = Unit {0}
IsSmallChange (Remove id) = Unit {0}

fact_of-small : (s : Layout) (fields : List (List ℕ)) → HasSmallValues (fact_of s fields)
fact_of-small s fields = filter_map-all IsSmall measure_of (measure_fields s fields) measure_of-small

unless_at_fault-small : (s : Layout) (fields : List (List ℕ)) (change : Result Change LineFault)
    → IfOk change IsSmallChange
    → IfOk (unless_at_fault change s fields) IsSmallChange
unless_at_fault-small s fields change small =
    IfOk-if IsSmallChange (not (length fields == width_of s)) _ _ (λ wrong. tt) (λ right.
    IfOk-if IsSmallChange (not (list_all is_utf8 (drop 1 fields))) _ _ (λ bad. tt) (λ texts.
    IfOk-if IsSmallChange (length (field_at fields 1) == 0) _ _ (λ empty. tt) (λ named.
    IfOk-if IsSmallChange (not (list_all (is_measure s) (measure_fields s fields))) _ _ (λ bad. tt) (λ lawful. small))))

change_of-small : (s : Layout) (fields : List (List ℕ)) → IfOk (change_of s fields) IsSmallChange
change_of-small s fields =
    IfOk-if IsSmallChange (bytes_eq (field_at fields 0) (codes "I")) _ _
    (λ letter. unless_at_fault-small s fields (insert_of s fields)
    (IfOk-if IsSmallChange (keeps_any s fields) _ _ (λ keeps. tt) (λ none. fact_of-small s fields)))
    (λ other. IfOk-if IsSmallChange (bytes_eq (field_at fields 0) (codes "U")) _ _
    (λ letter. unless_at_fault-small s fields (update_of s fields)
    (IfOk-if IsSmallChange (keeps_any s fields) _ _
    (λ keeps. filter_map-all IsSmallField (measure_field_of s) (measure_fields s fields) (measure_field_of-small s))
    (λ none. fact_of-small s fields)))
    (λ neither. IfOk-if IsSmallChange (bytes_eq (field_at fields 0) (codes "D")) _ _
    (λ letter. unless_id_at_fault-IfOk IsSmallChange s fields (Delete (field_at fields 1)) (λ named. tt))
    (λ not_delete. IfOk-if IsSmallChange (may_upsert s && bytes_eq (field_at fields 0) (codes "P")) _ _
    (λ letter. unless_at_fault-small s fields (upsert_of s fields)
    (IfOk-if IsSmallChange (keeps_any s fields) _ _ (λ keeps. tt) (λ none. fact_of-small s fields)))
    (λ not_upsert. IfOk-if IsSmallChange (may_upsert s && bytes_eq (field_at fields 0) (codes "R")) _ _
    (λ letter. unless_id_at_fault-IfOk IsSmallChange s fields (Remove (field_at fields 1)) (λ named. tt))
    (λ none. tt)))))

-- an item of a feed
abbrev IsSmallItem : Item → Type 0
IsSmallItem item = IfOk item.what IsSmallChange

items_after-small : (s : Layout) (columns : FoundColumns) (number : ℕ) (records : List (List (List ℕ)))
    → AllByRecursion IsSmallItem (items_after s columns number records).items
items_after-small s columns number [] = tt
items_after-small s columns number (fields ∷ records) =
    let plain : List (List ℕ) = plain_of s columns (number + 1) fields in
    elim (cases_Bool (nat_lt number s.max_records)) [
      | inl within ↦ elim (cases_Bool (is_read s plain)) [
        | inl read ↦ rw (within, read) (change_of-small s plain, items_after-small s columns (number + 1) records)
        | inr other ↦ rw (within, other) (items_after-small s columns (number + 1) records)
      ]
      | inr past ↦ rw past tt
    ]

items_after-length : (s : Layout) (columns : FoundColumns) (number : ℕ) (records : List (List (List ℕ)))
    → number ≤ s.max_records
    → number + length (items_after s columns number records).items ≤ s.max_records
items_after-length s columns number [] within = omega arith
items_after-length s columns number (fields ∷ records) within =
    let plain : List (List ℕ) = plain_of s columns (number + 1) fields in
    elim (cases_Bool (nat_lt number s.max_records)) [
      | inl below ↦
          let after =
          items_after-length s columns (number + 1) records (omega (arith, ltb-true number s.max_records below)) in
          elim (cases_Bool (is_read s plain)) [
            | inl read ↦ rw (below, read) (omega (arith, after))
            | inr other ↦ rw (below, other) (omega (arith, after))
          ]
      | inr past ↦ rw past (omega arith)
    ]

items_of-small : (s : Layout) (records : List (List (List ℕ))) → AllByRecursion IsSmallItem (items_of s records).items
items_of-small s [] = tt
items_of-small s (header ∷ records) = by (found_columns s header)
  where
    by : (found : Option FoundColumns) → AllByRecursion IsSmallItem
        (option_map_or (λ (columns : FoundColumns). items_after s columns 0 records) found
        (let wrong : RestOfFeed FeedEnd = record { items = []; end = WrongHeader } in wrong)).items
    by None = tt
    by (Some columns) = items_after-small s columns 0 records

items_of-length : (s : Layout) (records : List (List (List ℕ))) → length (items_of s records).items ≤ s.max_records
items_of-length s [] = omega arith
items_of-length s (header ∷ records) = by (found_columns s header)
  where
    by : (found : Option FoundColumns)
        → length (option_map_or (λ (columns : FoundColumns). items_after s columns 0 records) found
        (let wrong : RestOfFeed FeedEnd = record { items = []; end = WrongHeader } in wrong)).items ≤ s.max_records
    by None = omega arith
    by (Some columns) = omega (arith, items_after-length s columns 0 records (omega arith))

-- a change that is taken fits
takes-fit : (s : Layout) (change : Change) → takes s change ≡ true → IsSmallChange change → IsFitChange s change
takes-fit s (Insert id fact) taken small = record { fit = (and_parts (is_id id) (fits s fact) taken).1; small = small }
takes-fit s (Update id fact) taken small = record { fit = (and_parts (is_id id) (fits s fact) taken).1; small = small }
takes-fit s (Amend id part) taken small =
    record { fit = (and_parts (may_amend s && is_id id) (fits_part s part) taken).1; small = small }
takes-fit s (Upsert id fact) taken small =
    record { fit = (and_parts (may_upsert s && is_id id) (fits s fact) taken).1; small = small }
takes-fit s (Delete id) taken small = tt
takes-fit s (Remove id) taken small = tt

taken_change-fit : (s : Layout) (what : Result Change LineFault) → IfOk what IsSmallChange
    → IfSome (taken_change s what) (IsFitChange s)
taken_change-fit s (Ok change) small = elim (cases_Bool (takes s change)) [
  | inl taken ↦
      subst (λ b. IfSome (if b then Some change else None) (IsFitChange s)) (sym taken) (takes-fit s change taken small)
  | inr left ↦ subst (λ b. IfSome (if b then Some change else None) (IsFitChange s)) (sym left) tt
]
taken_change-fit s (Err fault) small = tt

changes_of-fit : (s : Layout) (items : List Item) → AllByRecursion IsSmallItem items
    → AllByRecursion (IsFitChange s) (changes_of s items)
changes_of-fit s [] small = tt
changes_of-fit s (item ∷ items) small =
    AllByRecursion-cons_option (IsFitChange s) (taken_change s item.what) (changes_of s items)
    (taken_change-fit s item.what small.0) (changes_of-fit s items small.1)

changes_of-length : (s : Layout) (items : List Item) → length (changes_of s items) ≤ length items
changes_of-length s [] = omega arith
changes_of-length s (item ∷ items) =
    omega (arith, length-cons_option-le (taken_change s item.what) (changes_of s items), changes_of-length s items)

-- ---- the survivors of feeds
AreSurviving-fit : (s : Layout) (bytes : List ℕ) (facts : List Fact)
    → AreSurviving s (items_of s (feed_records s bytes)).items facts → AllByRecursion (IsFitFact s) facts
AreSurviving-fit s bytes facts survive =
    Survive-fit s (changes_of s (items_of s (feed_records s bytes)).items) facts
    (changes_of-fit s (items_of s (feed_records s bytes)).items (items_of-small s (feed_records s bytes))) survive

AreSurviving-length : (s : Layout) (bytes : List ℕ) (facts : List Fact)
    → AreSurviving s (items_of s (feed_records s bytes)).items facts → length facts ≤ s.max_records
AreSurviving-length s bytes facts survive =
    let items = (items_of s (feed_records s bytes)).items in
    omega (
      arith,
      Survive-length (changes_of s items) facts survive,
      changes_of-length s items,
      items_of-length s (feed_records s bytes),
    )

joined-fit : (s : Layout) (sources : List (List ℕ)) (parts : List (List Fact))
    → AllZip (AreSurviving s) (items_of_sources s sources) parts → AllByRecursion (IsFitFact s) (joined parts)
joined-fit s [] [] all = tt
joined-fit s [] (part ∷ parts) all = absurd all
joined-fit s (bytes ∷ sources) [] all = absurd all
joined-fit s (bytes ∷ sources) (part ∷ parts) all =
    AllByRecursion-append (IsFitFact s) part (joined parts) (AreSurviving-fit s bytes part all.0)
    (joined-fit s sources parts all.1)

joined-length : (s : Layout) (sources : List (List ℕ)) (parts : List (List Fact)) → s.max_records ≤ 2 ^ 32
    → AllZip (AreSurviving s) (items_of_sources s sources) parts
    → length (joined parts) ≤ length sources * 2 ^ 32
joined-length s [] [] limit all = omega arith
joined-length s [] (part ∷ parts) limit all = absurd all
joined-length s (bytes ∷ sources) [] limit all = absurd all
joined-length s (bytes ∷ sources) (part ∷ parts) limit all =
    let first = AreSurviving-length s bytes part all.0 in
    let rest = joined-length s sources parts limit all.1 in
    let both = length-append part (joined parts) in
    omega (arith, first, rest, both, limit)

-- facts that fit, one by one
list_all-fit : (s : Layout) (facts : List Fact) → AllByRecursion (IsFitFact s) facts → list_all (fits s) facts ≡ true
list_all-fit s [] all = refl
list_all-fit s (fact ∷ facts) all = and_from _ _ all.0.fit (list_all-fit s facts all.1)

-- what survives the feeds of fewer than 2 to the power 32 sources can be printed
pub SurviveTogether-CanBePrinted : (s : Layout) (sources : List (List ℕ)) → IsSchema s → length sources < 2 ^ 32
    → (facts : List Fact) → SurviveTogether s (items_of_sources s sources) facts
    → CanBePrinted s facts
SurviveTogether-CanBePrinted s sources schema few facts survive =
    subst (CanBePrinted s) (sym survive.joined)
    (let fit = joined-fit s sources survive.parts survive.of_each in
    let count = joined-length s sources survive.parts (omega (arith, schema.records_at_most)) survive.of_each in
    record {
      fit = list_all-fit s (joined survive.parts) fit;
      countable = record {
        few = omega (arith, count, few);
        small = Contains-AllByRecursion HasSmallValues (joined survive.parts)
            (λ fact among. (AllByRecursion-Contains (IsFitFact s) (joined survive.parts) fact fit among).small);
      };
    })
