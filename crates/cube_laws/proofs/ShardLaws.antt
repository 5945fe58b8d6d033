-- The shards of a feed: which items, changes, refusals and survivors each has.
use Rattle.std.proofs.Common.{◌≡◌, ℕ, zero, suc, ◌+◌, ◌<◌, ◌≤◌, nat_lt, Bool, true, false, not, List, [], ◌∷◌, ◌++◌}
use Rattle.std.proofs.Common.{length, map, filter, filter_map, drop, get_or, if◌then◌else◌, Option, Some, None, IsSome}
use Rattle.std.proofs.Common.{IfSome, Result, Ok, Err, IfOk, Contains, option_map, ◌≢◌, refl, sym, ap, ◌∙◌, subst, inl}
use Rattle.std.proofs.Common.{inr, arith, append_assoc, length-append, codes}
use Rattle.std.specs.Prelude.{◌==◌, ◌&&◌, ◌%◌, is_some}
use Rattle.std.specs.Option.{option_map_or, option_to_list}
use Rattle.std.specs.List.{AllByRecursion, AllZip, IsDistinct, list_all, cons_option, range_with_len}
use Rattle.std.specs.Str.{bytes_eq, is_utf8}
use Rattle.std.proofs.lemmas.Bool.{cases_Bool, eqb-true, eq-eqb, false≢true}
use Rattle.std.proofs.lemmas.List.{append-nil, map-append}
use Rattle.std.proofs.lemmas.List.Elements.{Contains-append_left, Contains-append_right, Contains-append_cases}
use Rattle.std.proofs.lemmas.List.Elements.{filter-append}
use Rattle.std.proofs.lemmas.Nat.{mod_below}
use Rattle.std.proofs.lemmas.Map.Keys.{IsDistinct-head, IsDistinct-tail, IsDistinct-cons, IsDistinct-from_apart}
use Rattle.std.proofs.lemmas.Slice.Eq.{bytes_eq-Decides}
use Rattle.cube_core.specs.FeedRecords.{RestOfFeed, FeedEnd, Good, TooManyRecords, WrongHeader, item_then}
use Rattle.cube_core.specs.FeedRecords.{found_columns, is_read, items_after, items_of, plain_of}
use Rattle.cube_core.specs.Items.{change_of, field_at, insert_of, is_measure, keeps_any, measure_fields}
use Rattle.cube_core.specs.Items.{unless_at_fault, update_of, upsert_of, width_of}
use Rattle.cube_core.specs.declared.change.Change.TheVariants.{Delete, Remove}
use Rattle.cube_core.specs.Layout.{Layout}
use Rattle.cube_core.specs.Life.{changes_of, from_insert, id_of, life_of, since_delete, taken_change}
use Rattle.cube_core.specs.Refusals.{code_by_presence, code_of, refusal_of, refusals_of, shape_code}
use Rattle.cube_core.specs.Shard.{fnv_hash, is_in_shard, shard_of, whole_feed}
use Rattle.cube_core.specs.Surviving.{AreSurviving, Survive}
use Rattle.cube_core.specs.Takes.{takes, may_upsert}
use Rattle.cube_core.specs.declared.change.Change.{Change}
use Rattle.cube_core.specs.declared.change.Item.{Item}
use Rattle.cube_core.specs.declared.change.LineFault.{LineFault}
use Rattle.cube_core.specs.declared.change.Refusal.{Refusal}
use Rattle.cube_core.specs.declared.fact.Fact.{Fact}
use Rattle.cube_core.specs.declared.feed_columns.FoundColumns.{FoundColumns}
use Rattle.cube_core.specs.declared.feed_columns.FoundColumns.TheVariants.{InOrder, ByName}
use Rattle.cube_core.proofs.ItemLaws.{IfOk-if, unless_id_at_fault-IfOk}
use Rattle.cube_core.proofs.ListLaws.{AllByRecursion-Contains, Contains-AllByRecursion, Contains-head, Contains-nil}
use Rattle.cube_core.proofs.ListLaws.{Contains-tail, filter-failed, filter-passed}
use Rattle.cube_core.proofs.RefusalLaws.{refusals_of-more}
use Rattle.cube_laws.specs.Merging.{joined}
use Rattle.cube_laws.specs.Shards.{has_record, is_record_read, of_shard, places}
use Rattle.cube_merge.proofs.MergedLaws.{AllByRecursion-append}

-- ---- lists
-- what stands right after the front
get_or-seam : (done rest : List (List (List ℕ))) (fields : List (List ℕ))
    → get_or (done ++ fields ∷ rest) (length done) [] ≡ fields
get_or-seam [] rest fields = refl
get_or-seam (first ∷ done) rest fields = get_or-seam done rest fields

-- a filter that keeps what another keeps
filter-within : {X : Type 0} (p q : X → Bool) (xs : List X) → ((x : X) → p x ≡ true → q x ≡ true)
    → filter p (filter q xs) ≡ filter p xs
filter-within p q [] within = refl
filter-within p q (x ∷ xs) within = elim (cases_Bool (q x)) [
  | inl kept ↦ elim (cases_Bool (p x)) [
    | inl passes ↦
        ap (filter p) (filter-passed q x xs kept) ∙ filter-passed p x (filter q xs) passes
        ∙ ap (λ ys. x ∷ ys) (filter-within p q xs within) ∙ sym (filter-passed p x xs passes)
    | inr fails ↦
        ap (filter p) (filter-passed q x xs kept) ∙ filter-failed p x (filter q xs) fails
        ∙ filter-within p q xs within ∙ sym (filter-failed p x xs fails)
  ]
  | inr left_out ↦ elim (cases_Bool (p x)) [
    | inl passes ↦ absurd (false≢true (sym left_out ∙ within x passes))
    | inr fails ↦
        ap (filter p) (filter-failed q x xs left_out) ∙ filter-within p q xs within ∙ sym (filter-failed p x xs fails)
  ]
]

-- a filter of what another leaves out
filter-apart : {X : Type 0} (p q : X → Bool) (xs : List X) → ((x : X) → p x ≡ true → q x ≡ false)
    → filter p (filter q xs) ≡ []
filter-apart p q [] apart = refl
filter-apart p q (x ∷ xs) apart = elim (cases_Bool (q x)) [
  | inl kept ↦ elim (cases_Bool (p x)) [
    | inl passes ↦ absurd (false≢true (sym (apart x passes) ∙ kept))
    | inr fails ↦
        ap (filter p) (filter-passed q x xs kept) ∙ filter-failed p x (filter q xs) fails ∙ filter-apart p q xs apart
  ]
  | inr left_out ↦ ap (filter p) (filter-failed q x xs left_out) ∙ filter-apart p q xs apart
]

-- what is given of filtered items is what is given of them all, filtered alike
filter_map-filter : {X Y : Type 0} (f : X → Option Y) (p : X → Bool) (q : Y → Bool) (xs : List X)
    → AllByRecursion (λ x. IfSome (f x) (λ y. q y ≡ p x)) xs → filter_map f (filter p xs) ≡ filter q (filter_map f xs)
filter_map-filter f p q [] alike = refl
filter_map-filter {Y = Y} f p q (x ∷ xs) alike = elim (cases_Bool (p x)) [
  | inl kept ↦
      ap (filter_map f) (filter-passed p x xs kept)
      ∙ ap (cons_option (f x)) (filter_map-filter f p q xs alike.1)
      ∙ kept-step (f x) (filter_map f xs) kept alike.0
  | inr left_out ↦
      ap (filter_map f) (filter-failed p x xs left_out)
      ∙ filter_map-filter f p q xs alike.1
      ∙ left_out-step (f x) (filter_map f xs) left_out alike.0
]
  where
    kept-step : (given : Option Y) (ys : List Y) → p x ≡ true → IfSome given (λ y. q y ≡ p x)
        → cons_option given (filter q ys) ≡ filter q (cons_option given ys)
    kept-step None ys kept same = refl
    kept-step (Some y) ys kept same = sym (filter-passed q y ys (same ∙ kept))

    left_out-step : (given : Option Y) (ys : List Y) → p x ≡ false → IfSome given (λ y. q y ≡ p x)
        → filter q ys ≡ filter q (cons_option given ys)
    left_out-step None ys left_out same = refl
    left_out-step (Some y) ys left_out same = sym (filter-failed q y ys (same ∙ left_out))

-- ids of two lists, where none of the one is equal to one of the other
IsDistinct-append : (ids others : List (List ℕ)) → IsDistinct bytes_eq ids → IsDistinct bytes_eq others
    → ((id other : List ℕ) → Contains ids id → Contains others other → bytes_eq id other ≡ false)
    → IsDistinct bytes_eq (ids ++ others)
IsDistinct-append [] others left right apart = right
IsDistinct-append (id ∷ ids) others left right apart =
    IsDistinct-cons bytes_eq id (ids ++ others)
    (AllByRecursion-append (λ other. bytes_eq id other ≡ false) ids others (IsDistinct-head bytes_eq id ids left)
    (Contains-AllByRecursion (λ other. bytes_eq id other ≡ false) others
    (λ other among. apart id other (Contains-head id ids) among)))
    (IsDistinct-append ids others (IsDistinct-tail bytes_eq id ids left) right
    (λ first other here there. apart first other (Contains-tail id ids first here) there))

-- ---- the change of a record names the record's id
-- a change names the id of this record
abbrev Names : List (List ℕ) → Change → Type 0
Names fields change = id_of change ≡ field_at fields 1

unless_at_fault-Names : (s : Layout) (fields : List (List ℕ)) (change : Result Change LineFault)
    → IfOk change (Names fields)
    → IfOk (unless_at_fault change s fields) (Names fields)
unless_at_fault-Names s fields change names =
    IfOk-if (Names fields) (not (length fields == width_of s)) _ _ (λ wrong. tt) (λ right.
    IfOk-if (Names fields) (not (list_all is_utf8 (drop 1 fields))) _ _ (λ bad. tt) (λ texts.
    IfOk-if (Names fields) (length (field_at fields 1) == 0) _ _ (λ empty. tt) (λ named.
    IfOk-if (Names fields) (not (list_all (is_measure s) (measure_fields s fields))) _ _ (λ bad. tt)
    (λ lawful. names))))

change_of-Names : (s : Layout) (fields : List (List ℕ)) → IfOk (change_of s fields) (Names fields)
change_of-Names s fields =
    IfOk-if (Names fields) (bytes_eq (field_at fields 0) (codes "I")) _ _
    (λ letter. unless_at_fault-Names s fields (insert_of s fields)
    (IfOk-if (Names fields) (keeps_any s fields) _ _ (λ keeps. tt) (λ none. refl)))
    (λ other. IfOk-if (Names fields) (bytes_eq (field_at fields 0) (codes "U")) _ _
    (λ letter. unless_at_fault-Names s fields (update_of s fields)
    (IfOk-if (Names fields) (keeps_any s fields) _ _ (λ keeps. refl) (λ none. refl)))
    (λ neither. IfOk-if (Names fields) (bytes_eq (field_at fields 0) (codes "D")) _ _
    (λ letter. unless_id_at_fault-IfOk (Names fields) s fields (Delete (field_at fields 1)) (λ named. refl))
    (λ not_delete. IfOk-if (Names fields) (may_upsert s && bytes_eq (field_at fields 0) (codes "P")) _ _
    (λ letter. unless_at_fault-Names s fields (upsert_of s fields)
    (IfOk-if (Names fields) (keeps_any s fields) _ _ (λ keeps. tt) (λ none. refl)))
    (λ not_upsert. IfOk-if (Names fields) (may_upsert s && bytes_eq (field_at fields 0) (codes "R")) _ _
    (λ letter. unless_id_at_fault-IfOk (Names fields) s fields (Remove (field_at fields 1)) (λ named. refl))
    (λ none. tt)))))

-- ---- the life of an id in the changes of a shard
-- whether a change is of this shard among so many
abbrev is_of : ℕ → ℕ → Change → Bool
is_of count place change = shard_of count (id_of change) == place

same_id : (id : List ℕ) (change : Change) → bytes_eq id (id_of change) ≡ true → id ≡ id_of change
same_id id change same = (bytes_eq-Decides id (id_of change)).0 same

life_of-inside : (count place : ℕ) (id : List ℕ) (changes : List Change) → (shard_of count id == place) ≡ true
    → life_of id (filter (is_of count place) changes) ≡ life_of id changes
life_of-inside count place id changes inside =
    ap (λ named. from_insert (since_delete named))
    (filter-within (λ (change : Change). bytes_eq id (id_of change)) (is_of count place) changes
    (λ change same. ap (λ other. shard_of count other == place) (sym (same_id id change same)) ∙ inside))

life_of-outside : (count place : ℕ) (id : List ℕ) (changes : List Change) → (shard_of count id == place) ≡ false
    → life_of id (filter (is_of count place) changes) ≡ None
life_of-outside count place id changes outside =
    ap (λ named. from_insert (since_delete named))
    (filter-apart (λ (change : Change). bytes_eq id (id_of change)) (is_of count place) changes
    (λ change same. ap (λ other. shard_of count other == place) (sym (same_id id change same)) ∙ outside))

-- ---- the items of a shard
-- the whole feed has each record
mod-one : (n : ℕ) → (n % 1 == 0) ≡ true
mod-one n = eq-eqb (n % 1) 0 (omega arith)

is_read-whole : (s : Layout) (fields : List (List ℕ)) → s.shard ≡ whole_feed → is_read s fields ≡ true
is_read-whole s fields whole =
    ap (λ shard. is_in_shard shard (field_at fields 1)) whole ∙ mod-one (fnv_hash (field_at fields 1))

-- an item says what the record of its number spells
abbrev Says : Layout → FoundColumns → List (List (List ℕ)) → Item → Type 0
Says s columns records item = item.what ≡ change_of s (plain_of s columns item.number (get_or records item.number []))

-- the item of a record
abbrev item_at : Layout → FoundColumns → ℕ → List (List ℕ) → Item
item_at s columns number fields =
    record { number = number + 1; what = change_of s (plain_of s columns (number + 1) fields) }

abbrev no_more : RestOfFeed FeedEnd
no_more = record { items = []; end = TooManyRecords }

abbrev wrong_header : RestOfFeed FeedEnd
wrong_header = record { items = []; end = WrongHeader }

-- a record is plain in a shard as it is in the feed
plain_of-part : (s : Layout) (count place : ℕ) (columns : FoundColumns) (number : ℕ) (fields : List (List ℕ))
    → plain_of (of_shard count s place) columns number fields ≡ plain_of s columns number fields
plain_of-part s count place InOrder number fields = refl
plain_of-part s count place (ByName places) number fields = refl

module _ (s : Layout) (count place : ℕ) (columns : FoundColumns) where
  abbrev part : Layout
  part = of_shard count s place

  -- whether the record of an item is in the shard
  abbrev is_of_part : List (List (List ℕ)) → Item → Bool
  is_of_part records item = is_record_read part columns records item.number

  -- a record of the feed in its bounds gives an item, and one of the shard too where it is in it
  items_after-whole : (number : ℕ) (fields : List (List ℕ)) (records : List (List (List ℕ))) → s.shard ≡ whole_feed
      → nat_lt number s.max_records ≡ true
      → items_after s columns number (fields ∷ records)
      ≡ item_then (item_at s columns number fields) (items_after s columns (number + 1) records)
  items_after-whole number fields records whole within =
      ap (λ b. if b then (if is_read s (plain_of s columns (number + 1) fields)
      then item_then (item_at s columns number fields) (items_after s columns (number + 1) records)
      else items_after s columns (number + 1) records) else no_more) within
      ∙ ap (λ b. if b then item_then (item_at s columns number fields) (items_after s columns (number + 1) records)
      else items_after s columns (number + 1) records) (is_read-whole s (plain_of s columns (number + 1) fields) whole)

  items_after-inside : (number : ℕ) (fields : List (List ℕ)) (records : List (List (List ℕ)))
      → nat_lt number s.max_records ≡ true → is_read part (plain_of part columns (number + 1) fields) ≡ true
      → items_after part columns number (fields ∷ records)
      ≡ item_then (item_at s columns number fields) (items_after part columns (number + 1) records)
  items_after-inside number fields records within read =
      ap (λ b. if b then (if is_read part (plain_of part columns (number + 1) fields)
      then item_then (item_at part columns number fields) (items_after part columns (number + 1) records)
      else items_after part columns (number + 1) records) else no_more) within
      ∙ ap (λ b. if b
      then item_then (item_at part columns number fields) (items_after part columns (number + 1) records)
      else items_after part columns (number + 1) records) read
      ∙ ap (λ plain. let item : Item = record { number = number + 1; what = change_of s plain } in
      item_then item (items_after part columns (number + 1) records))
      (plain_of-part s count place columns (number + 1) fields)

  items_after-outside : (number : ℕ) (fields : List (List ℕ)) (records : List (List (List ℕ)))
      → nat_lt number s.max_records ≡ true → is_read part (plain_of part columns (number + 1) fields) ≡ false
      → items_after part columns number (fields ∷ records) ≡ items_after part columns (number + 1) records
  items_after-outside number fields records within other =
      ap (λ b. if b then (if is_read part (plain_of part columns (number + 1) fields)
      then item_then (item_at part columns number fields) (items_after part columns (number + 1) records)
      else items_after part columns (number + 1) records) else no_more) within
      ∙ ap (λ b. if b
      then item_then (item_at part columns number fields) (items_after part columns (number + 1) records)
      else items_after part columns (number + 1) records) other

  items_after-past : (t : Layout) (number : ℕ) (fields : List (List ℕ)) (records : List (List (List ℕ)))
      → nat_lt number t.max_records ≡ false
      → items_after t columns number (fields ∷ records) ≡ no_more
  items_after-past t number fields records past =
      ap (λ b. if b then (if is_read t (plain_of t columns (number + 1) fields)
      then item_then (item_at t columns number fields) (items_after t columns (number + 1) records)
      else items_after t columns (number + 1) records) else no_more) past

  -- the record that follows those done
  record-seam : (done records : List (List (List ℕ))) (fields : List (List ℕ)) (number : ℕ) → length done ≡ number + 1
      → get_or (done ++ fields ∷ records) (number + 1) [] ≡ fields
  record-seam done records fields number as_many =
      ap (λ n. get_or (done ++ fields ∷ records) n []) (sym as_many) ∙ get_or-seam done records fields

  one-more : (done : List (List (List ℕ))) (fields : List (List ℕ)) (number : ℕ) → length done ≡ number + 1
      → length (done ++ fields ∷ []) ≡ number + 1 + 1
  one-more done fields number as_many = length-append done (fields ∷ []) ∙ ap (λ n. n + 1) as_many

  items_after-part : s.shard ≡ whole_feed → (done records : List (List (List ℕ))) (number : ℕ)
      → length done ≡ number + 1
      → (items_after part columns number records).items
      ≡ filter (is_of_part (done ++ records)) (items_after s columns number records).items
  items_after-part whole done [] number as_many = refl
  items_after-part whole done (fields ∷ records) number as_many =
      let all : List (List (List ℕ)) = done ++ fields ∷ records in
      let after : (items_after part columns (number + 1) records).items
      ≡ filter (is_of_part all) (items_after s columns (number + 1) records).items
      = subst (λ (rs : List (List (List ℕ))).
      (items_after part columns (number + 1) records).items
      ≡ filter (is_of_part rs) (items_after s columns (number + 1) records).items)
      (append_assoc done (fields ∷ []) records)
      (items_after-part whole (done ++ fields ∷ []) records (number + 1) (one-more done fields number as_many)) in
      let here : is_of_part all (item_at s columns number fields)
      ≡ is_read part (plain_of part columns (number + 1) fields) =
      ap (λ found. is_read part (plain_of part columns (number + 1) found))
      (record-seam done records fields number as_many) in
      elim (cases_Bool (nat_lt number s.max_records)) [
        | inl within ↦
            let feed = ap (λ (rest : RestOfFeed FeedEnd). filter (is_of_part all) rest.items)
            (items_after-whole number fields records whole within) in
            elim (cases_Bool (is_read part (plain_of part columns (number + 1) fields))) [
              | inl read ↦
                  ap (λ (rest : RestOfFeed FeedEnd). rest.items)
                  (items_after-inside number fields records within read)
                  ∙ ap (λ items. item_at s columns number fields ∷ items) after
                  ∙ sym (filter-passed (is_of_part all) (item_at s columns number fields)
                  (items_after s columns (number + 1) records).items (here ∙ read))
                  ∙ sym feed
              | inr other ↦
                  ap (λ (rest : RestOfFeed FeedEnd). rest.items)
                  (items_after-outside number fields records within other)
                  ∙ after
                  ∙ sym (filter-failed (is_of_part all) (item_at s columns number fields)
                  (items_after s columns (number + 1) records).items (here ∙ other))
                  ∙ sym feed
            ]
        | inr past ↦
            ap (λ (rest : RestOfFeed FeedEnd). rest.items) (items_after-past part number fields records past)
            ∙ sym (ap (λ (rest : RestOfFeed FeedEnd). filter (is_of_part all) rest.items)
            (items_after-past s number fields records past))
      ]

-- a shard's record of a number, by the columns that the header names
has_record-found : (s : Layout) (count place : ℕ) (header : List (List ℕ)) (records : List (List (List ℕ)))
    (columns : FoundColumns) → found_columns s header ≡ Some columns → (number : ℕ)
    → has_record (of_shard count s place) (header ∷ records) number
    ≡ is_record_read (of_shard count s place) columns (header ∷ records) number
has_record-found s count place header records columns found number =
    ap (λ found. option_map_or
    (λ (it : FoundColumns). is_record_read (of_shard count s place) it (header ∷ records) number) found false) found

-- the items of a feed, by its columns
items_of-found : (s : Layout) (header : List (List ℕ)) (records : List (List (List ℕ))) (found : Option FoundColumns)
    → found_columns s header ≡ found
    → items_of s (header ∷ records)
    ≡ option_map_or (λ (columns : FoundColumns). items_after s columns 0 records) found wrong_header
items_of-found s header records found is =
    ap (λ it. option_map_or (λ (columns : FoundColumns). items_after s columns 0 records) it wrong_header) is

pub items_of-part : (s : Layout) (count place : ℕ) → s.shard ≡ whole_feed → (records : List (List (List ℕ)))
    → (items_of (of_shard count s place) records).items
    ≡ filter (λ (item : Item). has_record (of_shard count s place) records item.number) (items_of s records).items
items_of-part s count place whole [] = refl
items_of-part s count place whole (header ∷ records) = at (found_columns s header) refl
  where
    test : Item → Bool
    test item = has_record (of_shard count s place) (header ∷ records) item.number

    at : (found : Option FoundColumns) → found_columns s header ≡ found
        → (items_of (of_shard count s place) (header ∷ records)).items
        ≡ filter test (items_of s (header ∷ records)).items
    at None is =
        ap (λ (rest : RestOfFeed FeedEnd). rest.items)
        (items_of-found (of_shard count s place) header records None is)
        ∙ sym (ap (λ (rest : RestOfFeed FeedEnd). filter test rest.items) (items_of-found s header records None is))
    at (Some columns) is =
        ap (λ (rest : RestOfFeed FeedEnd). rest.items)
        (items_of-found (of_shard count s place) header records (Some columns) is)
        ∙ items_after-part s count place columns whole (header ∷ []) records 0 refl
        ∙ ap (λ p. filter p (items_after s columns 0 records).items)
        (λ i (item : Item). sym (has_record-found s count place header records columns is item.number) i)
        ∙ sym (ap (λ (rest : RestOfFeed FeedEnd). filter test rest.items)
        (items_of-found s header records (Some columns) is))

-- ---- how a shard ends
end_after : ℕ → ℕ → List (List (List ℕ)) → FeedEnd
end_after most number [] = Good
end_after most number (fields ∷ records) =
    if nat_lt number most then end_after most (number + 1) records else TooManyRecords

items_after-end : (t : Layout) (columns : FoundColumns) (number : ℕ) (records : List (List (List ℕ)))
    → (items_after t columns number records).end ≡ end_after t.max_records number records
unfolding end_after
items_after-end t columns number [] = refl
items_after-end t columns number (fields ∷ records) = elim (cases_Bool (nat_lt number t.max_records)) [
  | inl within ↦ elim (cases_Bool (is_read t (plain_of t columns (number + 1) fields))) [
    | inl read ↦ rw (within, read) (items_after-end t columns (number + 1) records)
    | inr other ↦ rw (within, other) (items_after-end t columns (number + 1) records)
  ]
  | inr past ↦ rw past refl
]

pub items_of-end : (s : Layout) (count place : ℕ) (records : List (List (List ℕ)))
    → (items_of (of_shard count s place) records).end ≡ (items_of s records).end
items_of-end s count place [] = refl
items_of-end s count place (header ∷ records) = at (found_columns s header) refl
  where
    at : (found : Option FoundColumns) → found_columns s header ≡ found
        → (items_of (of_shard count s place) (header ∷ records)).end ≡ (items_of s (header ∷ records)).end
    at None is =
        ap (λ (rest : RestOfFeed FeedEnd). rest.end) (items_of-found (of_shard count s place) header records None is)
        ∙ sym (ap (λ (rest : RestOfFeed FeedEnd). rest.end) (items_of-found s header records None is))
    at (Some columns) is =
        ap (λ (rest : RestOfFeed FeedEnd). rest.end)
        (items_of-found (of_shard count s place) header records (Some columns) is)
        ∙ items_after-end (of_shard count s place) columns 0 records
        ∙ sym (items_after-end s columns 0 records)
        ∙ sym (ap (λ (rest : RestOfFeed FeedEnd). rest.end) (items_of-found s header records (Some columns) is))

-- ---- the changes of a shard
-- each item says what its record spells
items_after-Says : (s : Layout) (columns : FoundColumns) (done records : List (List (List ℕ))) (number : ℕ)
    → length done ≡ number + 1
    → AllByRecursion (Says s columns (done ++ records)) (items_after s columns number records).items
items_after-Says s columns done [] number as_many = tt
items_after-Says s columns done (fields ∷ records) number as_many =
    let all : List (List (List ℕ)) = done ++ fields ∷ records in
    let after : AllByRecursion (Says s columns all) (items_after s columns (number + 1) records).items
    = subst (λ (rs : List (List (List ℕ))).
    AllByRecursion (Says s columns rs) (items_after s columns (number + 1) records).items)
    (append_assoc done (fields ∷ []) records)
    (items_after-Says s columns (done ++ fields ∷ []) records (number + 1)
    (one-more s 0 0 columns done fields number as_many)) in
    let here : Says s columns all (item_at s columns number fields) =
    sym (ap (λ found. change_of s (plain_of s columns (number + 1) found))
    (record-seam s 0 0 columns done records fields number as_many)) in
    by (item_at s columns number fields) (items_after s columns (number + 1) records) here after
    (nat_lt number s.max_records) (is_read s (plain_of s columns (number + 1) fields))
  where
    by : (item : Item) (rest : RestOfFeed FeedEnd) → Says s columns (done ++ fields ∷ records) item
        → AllByRecursion (Says s columns (done ++ fields ∷ records)) rest.items → (room read : Bool)
        → AllByRecursion (Says s columns (done ++ fields ∷ records))
        (if room then (if read then item_then item rest else rest) else no_more).items
    by item rest one all true true = (one, all)
    by item rest one all true false = all
    by item rest one all false read = tt

module _ (s : Layout) (count place : ℕ) (columns : FoundColumns) (records : List (List (List ℕ))) where
  -- the plain record of an item, and whether it is in the shard
  abbrev plain : Item → List (List ℕ)
  plain item = plain_of s columns item.number (get_or records item.number [])

  abbrev in_part : Item → Bool
  in_part item = is_of_part s count place columns records item

  plain-in_part : (item : Item) → (shard_of count (field_at (plain item) 1) == place) ≡ in_part item
  plain-in_part item =
      ap (is_read (of_shard count s place))
      (sym (plain_of-part s count place columns item.number (get_or records item.number [])))

  -- a change of an item is of the shard where its record is in it
  taken_change-is_of : (item : Item) → Says s columns records item
      → IfSome (taken_change s item.what) (λ change. is_of count place change ≡ in_part item)
  taken_change-is_of item says = named item.what (subst (λ what. IfOk what (Names (plain item)))
      (sym says) (change_of-Names s (plain item)))
    where
      taken : (change : Change) (b : Bool) → Names (plain item) change
          → IfSome (if b then Some change else None)
          (λ (it : Change). is_of count place it ≡ in_part item)
      taken change true names = ap (λ id. shard_of count id == place) names ∙ plain-in_part item
      taken change false names = tt

      named : (what : Result Change LineFault) → IfOk what (Names (plain item))
          → IfSome (taken_change s what) (λ change. is_of count place change ≡ in_part item)
      named (Ok change) names = taken change (takes s change) names
      named (Err fault) names = tt

  -- the changes of the shard's items are those of all items that are of the shard
  changes_of-filter : (items : List Item) → AllByRecursion (Says s columns records) items
      → changes_of s (filter (in_part) items) ≡ filter (is_of count place) (changes_of s items)
  changes_of-filter items says =
      filter_map-filter (λ (item : Item). taken_change s item.what) (in_part)
      (is_of count place) items
      (Contains-AllByRecursion (λ (item : Item). IfSome (taken_change s item.what)
      (λ change. is_of count place change ≡ in_part item)) items
      (λ item among. taken_change-is_of item (AllByRecursion-Contains (Says s columns records) items item says among)))

  -- ---- the refusals of a shard
  -- an item of the shard is refused after the shard's items before it as it is after all of them
  code_of-part : (before : List Item) (item : Item) → AllByRecursion (Says s columns records) before
      → Says s columns records item → in_part item ≡ true
      → code_of s (filter (in_part) before) item.what ≡ code_of s before item.what
  code_of-part before item says said inside = at item.what
      (subst (λ what. IfOk what (Names (plain item))) (sym said)
      (change_of-Names s (plain item)))
    where
      at : (what : Result Change LineFault) → IfOk what (Names (plain item))
          → code_of s (filter (in_part) before) what ≡ code_of s before what
      at (Err fault) names = refl
      at (Ok change) names =
          let within : (shard_of count (id_of change) == place) ≡ true =
          ap (λ id. shard_of count id == place) names ∙ plain-in_part item ∙ inside in
          let life = ap (life_of (id_of change)) (changes_of-filter before says)
          ∙ life_of-inside count place (id_of change) (changes_of s before) within in
          ap (λ found. if not (takes s change) then Some (shape_code s) else code_by_presence s change (is_some found))
          life

  -- whether the record of a refusal is in the shard
  abbrev is_refused_here : Refusal → Bool
  is_refused_here refusal = is_record_read (of_shard count s place) columns records refusal.number

  refusal-filter : (item : Item) (code : Option ℕ) → in_part item ≡ true
      → filter is_refused_here (option_to_list
      (option_map (λ c. let refusal : Refusal = record { number = item.number; code = c } in refusal) code))
      ≡ option_to_list
      (option_map (λ c. let refusal : Refusal = record { number = item.number; code = c } in refusal) code)
  refusal-filter item None inside = refl
  refusal-filter item (Some c) inside =
      filter-passed is_refused_here (record { number = item.number; code = c }) [] inside

  refusal-none : (item : Item) (code : Option ℕ) → in_part item ≡ false
      → filter is_refused_here (option_to_list
      (option_map (λ c. let refusal : Refusal = record { number = item.number; code = c } in refusal) code)) ≡ []
  refusal-none item None outside = refl
  refusal-none item (Some c) outside =
      filter-failed is_refused_here (record { number = item.number; code = c }) [] outside

  -- the refusals of the shard's items, where those of the items before are known
  abbrev RefusesAlike : List Item → Type 0
  RefusesAlike items =
      refusals_of s (filter (in_part) items) ≡ filter is_refused_here (refusals_of s items)

  RefusesAlike-more : (before : List Item) (item : Item) → AllByRecursion (Says s columns records) before
      → Says s columns records item → RefusesAlike before → RefusesAlike (before ++ item ∷ [])
  RefusesAlike-more before item says said alike =
      let p : Item → Bool = in_part in
      let after : filter is_refused_here (refusals_of s (before ++ item ∷ []))
      ≡ filter is_refused_here (refusals_of s before)
      ++ filter is_refused_here (option_to_list (refusal_of s before item))
      = ap (filter is_refused_here) (refusals_of-more s before item)
      ∙ filter-append is_refused_here (refusals_of s before) (option_to_list (refusal_of s before item)) in
      elim (cases_Bool (p item)) [
        | inl inside ↦
            let kept : filter p (before ++ item ∷ []) ≡ filter p before ++ item ∷ []
            = filter-append p before (item ∷ [])
            ∙ ap (λ items. filter p before ++ items) (filter-passed p item [] inside) in
            let same : refusal_of s (filter p before) item ≡ refusal_of s before item
            = ap (option_map (λ c. let refusal : Refusal = record { number = item.number; code = c } in refusal))
            (code_of-part before item says said inside) in
            ap (refusals_of s) kept
            ∙ refusals_of-more s (filter p before) item
            ∙ ap (λ refusals. refusals ++ option_to_list (refusal_of s (filter p before) item)) alike
            ∙ ap (λ refusal. filter is_refused_here (refusals_of s before) ++ option_to_list refusal) same
            ∙ sym (ap (λ refusals. filter is_refused_here (refusals_of s before) ++ refusals)
            (refusal-filter item (code_of s before item.what) inside))
            ∙ sym after
        | inr outside ↦
            let left_out : filter p (before ++ item ∷ []) ≡ filter p before
            = filter-append p before (item ∷ [])
            ∙ ap (λ items. filter p before ++ items) (filter-failed p item [] outside) ∙ append-nil (filter p before) in
            ap (refusals_of s) left_out
            ∙ alike
            ∙ sym (append-nil (filter is_refused_here (refusals_of s before)))
            ∙ sym (ap (λ refusals. filter is_refused_here (refusals_of s before) ++ refusals)
            (refusal-none item (code_of s before item.what) outside))
            ∙ sym after
      ]

  RefusesAlike-all : (before items : List Item) → AllByRecursion (Says s columns records) before
      → AllByRecursion (Says s columns records) items → RefusesAlike before → RefusesAlike (before ++ items)
  RefusesAlike-all before [] says said alike = subst RefusesAlike (sym (append-nil before)) alike
  RefusesAlike-all before (item ∷ items) says said alike =
      subst RefusesAlike (append_assoc before (item ∷ []) items)
      (RefusesAlike-all (before ++ item ∷ []) items
      (AllByRecursion-append (Says s columns records) before (item ∷ []) says (said.0, tt)) said.1
      (RefusesAlike-more before item says said.0 alike))

module _ (s : Layout) (count place : ℕ) where
  -- what is so of no items, and of items that say what their records spell by some columns, is so of those of a feed
  by-columns : (P : (ℕ → Bool) → List Item → Type 0) (header : List (List ℕ)) (records : List (List (List ℕ)))
      → ((test : ℕ → Bool) → P test [])
      → ((columns : FoundColumns) (items : List Item) → AllByRecursion (Says s columns (header ∷ records)) items
      → P (is_record_read (of_shard count s place) columns (header ∷ records)) items)
      → P (has_record (of_shard count s place) (header ∷ records)) (items_of s (header ∷ records)).items
  by-columns P header records none each = at (found_columns s header) refl
    where
      at : (found : Option FoundColumns) → found_columns s header ≡ found
          → P (has_record (of_shard count s place) (header ∷ records)) (items_of s (header ∷ records)).items
      at None is =
          subst (λ (rest : RestOfFeed FeedEnd). P (has_record (of_shard count s place) (header ∷ records)) rest.items)
          (sym (items_of-found s header records None is))
          (none (has_record (of_shard count s place) (header ∷ records)))
      at (Some columns) is =
          let same : is_record_read (of_shard count s place) columns (header ∷ records)
          ≡ has_record (of_shard count s place) (header ∷ records) =
          (λ i number. sym (has_record-found s count place header records columns is number) i) in
          subst (λ (rest : RestOfFeed FeedEnd). P (has_record (of_shard count s place) (header ∷ records)) rest.items)
          (sym (items_of-found s header records (Some columns) is))
          (subst (λ test. P test (items_after s columns 0 records).items) same
          (each columns (items_after s columns 0 records).items
          (items_after-Says s columns (header ∷ []) records 0 refl)))

  pub refusals_of-part : s.shard ≡ whole_feed → (records : List (List (List ℕ)))
      → refusals_of (of_shard count s place) (items_of (of_shard count s place) records).items
      ≡ filter (λ (refusal : Refusal). has_record (of_shard count s place) records refusal.number)
      (refusals_of s (items_of s records).items)
  refusals_of-part whole [] = refl
  refusals_of-part whole (header ∷ records) =
      ap (refusals_of (of_shard count s place)) (items_of-part s count place whole (header ∷ records))
      ∙ by-columns (λ test items. refusals_of s (filter (λ (item : Item). test item.number) items)
      ≡ filter (λ (refusal : Refusal). test refusal.number) (refusals_of s items)) header records (λ test. refl)
      (λ columns items says. RefusesAlike-all s count place columns (header ∷ records) [] items tt says refl)

  -- ---- the survivors of a shard
  changes_of-part : s.shard ≡ whole_feed → (records : List (List (List ℕ)))
      → changes_of (of_shard count s place) (items_of (of_shard count s place) records).items
      ≡ filter (is_of count place) (changes_of s (items_of s records).items)
  changes_of-part whole [] = refl
  changes_of-part whole (header ∷ records) =
      ap (changes_of (of_shard count s place)) (items_of-part s count place whole (header ∷ records))
      ∙ by-columns (λ test items. changes_of s (filter (λ (item : Item). test item.number) items)
      ≡ filter (is_of count place) (changes_of s items)) header records (λ test. refl)
      (λ columns items says. changes_of-filter s count place columns (header ∷ records) items says)

module _ (count : ℕ) (changes : List Change) where
  -- the life that an id has in all changes
  abbrev life : List ℕ → Option Fact
  life id = life_of id changes

  -- what survives the shards from a place on, so many of them
  record SurvivesFrom (start len : ℕ) (facts : List Fact) : Type 0 where
    ids : List (List ℕ)
    each_once : IsDistinct bytes_eq ids
    from : (id : List ℕ) → Contains ids id → start ≤ shard_of count id
    present : (id : List ℕ) → Contains ids id → IsSome (life id)
    all : (id : List ℕ) → start ≤ shard_of count id → shard_of count id < start + len → IsSome (life id)
        → Contains ids id
    theirs : map Some facts ≡ map life ids

  none-IsSome : IsSome {T = Fact} None → ⊥
  none-IsSome some = cc some

  -- the ids of a shard's survivors are in it
  Survive-inside : (place : ℕ) (facts : List Fact) (survive : Survive (filter (is_of count place) changes) facts)
      (id : List ℕ) → Contains survive.ids id
      → shard_of count id ≡ place
  Survive-inside place facts survive id among = elim (cases_Bool (shard_of count id == place)) [
    | inl inside ↦ eqb-true (shard_of count id) place inside
    | inr outside ↦ absurd
        (none-IsSome (subst IsSome (life_of-outside count place id changes outside) ((survive.present id).1 among)))
  ]

  map-life : (place : ℕ) (ids : List (List ℕ)) → ((id : List ℕ) → Contains ids id → shard_of count id ≡ place)
      → map (λ id. life_of id (filter (is_of count place) changes)) ids ≡ map life ids
  map-life place [] inside = refl
  map-life place (id ∷ ids) inside =
      let here =
      life_of-inside count place id changes (eq-eqb (shard_of count id) place (inside id (Contains-head id ids))) in
      let after = map-life place ids (λ other among. inside other (Contains-tail id ids other among)) in
      λ i. here i ∷ after i

  SurvivesFrom-none : (start : ℕ) → SurvivesFrom start 0 []
  SurvivesFrom-none start = record {
    ids = [];
    each_once = IsDistinct-from_apart bytes_eq [] (λ i j d below within. absurd (omega (arith, within)));
    from = λ id among. absurd (Contains-nil id among);
    present = λ id among. absurd (Contains-nil id among);
    all = λ id first last lives. absurd (omega (arith, first, last));
    theirs = refl;
  }

  SurvivesFrom-more : (start len : ℕ) (facts more : List Fact) → Survive (filter (is_of count start) changes) facts
      → SurvivesFrom (start + 1) len more
      → SurvivesFrom start (suc len) (facts ++ more)
  SurvivesFrom-more start len facts more here rest =
      let inside = Survive-inside start facts here in
      record {
        ids = here.ids ++ rest.ids;
        each_once = IsDistinct-append here.ids rest.ids here.each_once rest.each_once (λ id other first second.
            elim (cases_Bool (bytes_eq id other)) [
              | inl same ↦
                  let one : id ≡ other = (bytes_eq-Decides id other).0 same in
                  absurd (omega (arith, rest.from other second, sym (ap (shard_of count) one) ∙ inside id first))
              | inr differ ↦ differ
            ]);
        from = λ id among. elim (Contains-append_cases here.ids rest.ids id among) [
          | inl first ↦ omega (arith, inside id first)
          | inr second ↦ omega (arith, rest.from id second)
        ];
        present = λ id among. elim (Contains-append_cases here.ids rest.ids id among) [
          | inl first ↦
              subst IsSome (life_of-inside count start id changes (eq-eqb (shard_of count id) start (inside id first)))
              ((here.present id).1 first)
          | inr second ↦ rest.present id second
        ];
        all = λ id first last lives. elim (cases_Bool (shard_of count id == start)) [
          | inl at ↦ Contains-append_left here.ids rest.ids id
              ((here.present id).0 (subst IsSome (sym (life_of-inside count start id changes at)) lives))
          | inr above ↦
              let differ : shard_of count id ≢ start =
              λ same. false≢true (sym above ∙ eq-eqb (shard_of count id) start same) in
              Contains-append_right here.ids rest.ids id
              (rest.all id (omega (arith, first, differ)) (omega (arith, last)) lives)
        ];
        theirs =
            map-append Some facts more
            ∙ ap (λ found. found ++ map Some more) (here.facts_are_theirs ∙ map-life start here.ids inside)
            ∙ ap (λ found. map life here.ids ++ found) rest.theirs
            ∙ sym (map-append life here.ids rest.ids);
      }

  SurvivesFrom-all : (start len : ℕ) (parts : List (List Fact))
      → AllZip (λ place facts. Survive (filter (is_of count place) changes) facts) (range_with_len start len) parts
      → SurvivesFrom start len (joined parts)
  SurvivesFrom-all start zero [] all = SurvivesFrom-none start
  SurvivesFrom-all start zero (facts ∷ parts) all = absurd all
  SurvivesFrom-all start (suc len) [] all = absurd all
  SurvivesFrom-all start (suc len) (facts ∷ parts) all =
      SurvivesFrom-more start len facts (joined parts) all.0 (SurvivesFrom-all (start + 1) len parts all.1)

  -- all shards together
  SurvivesFrom-Survive : (facts : List Fact) → 1 ≤ count → SurvivesFrom 0 count facts → Survive changes facts
  SurvivesFrom-Survive facts some h = record {
    ids = h.ids;
    each_once = h.each_once;
    present =
        λ id. (λ lives. h.all id (omega arith) (omega (arith, mod_below (fnv_hash id) count some)) lives, h.present id);
    facts_are_theirs = h.theirs;
  }

AllZip-changes : (s : Layout) (count : ℕ) (records : List (List (List ℕ))) (start len : ℕ) (parts : List (List Fact))
    → s.shard ≡ whole_feed
    → AllZip
    (λ place facts. AreSurviving (of_shard count s place) (items_of (of_shard count s place) records).items facts)
    (range_with_len start len) parts
    → AllZip (λ place facts. Survive (filter (is_of count place) (changes_of s (items_of s records).items)) facts)
    (range_with_len start len) parts
AllZip-changes s count records start zero [] whole all = tt
AllZip-changes s count records start zero (facts ∷ parts) whole all = absurd all
AllZip-changes s count records start (suc len) [] whole all = absurd all
AllZip-changes s count records start (suc len) (facts ∷ parts) whole all = (
  subst (λ changes. Survive changes facts) (changes_of-part s count start whole records) all.0,
  AllZip-changes s count records (start + 1) len parts whole all.1,
)

-- the survivors of all shards of a feed survive it
pub AreSurviving-parts : (s : Layout) (count : ℕ) (records : List (List (List ℕ))) (parts : List (List Fact))
    → s.shard ≡ whole_feed → 1 ≤ count
    → AllZip
    (λ place facts. AreSurviving (of_shard count s place) (items_of (of_shard count s place) records).items facts)
    (places count) parts
    → AreSurviving s (items_of s records).items (joined parts)
AreSurviving-parts s count records parts whole some all =
    let changes = changes_of s (items_of s records).items in
    SurvivesFrom-Survive count changes (joined parts) some
    (SurvivesFrom-all count changes 0 count parts (AllZip-changes s count records 0 count parts whole all))
