-- A bound on the bytes of records changes nothing where no record exceeds it.
use Rattle.std.specs.Prelude.{◌≡◌, ◌+◌, ◌||◌, nat_lt, ℕ, Bool, true, false, List, [], ◌∷◌, length}
use Rattle.std.specs.Prelude.{Option, Some, None, if◌then◌else◌}
use Rattle.std.specs.Option.{option_map_or}
use Rattle.std.proofs.Common.{refl, sym, ap, ap₂, ◌∙◌}
use Rattle.csv.specs.Machine.{step}
use Rattle.csv.specs.Reading.{records, strip_bom}
use Rattle.csv.specs.declared.parser.Config.{Config}
use Rattle.csv.specs.declared.parser.State.{State}
use Rattle.csv.specs.declared.parser.State.TheVariants as st
use Rattle.cube_core.specs.FeedRecords.{FeedEnd, Good, WrongHeader, TooManyRecords, WithinQuotes, RecordTooLong, RestOfFeed}
use Rattle.cube_core.specs.FeedRecords.{TextEnd, InLongRecord, InQuotes, Whole, end_in_record, feed_end}
use Rattle.cube_core.specs.FeedRecords.{all_records, config_by, ends_as, ends_in_quotes, feed_of, found_columns, has_long_record}
use Rattle.cube_core.specs.FeedRecords.{is_read, item_then, items_after, items_of, plain_of, text_end, whole_records}
use Rattle.cube_core.specs.Items.{change_of}
use Rattle.cube_core.specs.Layout.{Layout}
use Rattle.cube_core.specs.Plain.{delimiter_of}
use Rattle.cube_core.specs.RecordBound.{is_between, is_exceeded, mark_length, up_to_excess}
use Rattle.cube_core.specs.declared.feed_columns.FoundColumns.{FoundColumns}
use Rattle.cube_core.specs.declared.feed_columns.FoundColumns.TheVariants.{InOrder, ByName}

-- ---- a bound that no record exceeds

-- then all of a text is read
up_to_excess-whole : (cfg : Config) (most : ℕ) (s : State) (count : ℕ) (xs : List ℕ)
    → is_exceeded cfg most s count xs ≡ false → up_to_excess cfg most s count xs ≡ xs
up_to_excess-whole cfg most s count [] short = refl
up_to_excess-whole cfg most s count (c ∷ xs) short =
    by (is_between next) (nat_lt count most)
    (λ so_far. up_to_excess-whole cfg most (step cfg s c).0 so_far xs) short
  where
    next : State
    next = (step cfg s c).0

    by : (between below : Bool)
        → ((so_far : ℕ) → is_exceeded cfg most next so_far xs ≡ false → up_to_excess cfg most next so_far xs ≡ xs)
        → (if between then is_exceeded cfg most next 0 xs
        else if below then is_exceeded cfg most next (count + 1) xs else true) ≡ false
        → (if between then c ∷ up_to_excess cfg most next 0 xs
        else if below then c ∷ up_to_excess cfg most next (count + 1) xs else c ∷ []) ≡ c ∷ xs
    by true below on e = ap (λ (l : List ℕ). c ∷ l) (on 0 e)
    by false true on e = ap (λ (l : List ℕ). c ∷ l) (on (count + 1) e)
    by false false on e = cc e

pub text_within-whole : (cfg : Config) (bound : Option ℕ) (bytes : List ℕ)
    → option_map_or (λ most. nat_lt most (mark_length bytes)
    || is_exceeded cfg most st.StartRecord (mark_length bytes) (strip_bom bytes)) bound false ≡ false
    → option_map_or (λ most. if nat_lt most (mark_length bytes) then []
    else up_to_excess cfg most st.StartRecord (mark_length bytes) (strip_bom bytes)) bound (strip_bom bytes)
    ≡ strip_bom bytes
text_within-whole cfg None bytes short = refl
text_within-whole cfg (Some most) bytes short = by (nat_lt most (mark_length bytes)) short
  where
    by : (over : Bool)
        → (over || is_exceeded cfg most st.StartRecord (mark_length bytes) (strip_bom bytes)) ≡ false
        → (if over then [] else up_to_excess cfg most st.StartRecord (mark_length bytes) (strip_bom bytes))
        ≡ strip_bom bytes
    by true e = cc e
    by false e = up_to_excess-whole cfg most st.StartRecord (mark_length bytes) (strip_bom bytes) e

-- the schema without a bound
abbrev pub unbounded : Layout → Layout
unbounded s = record s { max_record_bytes = None }

-- reads what the schema reads
plain_of-unbounded : (s : Layout) (columns : FoundColumns) (number : ℕ) (fields : List (List ℕ))
    → plain_of (unbounded s) columns number fields ≡ plain_of s columns number fields
plain_of-unbounded s InOrder number fields = refl
plain_of-unbounded s (ByName places) number fields = refl

items_after-unbounded : (s : Layout) (columns : FoundColumns) (number : ℕ) (records : List (List (List ℕ)))
    → items_after (unbounded s) columns number records ≡ items_after s columns number records
items_after-unbounded s columns number [] = refl
items_after-unbounded s columns number (fields ∷ records) =
    let no_more : RestOfFeed FeedEnd = record { items = []; end = TooManyRecords } in
    ap₂ (λ (plain : List (List ℕ)) (rest : RestOfFeed FeedEnd). if nat_lt number s.max_records
    then (if is_read s plain then item_then (record { number = number + 1; what = change_of s plain }) rest else rest)
    else no_more)
    (plain_of-unbounded s columns (number + 1) fields) (items_after-unbounded s columns (number + 1) records)

items_of-unbounded : (s : Layout) (records : List (List (List ℕ)))
    → items_of (unbounded s) records ≡ items_of s records
items_of-unbounded s [] = refl
items_of-unbounded s (header ∷ records) =
    let wrong : RestOfFeed FeedEnd = record { items = []; end = WrongHeader } in
    ap (λ (after : FoundColumns → RestOfFeed FeedEnd). option_map_or after (found_columns s header) wrong)
    (λ i columns. items_after-unbounded s columns 0 records i)

end_in_record-unbounded : (s : Layout) (so : ℕ → FeedEnd) (number : ℕ) (whole : FeedEnd)
    → end_in_record (unbounded s) so number whole ≡ end_in_record s so number whole
end_in_record-unbounded s so number Good = refl
end_in_record-unbounded s so number WrongHeader = refl
end_in_record-unbounded s so number TooManyRecords = refl
end_in_record-unbounded s so number (WithinQuotes n) = refl
end_in_record-unbounded s so number (RecordTooLong n) = refl

feed_end-unbounded : (s : Layout) (end : TextEnd) (number : ℕ) (whole : FeedEnd)
    → feed_end (unbounded s) end number whole ≡ feed_end s end number whole
feed_end-unbounded s Whole number whole = refl
feed_end-unbounded s InQuotes number whole = end_in_record-unbounded s WithinQuotes number whole
feed_end-unbounded s InLongRecord number whole = end_in_record-unbounded s RecordTooLong number whole

pub feed_of-unbounded : (s : Layout) (bytes : List ℕ) → has_long_record s bytes ≡ false
    → feed_of s bytes ≡ feed_of (unbounded s) bytes
feed_of-unbounded s bytes short =
    ap₂ (λ (all : List (List (List ℕ))) (end : TextEnd).
    ends_as s end (length (whole_records end all)) (items_of s (whole_records end all)))
    (ap (records (config_by (delimiter_of s)))
    (text_within-whole (config_by (delimiter_of s)) s.max_record_bytes bytes short))
    (ap (λ (long : Bool). if long then InLongRecord else if ends_in_quotes s bytes then InQuotes else Whole) short)
    ∙ sym same
  where
    end : TextEnd
    end = text_end (unbounded s) bytes

    whole : List (List (List ℕ))
    whole = whole_records (text_end (unbounded s) bytes) (all_records (unbounded s) bytes)

    rest : RestOfFeed FeedEnd
    rest = items_of (unbounded s) (whole_records (text_end (unbounded s) bytes) (all_records (unbounded s) bytes))

    same : ends_as (unbounded s) end (length whole) rest ≡ ends_as s end (length whole) (items_of s whole)
    same =
        ap (λ (e : FeedEnd). let told : RestOfFeed FeedEnd = record { items = rest.items; end = e } in told)
        (feed_end-unbounded s end (length whole) rest.end)
        ∙ ap (ends_as s end (length whole)) (items_of-unbounded s whole)
