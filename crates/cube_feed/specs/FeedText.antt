-- The text of a feed, read record by record, and how one tells where it ends: a line end and a quote are read behind it,
-- which are a record of their own, of one empty field, unless it ends within quotes; and a byte that is in no text is read
-- in place of the first one that is too many in its record (this project's choice).
use Rattle.std.specs.Prelude.{◌≡◌, ◌==◌, ◌-◌, ◌||◌, ⊤, ℕ, Bool, true, false, List, [], ◌∷◌, length, get_or, Option, Some}
use Rattle.std.specs.Prelude.{None, option_map, is_some, Result, Ok, Err, if◌then◌else◌}
use Rattle.cube_core.specs.FeedRecords.{TextEnd, Whole, InQuotes, InLongRecord, feed_records, text_end}
use Rattle.cube_core.specs.Items.{field_at}
use Rattle.cube_core.specs.Layout.{Layout}
use Rattle.cube_core.specs.Plain.{delimiter_of}
use Rattle.cube_feed.specs.declared.fault.FeedFault.{FeedFault}
use Rattle.cube_feed.specs.declared.fault.FeedFault.TheVariants.{Memory, Read, Header, TooMany}
use Rattle.cube_feed.specs.declared.fault.FeedFault.TheVariants as fault
use Rattle.cube_feed.specs.declared.feed_text.Found.{Found}
use Rattle.cube_feed.specs.declared.feed_text.Found.TheVariants.{Record, End, OpenQuote, LongRecord}
use Rattle.cube_feed.specs.declared.feed_bytes.Bounds.{Bounds}
use Rattle.cube_feed.specs.declared.place.Place.TheVariants.{Start}
use Rattle.cube_feed.specs.FeedBytes.{excess_mark, mark}

-- what is left of a text: its whole records, and how it ends
pub record TextLeft : Type 0 where
  pub records : List (List (List ℕ))
  pub end : TextEnd

-- what is left of the text of a feed of which nothing was read
abbrev pub text_of : Layout → List ℕ → TextLeft
text_of s bytes = record { records = feed_records s bytes; end = text_end s bytes }

-- what is read behind the bytes of a feed whose records have no bound, where columns are known by name and where not
abbrev pub end_mark : Bool → List ℕ
end_mark by_name = if by_name then mark else []

-- the bounds of a schema's feeds of which nothing was read, where their records have any
abbrev pub bounds_of : Layout → Option Bounds
bounds_of s = option_map (λ most. record {
  most = most;
  delimiter = delimiter_of s;
  is_by_name = is_some s.columns;
  place = Start;
  count = 0;
}) s.max_record_bytes

-- whether a mark is read behind the bytes of a schema's feeds
abbrev pub is_marked : Layout → Bool
is_marked s = is_some s.columns || is_some s.max_record_bytes

-- whether a record is what the mark is read as outside quotes: one empty field
abbrev pub is_mark : List (List ℕ) → Bool
is_mark [] = false
is_mark ([] ∷ []) = true
is_mark ((_ ∷ _) ∷ []) = false
is_mark (_ ∷ _ ∷ _) = false

-- whether a field ends with the byte that stands in place of one too many
abbrev pub is_cut_field : List ℕ → Bool
is_cut_field field = get_or field (length field - 1) 0 == excess_mark

-- whether the last field of a record does
abbrev pub ends_in_excess : List (List ℕ) → Bool
ends_in_excess fields = is_cut_field (field_at fields (length fields - 1))

-- how a text ends whose last record is this one, by its mark
abbrev pub end_of : List (List ℕ) → Found
end_of last = if is_mark last then End else if ends_in_excess last then LongRecord else OpenQuote

-- the end of a text at which no whole record is found
abbrev pub end_found : Found → TextEnd
end_found Record = Whole
end_found End = Whole
end_found OpenQuote = InQuotes
end_found LongRecord = InLongRecord

-- what is left of a text by the records that are read of it and of the mark behind it: the last tells how it ends
abbrev pub without_mark : List (List (List ℕ)) → TextLeft
without_mark [] = record { records = []; end = Whole }
without_mark (last ∷ []) = record { records = []; end = end_found (end_of last) }
without_mark (first ∷ second ∷ rest) = record {
  records = first ∷ (without_mark (second ∷ rest)).records;
  end = (without_mark (second ∷ rest)).end;
}

-- what is left of a text that has no mark behind it
abbrev pub without_end : List (List (List ℕ)) → TextLeft
without_end records = record { records = records; end = Whole }

-- what is left of a text by the records to come, by whether a mark is read behind it
abbrev pub left_by : Bool → Option (List (List (List ℕ))) → Option TextLeft
left_by marked records = if marked then option_map without_mark records else option_map without_end records

-- the records to come, with the fields of the one that was read ahead, if one was
abbrev pub with_ahead : Bool → List (List ℕ) → Option (List (List (List ℕ))) → Option (List (List (List ℕ)))
with_ahead false fields records = records
with_ahead true fields records = option_map (λ rest. fields ∷ rest) records

-- what a caller sees of a text that is read: what is left, where its reader tells its bytes, and the fields of the record
-- that was taken last
pub record TextView : Type 0 where
  pub left : Option TextLeft
  pub fields : List (List ℕ)

-- the first of the whole records that were left was taken, or there was none, and the text ended so
abbrev pub TakesNext : Option TextLeft → Found → TextView → Type 0
TakesNext None found new = ⊤
TakesNext (Some left) Record new = (rest : List (List (List ℕ))) × (left.records ≡ new.fields ∷ rest)
    × (new.left ≡ Some (record { records = rest; end = left.end }))
TakesNext (Some left) End new = left ≡ record { records = []; end = Whole }
TakesNext (Some left) OpenQuote new = left ≡ record { records = []; end = InQuotes }
TakesNext (Some left) LongRecord new = left ≡ record { records = []; end = InLongRecord }

-- the same where the next record has this number, which the fault of a text tells that ends within it
abbrev pub TakesRecord : Option TextLeft → ℕ → Result Bool FeedFault → TextView → Type 0
TakesRecord None number answer new = ⊤
TakesRecord (Some left) number (Ok true) new = TakesNext (Some left) Record new
TakesRecord (Some left) number (Ok false) new = TakesNext (Some left) End new
TakesRecord (Some left) number (Err Memory) new = ⊤
TakesRecord (Some left) number (Err Read) new = ⊤
TakesRecord (Some left) number (Err Header) new = ⊥
TakesRecord (Some left) number (Err TooMany) new = ⊥
TakesRecord (Some left) number (Err (fault.OpenQuote other)) new =
    (other ≡ number) × TakesNext (Some left) OpenQuote new
TakesRecord (Some left) number (Err (fault.LongRecord other)) new =
    (other ≡ number) × TakesNext (Some left) LongRecord new
