-- The text of a feed, by the records that are read of its bytes and their mark.
use Rattle.std.proofs.Common.{◌≡◌, ◌==◌, ◌<◌, ℕ, Bool, true, false, List, [], ◌∷◌, ◌++◌, length, Option, Some, None}
use Rattle.std.proofs.Common.{refl, sym, ap, subst, IfSome, true≢false}
use Rattle.std.specs.Prelude.{⊤, ◌&&◌, ◌||◌, not, nat_lt, option_map, is_some, if◌then◌else◌}
use Rattle.std.specs.Option.{option_map_or}
use Rattle.std.proofs.lemmas.Bool.{and_parts, eqb-true, false_from_ne_true, ltb-true}
use Rattle.std.proofs.lemmas.List.{append-nil}
use Rattle.csv.specs.Reading.{is_bom, records, strip_bom}
use Rattle.csv.specs.declared.parser.State.TheVariants as st
use Rattle.cube_core.specs.FeedRecords.{TextEnd, Whole, InQuotes, InLongRecord, config_by, is_within_quotes}
use Rattle.cube_core.specs.FeedRecords.{state_after, whole_records}
use Rattle.cube_core.specs.Layout.{AreColumnsOf, IsSchema, Layout, is_delimiter}
use Rattle.cube_core.specs.Plain.{delimiter_of}
use Rattle.cube_core.specs.RecordBound.{is_exceeded, mark_length, up_to_excess}
use Rattle.cube_core.specs.declared.feed_columns.FeedColumns.{FeedColumns}
use Rattle.cube_feed.specs.FeedBytes.{mark, read_on}
use Rattle.cube_feed.specs.declared.feed_bytes.Bounds.{Bounds}
use Rattle.cube_feed.specs.declared.place.Place.TheVariants.{Start}
use Rattle.cube_feed.specs.FeedText.{TextLeft, TextView, TakesNext, bounds_of, end_found, end_mark, end_of}
use Rattle.cube_feed.specs.FeedText.{ends_in_excess, is_mark, is_marked, left_by}
use Rattle.cube_feed.specs.FeedText.{text_of, with_ahead, without_mark}
use Rattle.cube_feed.specs.Reading.{Advances, RecordsView, records_by}
use Rattle.cube_feed.specs.declared.feed_text.Found.{Found}
use Rattle.cube_feed.specs.declared.feed_text.Found.TheVariants.{Record, End, OpenQuote, LongRecord}
use Rattle.cube_feed.proofs.MarkLaws.{Marks-within, end_in, records_at-within}
use Rattle.cube_feed.proofs.BoundLaws.{without_mark-bounded}

-- a byte order mark is left out of a text with the mark behind it as of one without it
strip_bom-mark : (bytes : List ℕ) → strip_bom (bytes ++ mark) ≡ strip_bom bytes ++ mark
unfolding strip_bom
strip_bom-mark [] = refl
strip_bom-mark (a ∷ []) = by (a == 0xEF)
  where
    by : (b : Bool) → (if b && false && false then [] else a ∷ mark) ≡ a ∷ mark
    by true = refl
    by false = refl
strip_bom-mark (a ∷ b ∷ []) = by (a == 0xEF) (b == 0xBB)
  where
    by : (p q : Bool) → (if p && q && false then 34 ∷ [] else a ∷ b ∷ mark) ≡ a ∷ b ∷ mark
    by true true = refl
    by true false = refl
    by false q = refl
strip_bom-mark (a ∷ b ∷ c ∷ rest) = by (is_bom a b c)
  where
    by : (p : Bool) → (if p then rest ++ mark else a ∷ b ∷ c ∷ rest ++ mark)
        ≡ (if p then rest else a ∷ b ∷ c ∷ rest) ++ mark
    by true = refl
    by false = refl

-- ---- the text of a feed

-- what is left of a text with a mark behind it
without_mark-all : (d : ℕ) (bytes : List ℕ) → (10 == d) ≡ false
    → without_mark (records_by d (bytes ++ mark))
    ≡ record {
      records = whole_records (end_in (is_within_quotes (state_after (config_by d) st.StartRecord (strip_bom bytes))))
          (records_by d bytes);
      end = end_in (is_within_quotes (state_after (config_by d) st.StartRecord (strip_bom bytes)));
    }
without_mark-all d bytes apart =
    rw (
      strip_bom-mark bytes,
      records_at-within (config_by d) st.StartRecord (strip_bom bytes ++ mark),
      records_at-within (config_by d) st.StartRecord (strip_bom bytes),
    )
    (Marks-within d (strip_bom bytes) st.StartRecord [] [] apart (refl, refl)).left

-- a delimiter is ASCII, and no line end
lawful-delimiter : (s : Layout) → IsSchema s → is_delimiter (delimiter_of s) ≡ true
lawful-delimiter s is = by s.columns is.lawful_columns
  where
    by : (columns : Option FeedColumns) → IfSome columns (AreColumnsOf (length s.dimensions) (length s.measures))
        → is_delimiter (option_map_or (λ (c : FeedColumns). c.delimiter) columns 44) ≡ true
    by None lawful = refl
    by (Some c) lawful = lawful.delimiter

apart-delimiter : (d : ℕ) → is_delimiter d ≡ true → (10 == d) ≡ false
apart-delimiter d lawful = false_from_ne_true (10 == d) (λ same.
    true≢false (sym (subst (λ (n : ℕ). is_delimiter n ≡ true) (sym (eqb-true 10 d same)) lawful)))

ascii-delimiter : (d : ℕ) → is_delimiter d ≡ true → d < 128
ascii-delimiter d lawful = by (nat_lt d 128) refl (and_parts _ _ (and_parts _ _ (and_parts _ _ lawful).0).0).0
  where
    by : (b : Bool) → nat_lt d 128 ≡ b → b ≡ true → d < 128
    by true e is = ltb-true d 128 e
    by false e is = cc is

-- what is left of the text of a feed of which nothing was read, by the bytes that are read on
pub left_by-text_of : (s : Layout) (known : Option (List ℕ)) (by_name : Bool) → IsSchema s
    → by_name ≡ is_some s.columns
    → left_by (is_marked s) (option_map (records_by (delimiter_of s))
    (option_map (read_on (bounds_of s) (end_mark by_name)) known))
    ≡ option_map (text_of s) known
left_by-text_of s None by_name is by_name_is = by (is_marked s)
  where
    by : (b : Bool) → left_by b None ≡ None
    by true = refl
    by false = refl
left_by-text_of s (Some bytes) by_name is by_name_is = rw by_name_is (by s.max_record_bytes (is_some s.columns))
  where
    d : ℕ
    d = delimiter_of s

    quoted : Bool
    quoted = is_within_quotes (state_after (config_by d) st.StartRecord (strip_bom bytes))

    lawful : is_delimiter (delimiter_of s) ≡ true
    lawful = lawful-delimiter s is

    bounds : Bool → Option ℕ → Option Bounds
    bounds b most = option_map (λ most. record {
      most = most;
      delimiter = delimiter_of s;
      is_by_name = b;
      place = Start;
      count = 0;
    }) most

    -- how the text ends, and what is read of it
    ends : Bool → Option ℕ → TextEnd
    ends b bound = if (option_map_or (λ most. nat_lt most (mark_length bytes)
        || is_exceeded (config_by d) most st.StartRecord (mark_length bytes) (strip_bom bytes)) bound false)
        then InLongRecord else if b && quoted then InQuotes else Whole

    text : Option ℕ → List ℕ
    text bound = option_map_or (λ most. if nat_lt most (mark_length bytes) then []
        else up_to_excess (config_by d) most st.StartRecord (mark_length bytes) (strip_bom bytes)) bound (strip_bom bytes)

    left : Bool → Option ℕ → TextLeft
    left b bound = record {
      records = whole_records (ends b bound) (records (config_by d) (text bound));
      end = ends b bound;
    }

    by : (bound : Option ℕ) (b : Bool)
        → left_by (b || is_some bound) (Some (records_by d (read_on (bounds b bound) (end_mark b) bytes)))
        ≡ Some (left b bound)
    by None false = rw (append-nil bytes) refl
    by None true = ap Some (without_mark-all d bytes (apart-delimiter d lawful))
    by (Some most) false = ap Some (without_mark-bounded d most false bytes (apart-delimiter d lawful)
        (ascii-delimiter d lawful))
    by (Some most) true = ap Some (without_mark-bounded d most true bytes (apart-delimiter d lawful)
        (ascii-delimiter d lawful))

-- ---- the next record of a text

-- there was no record, and not even a mark
pub TakesNext-none : (to_come : Option (List (List (List ℕ)))) (by_name : Bool) (view : RecordsView) (new : TextView)
    → Advances to_come false view → TakesNext (left_by by_name to_come) End new
TakesNext-none None true view new none = tt
TakesNext-none None false view new none = tt
TakesNext-none (Some []) true view new none = refl
TakesNext-none (Some []) false view new none = refl
TakesNext-none (Some (fields ∷ rest)) by_name view new none = cc (none.0)

-- without a mark the next record is the next of the text
pub TakesNext-plain : (to_come : Option (List (List (List ℕ)))) (view : RecordsView) → Advances to_come true view
    → TakesNext (left_by false to_come) Record (record { left = left_by false view.left; fields = view.fields })
TakesNext-plain None view next = tt
TakesNext-plain (Some []) view next = cc next
TakesNext-plain (Some (fields ∷ rest)) view next = rw (next.1, next.2) (rest, refl, refl)

-- with a mark it is the next of the text where another one follows
pub TakesNext-more : (to_come : Option (List (List (List ℕ)))) (taken ahead : RecordsView) → Advances to_come true taken
    → Advances taken.left true ahead
    → TakesNext (left_by true to_come) Record
    (record { left = left_by true (with_ahead true ahead.fields ahead.left); fields = taken.fields })
TakesNext-more None taken ahead next behind = tt
TakesNext-more (Some []) taken ahead next behind = cc next
TakesNext-more (Some (fields ∷ [])) taken ahead next behind = cc (rw next.2 at behind)
TakesNext-more (Some (fields ∷ second ∷ rest)) taken ahead next behind =
    let after = rw next.2 at behind in
    rw (next.1, after.1, after.2) ((without_mark (second ∷ rest)).records, refl, refl)

-- and the last one tells how the text ended
pub TakesNext-last : (to_come : Option (List (List (List ℕ)))) (taken ahead : RecordsView) (new : TextView) (found : Found)
    → Advances to_come true taken → Advances taken.left false ahead → found ≡ end_of taken.fields
    → TakesNext (left_by true to_come) found new
TakesNext-last None taken ahead new found next behind is = tt
TakesNext-last (Some []) taken ahead new found next behind is = cc next
TakesNext-last (Some (fields ∷ [])) taken ahead new found next behind is =
    rw (is, next.1) (by (end_of fields) (is_end fields))
  where
    -- no record is found at the end of a text
    is_end : (last : List (List ℕ)) → end_of last ≡ Record → ⊥
    is_end last same = no (is_mark last) (ends_in_excess last) same
      where
        no : (mark excess : Bool) → (if mark then End else if excess then LongRecord else OpenQuote) ≡ Record → ⊥
        no true excess e = cc
        no false true e = cc
        no false false e = cc

    by : (f : Found) → (f ≡ Record → ⊥)
        → TakesNext (Some (let left : TextLeft = record { records = []; end = end_found f } in left)) f new
    by Record none = absurd (none refl)
    by End none = refl
    by OpenQuote none = refl
    by LongRecord none = refl
TakesNext-last (Some (fields ∷ second ∷ rest)) taken ahead new found next behind is = cc ((rw next.2 at behind).0)
