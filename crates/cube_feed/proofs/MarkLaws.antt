-- What a mark behind a text, or in place of a byte that is too many in its record, tells of its end.
use Rattle.std.proofs.Common.{◌≡◌, ◌+◌, ◌==◌, ℕ, Bool, true, false, List, [], ◌∷◌, ◌++◌, Option, Some, None, refl, sym, ap}
use Rattle.std.proofs.Common.{◌-◌, ◌∙◌, true≢false, length, get_or, arith, length-append}
use Rattle.std.proofs.Math.Seq.{get_or-append_seam}
use Rattle.std.specs.Bool.{MatchBool}
use Rattle.std.specs.Prelude.{⊤, ◌&&◌, not, nat_lt, if◌then◌else◌}
use Rattle.csv.specs.Machine.{Read, next_record, ends_at_end, is_end, step, in_field, start_field, start_record}
use Rattle.csv.specs.Machine.{ends_with, after_end, fields_after, field_after}
use Rattle.csv.specs.Reading.{records_from, records_next}
use Rattle.csv.specs.declared.parser.Action.{Action}
use Rattle.csv.specs.declared.parser.Action.TheVariants as act
use Rattle.csv.specs.declared.parser.Config.{Config}
use Rattle.csv.specs.declared.parser.State.{State}
use Rattle.csv.specs.declared.parser.State.TheVariants as st
use Rattle.csv.specs.declared.parser.Terminator.TheVariants as term
use Rattle.cube_core.specs.FeedRecords.{TextEnd, Whole, InQuotes, InLongRecord, config_by, is_within_quotes}
use Rattle.cube_core.specs.FeedRecords.{state_after, whole_records}
use Rattle.cube_core.specs.RecordBound.{is_between, is_exceeded, up_to_excess}
use Rattle.cube_feed.specs.FeedBytes.{mark}
use Rattle.cube_feed.specs.FeedText.{TextLeft, end_found, end_of, is_mark, without_mark}
use Rattle.cube_feed.specs.Reading.{records_at}
use Rattle.cube_feed.specs.declared.feed_text.Found.{Found}
use Rattle.cube_feed.specs.declared.feed_text.Found.TheVariants.{OpenQuote, LongRecord}
use Rattle.cube_feed.proofs.RecordLaws.{records_at-None, records_at-Some}

-- the records of the rest of a text, within one
abbrev pub records_within : Config → State → List (List ℕ) → List ℕ → List ℕ → List (List (List ℕ))
records_within cfg s fields field xs = records_next (records_at cfg) (next_record cfg s fields field xs)

pub records_at-within : (cfg : Config) (s : State) (xs : List ℕ) → records_at cfg s xs ≡ records_within cfg s [] [] xs
records_at-within cfg s xs = by (next_record cfg s [] [] xs) refl
  where
    by : (o : Option Read) → next_record cfg s [] [] xs ≡ o → records_at cfg s xs ≡ records_next (records_at cfg) o
    by None e = records_at-None cfg s xs e
    by (Some r) e = records_at-Some cfg s xs r e

-- between records nothing was taken of the next one; escapes and comments are nowhere
abbrev pub Fits : State → List (List ℕ) → List ℕ → Type 0
Fits st.StartRecord fields field = (fields ≡ []) × (field ≡ [])
Fits st.AfterCr fields field = (fields ≡ []) × (field ≡ [])
Fits st.StartField fields field = ⊤
Fits st.InField fields field = ⊤
Fits st.InQuoted fields field = ⊤
Fits st.AfterQuote fields field = ⊤
Fits st.InEscape fields field = ⊥
Fits st.InComment fields field = ⊥

-- so it is after a byte, too
abbrev pub Goes : List (List ℕ) → List ℕ → ℕ → State × Action → Type 0
Goes fields field c p = MatchBool (is_end p.1) (is_between p.0 ≡ true)
    (Fits p.0 (fields_after p.1 fields field) (field_after p.1 c field))

-- between records
pub Fits-between : (s : State) → is_between s ≡ true → Fits s [] []
Fits-between st.StartRecord between = (refl, refl)
Fits-between st.AfterCr between = (refl, refl)
Fits-between st.StartField between = cc
Fits-between st.InField between = cc
Fits-between st.InQuoted between = cc
Fits-between st.AfterQuote between = cc
Fits-between st.InEscape between = cc
Fits-between st.InComment between = cc

module _ (d : ℕ) (fields : List (List ℕ)) (field : List ℕ) (c : ℕ) where
  Goes-after_end : Goes fields field c (after_end term.CRLF c, act.EndRecord)
  Goes-after_end = by (c == 13)
    where
      by : (cr : Bool) → is_between (if cr then st.AfterCr else st.StartRecord) ≡ true
      by true = refl
      by false = refl

  Goes-in_field : Goes fields field c (in_field (config_by d) c)
  Goes-in_field = by (c == d) (ends_with term.CRLF c)
    where
      by : (delimits ends : Bool) → Goes fields field c (if delimits then (st.StartField, act.EndField)
          else if ends then (after_end term.CRLF c, act.EndRecord) else (st.InField, act.Copy))
      by true ends = tt
      by false true = Goes-after_end
      by false false = tt

  Goes-start_field : Goes fields field c (start_field (config_by d) c)
  Goes-start_field = by (c == 34)
    where
      by : (quote : Bool) → Goes fields field c (if quote then (st.InQuoted, act.Skip) else in_field (config_by d) c)
      by true = tt
      by false = Goes-in_field

  Goes-start_record : fields ≡ [] → field ≡ [] → Goes fields field c (start_record (config_by d) c)
  Goes-start_record none empty = by (ends_with term.CRLF c)
    where
      by : (ends : Bool) → Goes fields field c (if ends then (st.StartRecord, act.Skip) else start_field (config_by d) c)
      by true = (none, empty)
      by false = Goes-start_field

  pub Goes-step : (s : State) → Fits s fields field → Goes fields field c (step (config_by d) s c)
  Goes-step st.StartRecord fit = Goes-start_record fit.0 fit.1
  Goes-step st.AfterCr fit = by (c == 10)
    where
      by : (feed : Bool) → Goes fields field c (if feed then (st.StartRecord, act.Skip) else start_record (config_by d) c)
      by true = fit
      by false = Goes-start_record fit.0 fit.1
  Goes-step st.StartField fit = Goes-start_field
  Goes-step st.InField fit = Goes-in_field
  Goes-step st.InQuoted fit = by (c == 34)
    where
      by : (quote : Bool) → Goes fields field c (if quote then (st.AfterQuote, act.Skip) else (st.InQuoted, act.Copy))
      by true = tt
      by false = tt
  Goes-step st.AfterQuote fit = by (c == 34)
    where
      by : (quote : Bool) → Goes fields field c (if quote then (st.InQuoted, act.Copy) else in_field (config_by d) c)
      by true = tt
      by false = Goes-in_field
  Goes-step st.InEscape fit = absurd fit
  Goes-step st.InComment fit = absurd fit

-- the end of a text by whether it ends within quotes
abbrev pub end_in : Bool → TextEnd
end_in quoted = if quoted then InQuotes else Whole

-- what a mark behind a text tells: `marked` are the records with it, `plain` those without it
pub record Marks (marked plain : List (List (List ℕ))) (end : TextEnd) : Type 0 where
  pub first : List (List ℕ)
  pub rest : List (List (List ℕ))
  pub some : marked ≡ first ∷ rest
  pub left : without_mark marked ≡ record { records = whole_records end plain; end = end }
  pub begun : (end ≡ Whole → ⊥) → (x : List (List ℕ)) × (xs : List (List (List ℕ))) × (plain ≡ x ∷ xs)

Marks-cons : (x : List (List ℕ)) (marked plain : List (List (List ℕ))) (end : TextEnd) → Marks marked plain end
    → Marks (x ∷ marked) (x ∷ plain) end
Marks-cons x marked plain end m = record {
  first = x;
  rest = marked;
  some = refl;
  left = rw m.some (more end plain (rw m.some at m.left) m.begun);
  begun = λ cut. (x, plain, refl);
}
  where
    with_first : TextLeft → TextLeft
    with_first left = record { records = x ∷ left.records; end = left.end }

    more : (e : TextEnd) (plain : List (List (List ℕ)))
        → without_mark (m.first ∷ m.rest) ≡ record { records = whole_records e plain; end = e }
        → ((e ≡ Whole → ⊥) → (y : List (List ℕ)) × (ys : List (List (List ℕ))) × (plain ≡ y ∷ ys))
        → without_mark (x ∷ m.first ∷ m.rest) ≡ record { records = whole_records e (x ∷ plain); end = e }
    more Whole plain left begun = ap with_first left
    more InQuotes [] left begun = cc ((begun (λ same. cc same)).2)
    more InQuotes (y ∷ ys) left begun = ap with_first left
    more InLongRecord [] left begun = cc ((begun (λ same. cc same)).2)
    more InLongRecord (y ∷ ys) left begun = ap with_first left

-- ---- a text that ends here

abbrev mark_record : List (List ℕ)
mark_record = [] ∷ []

-- a quote alone is the record of the mark
records_at-quote : (d : ℕ) → records_at (config_by d) st.StartRecord (34 ∷ []) ≡ mark_record ∷ []
unfolding records_from next_record
records_at-quote d = refl

pub records_at-nil : (d : ℕ) → records_at (config_by d) st.StartRecord [] ≡ []
unfolding records_from next_record
records_at-nil d = refl

-- a field that ends with a byte is no mark
not_mark : (fields : List (List ℕ)) (field : List ℕ) (byte : ℕ)
    → is_mark (fields ++ (field ++ byte ∷ []) ∷ []) ≡ false
not_mark [] [] byte = refl
not_mark [] (b ∷ bs) byte = refl
not_mark (x ∷ []) field byte = refl
not_mark (x ∷ y ∷ rest) field byte = refl

-- the last element of a list
get_or-last : {A : Type 0} (xs : List A) (x d : A) → get_or (xs ++ x ∷ []) (length (xs ++ x ∷ []) - 1) d ≡ x
get_or-last xs x d =
    let long : length (xs ++ x ∷ []) - 1 ≡ length xs = omega (arith, length-append xs (x ∷ [])) in
    rw long (get_or-append_seam xs x [] d)

-- the last field has a line end more where it isn't closed, and another byte more where it is too long
end_of-last : (fields : List (List ℕ)) (field : List ℕ) (byte : ℕ)
    → end_of (fields ++ (field ++ byte ∷ []) ∷ []) ≡ (if byte == 255 then LongRecord else OpenQuote)
end_of-last fields field byte =
    rw (not_mark fields field byte, get_or-last fields (field ++ byte ∷ []) [], get_or-last field byte 0) refl

-- outside quotes a record is closed, and the mark is one of its own
Marks-record : (d : ℕ) (taken : List (List ℕ))
    → Marks (taken ∷ records_at (config_by d) st.StartRecord (34 ∷ []))
    (taken ∷ records_at (config_by d) st.StartRecord []) Whole
Marks-record d taken = rw (records_at-quote d, records_at-nil d) (record {
  first = taken;
  rest = mark_record ∷ [];
  some = refl;
  left = refl;
  begun = λ cut. absurd (cut refl);
})

Marks-none : Marks (mark_record ∷ []) [] Whole
Marks-none = record { first = mark_record; rest = []; some = refl; left = refl; begun = λ cut. absurd (cut refl) }

-- a record that isn't whole tells so by its last byte
Marks-cut : (d : ℕ) (fields : List (List ℕ)) (field : List ℕ) (byte : ℕ) (plain : List (List ℕ)) (found : Found)
    → (if byte == 255 then LongRecord else OpenQuote) ≡ found → whole_records (end_found found) (plain ∷ []) ≡ []
    → Marks ((fields ++ (field ++ byte ∷ []) ∷ []) ∷ records_at (config_by d) st.StartRecord [])
    (plain ∷ records_at (config_by d) st.StartRecord []) (end_found found)
Marks-cut d fields field byte plain found is none = rw (records_at-nil d) (record {
  first = fields ++ (field ++ byte ∷ []) ∷ [];
  rest = [];
  some = refl;
  left = rw none (ap (λ (f : Found). let left : TextLeft = record { records = []; end = end_found f } in left)
      (end_of-last fields field byte ∙ is));
  begun = λ cut. (plain, [], refl);
})

-- what the mark is read as behind a text that ends in a state
Marks-end : (d : ℕ) (s : State) (fields : List (List ℕ)) (field : List ℕ) → (10 == d) ≡ false → Fits s fields field
    → Marks (records_within (config_by d) s fields field mark) (records_within (config_by d) s fields field [])
    (end_in (is_within_quotes s))
unfolding next_record
Marks-end d st.StartRecord fields field apart fit = rw (fit.0, fit.1, records_at-nil d) Marks-none
Marks-end d st.AfterCr fields field apart fit = rw (fit.0, fit.1, records_at-nil d) Marks-none
Marks-end d st.StartField fields field apart fit = rw apart (Marks-record d (fields ++ field ∷ []))
Marks-end d st.InField fields field apart fit = rw apart (Marks-record d (fields ++ field ∷ []))
Marks-end d st.InQuoted fields field apart fit =
    Marks-cut d fields field 10 (fields ++ field ∷ []) OpenQuote refl refl
Marks-end d st.AfterQuote fields field apart fit = rw apart (Marks-record d (fields ++ field ∷ []))
Marks-end d st.InEscape fields field apart fit = absurd fit
Marks-end d st.InComment fields field apart fit = absurd fit

-- the mark behind a text that ends in a state; where columns aren't known by name, an open quote is closed before it
abbrev pub mark_in : Bool → Bool → List ℕ
mark_in by_name quoted = if quoted && not by_name then 34 ∷ mark else mark

Marks-closed : (d : ℕ) (s : State) (fields : List (List ℕ)) (field : List ℕ) (by_name : Bool) → (10 == d) ≡ false
    → Fits s fields field
    → Marks (records_within (config_by d) s fields field (mark_in by_name (is_within_quotes s)))
    (records_within (config_by d) s fields field []) (end_in (by_name && is_within_quotes s))
unfolding next_record
Marks-closed d s fields field true apart fit = by (is_within_quotes s) (Marks-end d s fields field apart fit)
  where
    plain : List (List (List ℕ))
    plain = records_within (config_by d) s fields field []

    by : (quoted : Bool) → Marks (records_within (config_by d) s fields field mark) plain (end_in quoted)
        → Marks (records_within (config_by d) s fields field (mark_in true quoted)) plain (end_in quoted)
    by true marks = marks
    by false marks = marks
Marks-closed d st.InQuoted fields field false apart fit = rw apart (Marks-record d (fields ++ field ∷ []))
Marks-closed d st.StartRecord fields field false apart fit = Marks-end d st.StartRecord fields field apart fit
Marks-closed d st.AfterCr fields field false apart fit = Marks-end d st.AfterCr fields field apart fit
Marks-closed d st.StartField fields field false apart fit = Marks-end d st.StartField fields field apart fit
Marks-closed d st.InField fields field false apart fit = Marks-end d st.InField fields field apart fit
Marks-closed d st.AfterQuote fields field false apart fit = Marks-end d st.AfterQuote fields field apart fit
Marks-closed d st.InEscape fields field false apart fit = absurd fit
Marks-closed d st.InComment fields field false apart fit = absurd fit

-- ---- a text of any length

-- one byte more, before a text and before that text with its mark
Marks-step : (d c : ℕ) (s : State) (fields : List (List ℕ)) (field marked plain : List ℕ) (end : TextEnd)
    → Fits s fields field
    → ((more : List (List ℕ)) (at_hand : List ℕ) → Fits (step (config_by d) s c).0 more at_hand
    → Marks (records_within (config_by d) (step (config_by d) s c).0 more at_hand marked)
    (records_within (config_by d) (step (config_by d) s c).0 more at_hand plain) end)
    → Marks (records_within (config_by d) s fields field (c ∷ marked))
    (records_within (config_by d) s fields field (c ∷ plain)) end
unfolding next_record
Marks-step d c s fields field marked plain end fit on = by (is_end (step cfg s c).1) (Goes-step d fields field c s fit)
  where
    cfg : Config
    cfg = config_by d

    next : State
    next = (step (config_by d) s c).0

    more : List (List ℕ)
    more = fields_after (step (config_by d) s c).1 fields field

    at_hand : List ℕ
    at_hand = field_after (step (config_by d) s c).1 c field

    by : (ends : Bool) → MatchBool ends (is_between next ≡ true) (Fits next more at_hand)
        → Marks (records_next (records_at cfg) (if ends then Some (more, next, marked)
        else next_record cfg next more at_hand marked))
        (records_next (records_at cfg) (if ends then Some (more, next, plain) else next_record cfg next more at_hand plain))
        end
    by true fits =
        rw (records_at-within cfg next marked, records_at-within cfg next plain)
        (Marks-cons more (records_within cfg next [] [] marked) (records_within cfg next [] [] plain) end
        (on [] [] (Fits-between next fits)))
    by false fits = on more at_hand fits

pub Marks-within : (d : ℕ) (xs : List ℕ) (s : State) (fields : List (List ℕ)) (field : List ℕ) → (10 == d) ≡ false
    → Fits s fields field
    → Marks (records_within (config_by d) s fields field (xs ++ mark))
    (records_within (config_by d) s fields field xs)
    (end_in (is_within_quotes (state_after (config_by d) s xs)))
Marks-within d [] s fields field apart fit = Marks-end d s fields field apart fit
Marks-within d (c ∷ xs) s fields field apart fit =
    Marks-step d c s fields field (xs ++ mark) xs
    (end_in (is_within_quotes (state_after (config_by d) (step (config_by d) s c).0 xs))) fit
    (λ more at_hand fits. Marks-within d xs (step (config_by d) s c).0 more at_hand apart fits)

-- ---- a text whose records have a bound

-- what is read of it from a state on, with the mark
abbrev pub bounded_at : Config → ℕ → Bool → State → ℕ → List ℕ → List ℕ
bounded_at cfg most by_name s count [] = mark_in by_name (is_within_quotes s)
bounded_at cfg most by_name s count (c ∷ xs) =
    if is_between (step cfg s c).0 then c ∷ bounded_at cfg most by_name (step cfg s c).0 0 xs
    else if nat_lt count most then c ∷ bounded_at cfg most by_name (step cfg s c).0 (count + 1) xs
    else 255 ∷ []

-- how it ends
abbrev pub bounded_end : Config → ℕ → Bool → State → ℕ → List ℕ → TextEnd
bounded_end cfg most by_name s count xs =
    if is_exceeded cfg most s count xs then InLongRecord
    else end_in (by_name && is_within_quotes (state_after cfg s xs))

-- one byte that ends no record is a record of its own, or the end of one, where the text ends
records_within-last : (d c : ℕ) (s : State) (fields : List (List ℕ)) (field : List ℕ) → Fits s fields field
    → is_between (step (config_by d) s c).0 ≡ false
    → (last : List (List ℕ))
    × (records_within (config_by d) s fields field (c ∷ []) ≡ last ∷ records_at (config_by d) st.StartRecord [])
unfolding next_record
records_within-last d c s fields field fit within =
    by (is_end (step cfg s c).1) (Goes-step d fields field c s fit)
  where
    cfg : Config
    cfg = config_by d

    next : State
    next = (step (config_by d) s c).0

    more : List (List ℕ)
    more = fields_after (step (config_by d) s c).1 fields field

    at_hand : List ℕ
    at_hand = field_after (step (config_by d) s c).1 c field

    ends : (at : State) → is_between at ≡ false → ends_at_end at ≡ true
    ends st.StartRecord between = cc
    ends st.AfterCr between = cc
    ends st.StartField between = refl
    ends st.InField between = refl
    ends st.InQuoted between = refl
    ends st.AfterQuote between = refl
    ends st.InEscape between = refl
    ends st.InComment between = refl

    by : (ended : Bool) → MatchBool ended (is_between next ≡ true) (Fits next more at_hand)
        → (last : List (List ℕ))
        × (records_next (records_at cfg) (if ended then Some (more, next, [])
        else if ends_at_end next then Some (more ++ (at_hand ∷ []), st.StartRecord, []) else None)
        ≡ last ∷ records_at cfg st.StartRecord [])
    by true between = absurd (true≢false (sym between ∙ within))
    by false fits = (more ++ at_hand ∷ [], rw (ends next within) refl)

-- the byte that stands in place of one too many is the last one of a record
Marks-excess : (d c : ℕ) (s : State) (fields : List (List ℕ)) (field : List ℕ) → (255 == d) ≡ false
    → Fits s fields field → is_between (step (config_by d) s c).0 ≡ false
    → Marks (records_within (config_by d) s fields field (255 ∷ []))
    (records_within (config_by d) s fields field (c ∷ [])) InLongRecord
unfolding next_record
Marks-excess d c s fields field apart fit within =
    let (last, is) = records_within-last d c s fields field fit within in rw is (by s fit last)
  where
    cut : (last : List (List ℕ))
        → Marks ((fields ++ (field ++ 255 ∷ []) ∷ []) ∷ records_at (config_by d) st.StartRecord [])
        (last ∷ records_at (config_by d) st.StartRecord []) InLongRecord
    cut last = Marks-cut d fields field 255 last LongRecord refl refl

    by : (at : State) → Fits at fields field → (last : List (List ℕ))
        → Marks (records_within (config_by d) at fields field (255 ∷ []))
        (last ∷ records_at (config_by d) st.StartRecord []) InLongRecord
    by st.StartRecord fits last = rw apart (cut last)
    by st.AfterCr fits last = rw apart (cut last)
    by st.StartField fits last = rw apart (cut last)
    by st.InField fits last = rw apart (cut last)
    by st.InQuoted fits last = cut last
    by st.AfterQuote fits last = rw apart (cut last)
    by st.InEscape fits last = absurd fits
    by st.InComment fits last = absurd fits

pub Marks-bounded : (d most : ℕ) (by_name : Bool) (xs : List ℕ) (s : State) (count : ℕ) (fields : List (List ℕ))
    (field : List ℕ) → (10 == d) ≡ false → (255 == d) ≡ false → Fits s fields field
    → Marks (records_within (config_by d) s fields field (bounded_at (config_by d) most by_name s count xs))
    (records_within (config_by d) s fields field (up_to_excess (config_by d) most s count xs))
    (bounded_end (config_by d) most by_name s count xs)
Marks-bounded d most by_name [] s count fields field apart other fit = Marks-closed d s fields field by_name apart fit
Marks-bounded d most by_name (c ∷ xs) s count fields field apart other fit =
    by (is_between next) refl (nat_lt count most)
    (λ so_far. Marks-step d c s fields field
    (bounded_at (config_by d) most by_name (step (config_by d) s c).0 so_far xs)
    (up_to_excess (config_by d) most (step (config_by d) s c).0 so_far xs)
    (bounded_end (config_by d) most by_name (step (config_by d) s c).0 so_far xs) fit
    (λ more at_hand fits. Marks-bounded d most by_name xs (step (config_by d) s c).0 so_far more at_hand apart other fits))
  where
    cfg : Config
    cfg = config_by d

    next : State
    next = (step (config_by d) s c).0

    by : (between : Bool) → is_between next ≡ between → (below : Bool)
        → ((so_far : ℕ) → Marks
        (records_within cfg s fields field (c ∷ bounded_at cfg most by_name next so_far xs))
        (records_within cfg s fields field (c ∷ up_to_excess cfg most next so_far xs))
        (bounded_end cfg most by_name next so_far xs))
        → Marks
        (records_within cfg s fields field (if between then c ∷ bounded_at cfg most by_name next 0 xs
        else if below then c ∷ bounded_at cfg most by_name next (count + 1) xs else 255 ∷ []))
        (records_within cfg s fields field (if between then c ∷ up_to_excess cfg most next 0 xs
        else if below then c ∷ up_to_excess cfg most next (count + 1) xs else c ∷ []))
        (if (if between then is_exceeded cfg most next 0 xs
        else if below then is_exceeded cfg most next (count + 1) xs else true) then InLongRecord
        else end_in (by_name && is_within_quotes (state_after cfg next xs)))
    by true is below on = on 0
    by false is true on = on (count + 1)
    by false is false on = Marks-excess d c s fields field other fit is
