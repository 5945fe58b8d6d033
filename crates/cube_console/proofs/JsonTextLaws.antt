-- The lines of JSON that a text makes byte by byte are those of its records, as csv reads them.
use Rattle.std.proofs.Common.{◌≡◌, ◌≤◌, ◌∙◌, ◌++◌, ◌∷◌, [], ℕ, zero, suc, Bool, true, false, List, length, arith, refl, sym, ap}
use Rattle.std.proofs.Common.{add-one, subst}
use Rattle.std.specs.Prelude.{Option, None, Some, if◌then◌else◌}
use Rattle.std.specs.List.{flat_map}
use Rattle.csv.specs.Machine.{is_end, next_record}
use Rattle.csv.specs.Machine as csv
use Rattle.csv.specs.Reading.{default_config, records, records_from, records_next}
use Rattle.csv.specs.declared.parser.State.{State}
use Rattle.csv.specs.declared.parser.State.TheVariants as st
use Rattle.cube_console.specs.Ends.{IsAt}
use Rattle.cube_console.specs.Json.{json_line, json_text}
use Rattle.cube_console.specs.JsonLines.{EndsWithRecord, Making, begun, columns_after, line_of, made_text, make_byte, make_bytes}
use Rattle.cube_console.specs.Records.{Reading, cleared, ends_record, read_byte, step}
use Rattle.cube_console.specs.declared.place.Place.{Place}
use Rattle.cube_console.specs.declared.place.Place.TheVariants as at
use Rattle.cube_console.specs.declared.views.json.Value.{Value}
use Rattle.cube_console.proofs.RecordsLaws.{IsAt-step, ends-step, ends_at_end-none, field-ends, field-step, fields-step}

-- the records of a text that a reader of csv goes on with, behind fields and bytes of a field
abbrev rows_at : ℕ → State → Reading → List ℕ → List (List (List ℕ))
rows_at n s r bytes =
    records_next (records_from default_config n) (next_record default_config s r.fields r.field bytes)

-- the lines of records, the first of which is the header where there are no columns yet
abbrev text_under : ℕ → Option (List (List ℕ × Value)) → List (List (List ℕ)) → List ℕ
text_under d None rows = json_text d rows
text_under d (Some columns) rows = flat_map (json_line columns) rows

text_under-none : (d : ℕ) (columns : Option (List (List ℕ × Value))) → text_under d columns [] ≡ []
text_under-none d None = refl
text_under-none d (Some columns) = refl

text_under-more : (d : ℕ) (columns : Option (List (List ℕ × Value))) (row : List (List ℕ)) (rows : List (List (List ℕ)))
    → text_under d columns (row ∷ rows) ≡ line_of columns row ++ text_under d (columns_after d columns row) rows
text_under-more d None row rows = refl
text_under-more d (Some columns) row rows = refl

-- the lines behind a byte that ends a record, and behind another
ended : Making → ℕ → ℕ → Making
ended m d b = record {
  columns = columns_after d m.columns (read_byte m.reading b).fields;
  reading = cleared (read_byte m.reading b);
}

gone_on : Making → ℕ → Making
gone_on m b = record { columns = m.columns; reading = read_byte m.reading b }

made-end : (d : ℕ) (m : Making) (b : ℕ) (bytes : List ℕ) (ends : Bool) → ends_record m.reading b ≡ ends
    → made_text d m (b ∷ bytes)
    ≡ (if ends then line_of m.columns (read_byte m.reading b).fields else [])
    ++ made_text d (if ends then ended m d b else gone_on m b) bytes
unfolding ended gone_on
made-end d m b bytes ends is =
    ap (λ (e : Bool). (if e then line_of m.columns (read_byte m.reading b).fields else [])
    ++ made_text d (if e then ended m d b else gone_on m b) bytes) is

stands-end : (d : ℕ) (m : Making) (b : ℕ) (bytes : List ℕ) (ends : Bool) → ends_record m.reading b ≡ ends
    → make_bytes d m (b ∷ bytes) ≡ make_bytes d (if ends then ended m d b else gone_on m b) bytes
unfolding ended gone_on
stands-end d m b bytes ends is = ap (λ (e : Bool). make_bytes d (if e then ended m d b else gone_on m b) bytes) is

-- the rows behind a byte that ends a record, and behind another
next-end : (n : ℕ) (s : State) (r : Reading) (b : ℕ) (bytes : List ℕ) (ends : Bool)
    → is_end (csv.step default_config s b).1 ≡ ends
    → rows_at n s r (b ∷ bytes)
    ≡ records_next (records_from default_config n)
    (if ends then Some (
      csv.fields_after (csv.step default_config s b).1 r.fields r.field,
      (csv.step default_config s b).0,
      bytes,
    )
    else next_record default_config (csv.step default_config s b).0
    (csv.fields_after (csv.step default_config s b).1 r.fields r.field)
    (csv.field_after (csv.step default_config s b).1 b r.field) bytes)
unfolding next_record
next-end n s r b bytes ends is =
    ap (λ (e : Bool). records_next (records_from default_config n)
    (if e then Some (
      csv.fields_after (csv.step default_config s b).1 r.fields r.field,
      (csv.step default_config s b).0,
      bytes,
    )
    else next_record default_config (csv.step default_config s b).0
    (csv.fields_after (csv.step default_config s b).1 r.fields r.field)
    (csv.field_after (csv.step default_config s b).1 b r.field) bytes)) is

-- of a text that ends with a record, the lines that its bytes make are those of its records
abbrev MadeOf : ℕ → List ℕ → Type 0
MadeOf d bytes = (n : ℕ) (s : State) (m : Making) → IsAt s m.reading.place → length bytes ≤ n
    → (make_bytes d m bytes).reading.place ≡ at.Record
    → made_text d m bytes ≡ text_under d m.columns (rows_at n s m.reading bytes)

made-none : (d : ℕ) → MadeOf d []
unfolding next_record
made-none d n s m is long whole =
    let none = ends_at_end-none s (subst (λ (p : Place). IsAt s p) whole is) in
    sym (ap (λ (e : Bool). text_under d m.columns (records_next (records_from default_config n)
    (if e then Some (m.reading.fields ++ (m.reading.field ∷ []), st.StartRecord, []) else None))) none
    ∙ text_under-none d m.columns)

made-next : (d b : ℕ) (bytes : List ℕ) → MadeOf d bytes → MadeOf d (b ∷ bytes)
unfolding records_from ended gone_on
made-next d b bytes more n s m is long whole = go (ends_record m.reading b) refl n long
  where
    next : State
    next = (csv.step default_config s b).0

    is_next : IsAt next (step m.reading.place b).0
    is_next = IsAt-step s m.reading.place b is

    row : List (List ℕ)
    row = csv.fields_after (csv.step default_config s b).1 m.reading.fields m.reading.field

    rest_of : ℕ → List (List (List ℕ))
    rest_of k = records_next (records_from default_config k) (next_record default_config next [] [] bytes)

    go : (ends : Bool) → ends_record m.reading b ≡ ends → (n : ℕ) → length (b ∷ bytes) ≤ n
        → made_text d m (b ∷ bytes) ≡ text_under d m.columns (rows_at n s m.reading (b ∷ bytes))
    go true ends zero long = absurd (omega arith)
    go true ends (suc k) long =
        let read = read_byte m.reading b in
        let stands = sym (ap (λ (m : Making). m.reading.place) (stands-end d m b bytes true ends)) ∙ whole in
        made-end d m b bytes true ends
        ∙ ap (λ t. line_of m.columns read.fields ++ t) (more k next (ended m d b) is_next (omega arith) stands)
        ∙ ap (λ (field : List ℕ). line_of m.columns read.fields
        ++ text_under d (columns_after d m.columns read.fields) (records_next (records_from default_config k)
        (next_record default_config next [] field bytes)))
        (field-ends (step m.reading.place b).1 b m.reading.field ends)
        ∙ ap (λ (fields : List (List ℕ)). line_of m.columns fields
        ++ text_under d (columns_after d m.columns fields) (rest_of k)) (sym (fields-step s m.reading b is))
        ∙ sym (text_under-more d m.columns row (rest_of k))
        ∙ sym (ap (text_under d m.columns)
        (next-end (suc k) s m.reading b bytes true (ends-step s m.reading.place b is ∙ ends)))
    go false ends n long =
        let stands = sym (ap (λ (m : Making). m.reading.place) (stands-end d m b bytes false ends)) ∙ whole in
        made-end d m b bytes false ends ∙ more n next (gone_on m b) is_next (omega arith) stands
        ∙ ap (λ (fields : List (List ℕ)). text_under d m.columns (records_next (records_from default_config n)
        (next_record default_config next fields (read_byte m.reading b).field bytes)))
        (sym (fields-step s m.reading b is))
        ∙ ap (λ (field : List ℕ). text_under d m.columns (records_next (records_from default_config n)
        (next_record default_config next row field bytes))) (sym (field-step s m.reading b is))
        ∙ sym (ap (text_under d m.columns)
        (next-end n s m.reading b bytes false (ends-step s m.reading.place b is ∙ ends)))

made-all : (d : ℕ) (bytes : List ℕ) → MadeOf d bytes
made-all d [] = made-none d
made-all d (b ∷ bytes) = made-next d b bytes (made-all d bytes)

-- of a whole text
pub made_text-begun : (d : ℕ) (text : List ℕ) → EndsWithRecord d text
    → made_text d begun text ≡ json_text d (records default_config text)
unfolding records_from
made_text-begun d text whole =
    rw (add-one (length text))
    (made-all d text (length text) st.StartRecord begun (record { usual = tt; same = refl }) (omega arith) whole)
