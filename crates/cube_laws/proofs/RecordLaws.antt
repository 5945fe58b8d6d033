-- The records of lines, however these end.
use Rattle.std.specs.Prelude.{◌≡◌, ◌≢◌, ◌==◌, ◌+◌, ◌≤◌, ◌⊎◌, ℕ, zero, suc, Bool, true, false, List, [], ◌∷◌, ◌++◌}
use Rattle.std.specs.Prelude.{codes, length, if◌then◌else◌, Option, Some, None}
use Rattle.std.specs.List.{AllByRecursion, AllZip, flat_map}
use Rattle.std.proofs.Common.{refl, sym, ap, ◌∙◌, subst, inl, inr, arith, append_assoc}
use Rattle.std.proofs.lemmas.Bool.{cases_Bool, eqb-true, ne_eqb}
use Rattle.std.proofs.lemmas.List.{append-nil, length-append}
use Rattle.csv.specs.Machine.{Read, next_record, step, is_end, fields_after, field_after, after_end}
use Rattle.csv.specs.Reading.{records, records_from, default_config, strip_bom}
use Rattle.csv.specs.Writing.{read_back}
use Rattle.csv.specs.declared.parser.State.{State}
use Rattle.csv.specs.declared.parser.State.TheVariants as st
use Rattle.csv.specs.declared.parser.Terminator.TheVariants as term
use Rattle.csv.proofs.RoundTrip.{read-write}
use Rattle.cube_core.specs.Records.{records_of}
use Rattle.cube_laws.specs.Lines.{EndsLine, IsEnded, IsUnended}

-- ---- one record
-- a byte that ends no record
next_record-step : (s : State) (fields : List (List ℕ)) (field : List ℕ) (byte : ℕ) (rest : List ℕ)
    → is_end (step default_config s byte).1 ≡ false
    → next_record default_config s fields field (byte ∷ rest)
    ≡ next_record default_config (step default_config s byte).0 (fields_after (step default_config s byte).1 fields field)
    (field_after (step default_config s byte).1 byte field) rest
unfolding next_record
next_record-step s fields field byte rest goes_on =
    let ended : Option Read
    = Some (fields_after (step default_config s byte).1 fields field, (step default_config s byte).0, rest) in
    ap (λ (b : Bool). if b then ended
    else next_record default_config (step default_config s byte).0
    (fields_after (step default_config s byte).1 fields field)
    (field_after (step default_config s byte).1 byte field) rest) goes_on

-- a byte that ends one
next_record-end : (s : State) (fields : List (List ℕ)) (field : List ℕ) (byte : ℕ) (rest : List ℕ)
    → is_end (step default_config s byte).1 ≡ true
    → next_record default_config s fields field (byte ∷ rest)
    ≡ Some (fields_after (step default_config s byte).1 fields field, (step default_config s byte).0, rest)
unfolding next_record
next_record-end s fields field byte rest ends =
    let ended : Option Read
    = Some (fields_after (step default_config s byte).1 fields field, (step default_config s byte).0, rest) in
    ap (λ (b : Bool). if b then ended
    else next_record default_config (step default_config s byte).0
    (fields_after (step default_config s byte).1 fields field)
    (field_after (step default_config s byte).1 byte field) rest) ends

-- the fields and the text after them that a read gives
abbrev given_by : Option Read → List (List ℕ)
given_by None = []
given_by (Some read) = read.0

abbrev left_by : Option Read → List ℕ
left_by None = []
left_by (Some read) = read.2

-- the bytes up to an LF are a record of these fields from here
abbrev Gives : State → List (List ℕ) → List ℕ → List ℕ → List (List ℕ) → Type 0
Gives s fields field text given =
    next_record default_config s fields field (text ++ 10 ∷ 10 ∷ []) ≡ Some (given, st.StartRecord, 10 ∷ [])

-- an LF doesn't stand within them
Gives-within : (s : State) (fields : List (List ℕ)) (field : List ℕ) (byte : ℕ) (text : List ℕ)
    (given : List (List ℕ)) → Gives s fields field (byte ∷ text) given → is_end (step default_config s byte).1 ≡ false
Gives-within s fields field byte text given gives = elim (cases_Bool (is_end (step default_config s byte).1)) [
  | inl ends ↦
      let rest : text ++ 10 ∷ 10 ∷ [] ≡ 10 ∷ []
      = ap left_by (sym (next_record-end s fields field byte (text ++ 10 ∷ 10 ∷ []) ends) ∙ gives) in
      absurd (omega (arith, ap length rest, length-append text (10 ∷ 10 ∷ [])))
  | inr goes_on ↦ goes_on
]

-- any end of a line ends it
Gives-EndsLine : (s : State) (fields : List (List ℕ)) (field text : List ℕ) (given : List (List ℕ)) (byte : ℕ)
    (tail : List ℕ) → Gives s fields field text given → EndsLine byte
    → next_record default_config s fields field (text ++ byte ∷ tail) ≡ Some (given, after_end term.CRLF byte, tail)
unfolding next_record
Gives-EndsLine st.StartRecord fields field [] given byte tail gives ends =
    let none : 0 ≡ 1 = ap (λ o. length (left_by o)) gives in absurd (omega (arith, none))
Gives-EndsLine st.AfterCr fields field [] given byte tail gives ends =
    let none : 0 ≡ 1 = ap (λ o. length (left_by o)) gives in absurd (omega (arith, none))
Gives-EndsLine st.InComment fields field [] given byte tail gives ends =
    let none : 0 ≡ 1 = ap (λ o. length (left_by o)) gives in absurd (omega (arith, none))
Gives-EndsLine st.InQuoted fields field [] given byte tail gives ends =
    let none : 0 ≡ 1 = ap (λ o. length (left_by o)) gives in absurd (omega (arith, none))
Gives-EndsLine st.InEscape fields field [] given byte tail gives ends =
    let none : 0 ≡ 1 = ap (λ o. length (left_by o)) gives in absurd (omega (arith, none))
Gives-EndsLine st.StartField fields field [] given byte tail gives ends =
    let same : fields ++ field ∷ [] ≡ given = ap given_by gives in
    elim ends [
      | inl is ↦ rw is (ap (λ g. Some (g, st.AfterCr, tail)) same)
      | inr is ↦ rw is (ap (λ g. Some (g, st.StartRecord, tail)) same)
    ]
Gives-EndsLine st.InField fields field [] given byte tail gives ends =
    let same : fields ++ field ∷ [] ≡ given = ap given_by gives in
    elim ends [
      | inl is ↦ rw is (ap (λ g. Some (g, st.AfterCr, tail)) same)
      | inr is ↦ rw is (ap (λ g. Some (g, st.StartRecord, tail)) same)
    ]
Gives-EndsLine st.AfterQuote fields field [] given byte tail gives ends =
    let same : fields ++ field ∷ [] ≡ given = ap given_by gives in
    elim ends [
      | inl is ↦ rw is (ap (λ g. Some (g, st.AfterCr, tail)) same)
      | inr is ↦ rw is (ap (λ g. Some (g, st.StartRecord, tail)) same)
    ]
Gives-EndsLine s fields field (first ∷ text) given byte tail gives ends =
    let goes_on = Gives-within s fields field first text given gives in
    next_record-step s fields field first (text ++ byte ∷ tail) goes_on
    ∙ Gives-EndsLine (step default_config s first).0 (fields_after (step default_config s first).1 fields field)
    (field_after (step default_config s first).1 first field) text given byte tail
    (sym (next_record-step s fields field first (text ++ 10 ∷ 10 ∷ []) goes_on) ∙ gives) ends

-- and so does the end of the text
Gives-nothing : (s : State) (fields : List (List ℕ)) (field text : List ℕ) (given : List (List ℕ))
    → Gives s fields field text given
    → next_record default_config s fields field text ≡ Some (given, st.StartRecord, [])
unfolding next_record
Gives-nothing st.StartRecord fields field [] given gives =
    let none : 0 ≡ 1 = ap (λ o. length (left_by o)) gives in absurd (omega (arith, none))
Gives-nothing st.AfterCr fields field [] given gives =
    let none : 0 ≡ 1 = ap (λ o. length (left_by o)) gives in absurd (omega (arith, none))
Gives-nothing st.InComment fields field [] given gives =
    let none : 0 ≡ 1 = ap (λ o. length (left_by o)) gives in absurd (omega (arith, none))
Gives-nothing st.InQuoted fields field [] given gives =
    let none : 0 ≡ 1 = ap (λ o. length (left_by o)) gives in absurd (omega (arith, none))
Gives-nothing st.InEscape fields field [] given gives =
    let none : 0 ≡ 1 = ap (λ o. length (left_by o)) gives in absurd (omega (arith, none))
Gives-nothing st.StartField fields field [] given gives =
    let same : fields ++ field ∷ [] ≡ given = ap given_by gives in ap (λ g. Some (g, st.StartRecord, [])) same
Gives-nothing st.InField fields field [] given gives =
    let same : fields ++ field ∷ [] ≡ given = ap given_by gives in ap (λ g. Some (g, st.StartRecord, [])) same
Gives-nothing st.AfterQuote fields field [] given gives =
    let same : fields ++ field ∷ [] ≡ given = ap given_by gives in ap (λ g. Some (g, st.StartRecord, [])) same
Gives-nothing s fields field (first ∷ text) given gives =
    let goes_on = Gives-within s fields field first text given gives in
    next_record-step s fields field first text goes_on
    ∙ Gives-nothing (step default_config s first).0 (fields_after (step default_config s first).1 fields field)
    (field_after (step default_config s first).1 first field) text given
    (sym (next_record-step s fields field first (text ++ 10 ∷ 10 ∷ []) goes_on) ∙ gives)

-- a line without its end gives its fields
read_back-some : (fields : List (List ℕ)) → 1 ≤ length fields → read_back fields ≡ fields
read_back-some [] some = absurd (omega arith)
read_back-some (field ∷ fields) some = refl

IsUnended-Gives : (fields : List (List ℕ)) (text : List ℕ) → IsUnended fields text
    → Gives st.StartRecord [] [] text fields
IsUnended-Gives fields text unended =
    let P : List ℕ → Type 0 =
    λ whole. next_record default_config st.StartRecord [] [] whole ≡ Some (fields, st.StartRecord, 10 ∷ []) in
    subst P
    (ap (λ (whole : List ℕ). whole ++ 10 ∷ []) unended.written ∙ append_assoc text (10 ∷ []) (10 ∷ []))
    (read-write fields (10 ∷ [])
    ∙ ap (λ g. Some (g, st.StartRecord, 10 ∷ [])) (read_back-some fields unended.some_field))

-- ---- before a record
-- a record may begin
abbrev MayBegin : State → Type 0
MayBegin s = (s ≡ st.StartRecord) ⊎ (s ≡ st.AfterCr)

after_end-MayBegin : (byte : ℕ) → EndsLine byte → MayBegin (after_end term.CRLF byte)
after_end-MayBegin byte (inl is) = inr (ap (after_end term.CRLF) is)
after_end-MayBegin byte (inr is) = inl (ap (after_end term.CRLF) is)

AfterCr-same : (text : List ℕ)
    → next_record default_config st.AfterCr [] [] text ≡ next_record default_config st.StartRecord [] [] text
unfolding next_record
AfterCr-same [] = refl
AfterCr-same (byte ∷ text) = elim (cases_Bool (byte == 10)) [
  | inl same ↦
      subst (λ (b : ℕ). next_record default_config st.AfterCr [] [] (b ∷ text)
      ≡ next_record default_config st.StartRecord [] [] (b ∷ text)) (sym (eqb-true byte 10 same)) refl
  | inr other ↦ rw other refl
]

MayBegin-same : (s : State) (text : List ℕ) → MayBegin s
    → next_record default_config s [] [] text ≡ next_record default_config st.StartRecord [] [] text
MayBegin-same s text (inl is) = ap (λ (other : State). next_record default_config other [] [] text) is
MayBegin-same s text (inr is) =
    ap (λ (other : State). next_record default_config other [] [] text) is ∙ AfterCr-same text

-- ends of lines before a record are passed over
EndsLine-skipped : (blank text : List ℕ) → AllByRecursion EndsLine blank
    → next_record default_config st.StartRecord [] [] (blank ++ text)
    ≡ next_record default_config st.StartRecord [] [] text
unfolding next_record
EndsLine-skipped [] text all = refl
EndsLine-skipped (byte ∷ blank) text all =
    skipped byte all.0 ∙ EndsLine-skipped blank text all.1
  where
    skipped : (b : ℕ) → EndsLine b → next_record default_config st.StartRecord [] [] (b ∷ (blank ++ text))
        ≡ next_record default_config st.StartRecord [] [] (blank ++ text)
    skipped b (inl is) = rw is refl
    skipped b (inr is) = rw is refl

begins : (s : State) (blank text : List ℕ) → MayBegin s → AllByRecursion EndsLine blank
    → next_record default_config s [] [] (blank ++ text) ≡ next_record default_config st.StartRecord [] [] text
begins s blank text may all = MayBegin-same s (blank ++ text) may ∙ EndsLine-skipped blank text all

-- ---- all records
-- the texts of lines, one after another
abbrev together : List (List ℕ) → List ℕ
together texts = flat_map (λ text. text) texts

-- what comes after lines reads as these records, given so many turns
abbrev ReadsAs : List ℕ → ℕ → List (List (List ℕ)) → Type 0
ReadsAs tail enough last =
    (turns : ℕ) (s : State) (blank : List ℕ) → enough ≤ turns → MayBegin s → AllByRecursion EndsLine blank
    → records_from default_config turns s (blank ++ tail) ≡ last

records_from-IsEnded : (lines : List (List (List ℕ))) (texts : List (List ℕ)) (tail : List ℕ) (enough : ℕ)
    (last : List (List (List ℕ))) → AllZip IsEnded lines texts → ReadsAs tail enough last
    → ReadsAs (together texts ++ tail) (length lines + enough) (lines ++ last)
unfolding records_from
records_from-IsEnded [] [] tail enough last all reads turns s blank most may blanks =
    reads turns s blank (omega arith) may blanks
records_from-IsEnded [] (text ∷ texts) tail enough last all reads turns s blank most may blanks = absurd all
records_from-IsEnded (fields ∷ lines) [] tail enough last all reads turns s blank most may blanks = absurd all
records_from-IsEnded (fields ∷ lines) (text ∷ texts) tail enough last all reads zero s blank most may blanks =
    absurd (omega arith)
records_from-IsEnded (fields ∷ lines) (text ∷ texts) tail enough last all reads (suc turns) s blank most may blanks =
    let one = all.0 in
    let after : List ℕ = together texts ++ tail in
    let laid : (text ++ together texts) ++ tail ≡ one.body ++ one.first ∷ (one.more ++ after)
    = append_assoc text (together texts) tail
    ∙ ap (λ (t : List ℕ). t ++ after) one.text_is
    ∙ append_assoc one.body (one.first ∷ one.more) after in
    let read : next_record default_config s [] [] (blank ++ ((text ++ together texts) ++ tail))
    ≡ Some (fields, after_end term.CRLF one.first, one.more ++ after)
    = begins s blank ((text ++ together texts) ++ tail) may blanks
    ∙ ap (λ (t : List ℕ). next_record default_config st.StartRecord [] [] t) laid
    ∙ Gives-EndsLine st.StartRecord [] [] one.body fields one.first (one.more ++ after)
    (IsUnended-Gives fields one.body one.unended) one.ends in
    rw read (ap (λ (rest : List (List (List ℕ))). fields ∷ rest)
    (records_from-IsEnded lines texts tail enough last all.1 reads turns (after_end term.CRLF one.first) one.more
    (omega arith) (after_end-MayBegin one.first one.ends) one.more_end))

-- nothing reads as no record
ReadsAs-nothing : ReadsAs [] 0 []
unfolding records_from next_record
ReadsAs-nothing zero s blank most may blanks = refl
ReadsAs-nothing (suc turns) s blank most may blanks = rw (begins s blank [] may blanks) refl

-- a line without its end reads as its record
records_from-nothing : (turns : ℕ) → records_from default_config turns st.StartRecord [] ≡ []
unfolding records_from next_record
records_from-nothing zero = refl
records_from-nothing (suc turns) = refl

ReadsAs-IsUnended : (fields : List (List ℕ)) (text : List ℕ) → IsUnended fields text → ReadsAs text 1 (fields ∷ [])
unfolding records_from
ReadsAs-IsUnended fields text unended zero s blank most may blanks = absurd (omega arith)
ReadsAs-IsUnended fields text unended (suc turns) s blank most may blanks =
    let read : next_record default_config s [] [] (blank ++ text) ≡ Some (fields, st.StartRecord, [])
    = begins s blank text may blanks
    ∙ Gives-nothing st.StartRecord [] [] text fields (IsUnended-Gives fields text unended) in
    rw read (ap (λ (rest : List (List (List ℕ))). fields ∷ rest) (records_from-nothing turns))

-- there are no more lines than bytes
IsEnded-length : (lines : List (List (List ℕ))) (texts : List (List ℕ)) → AllZip IsEnded lines texts
    → length lines ≤ length (together texts)
IsEnded-length [] texts all = omega arith
IsEnded-length (fields ∷ lines) [] all = absurd all
IsEnded-length (fields ∷ lines) (text ∷ texts) all =
    omega (
      arith,
      IsEnded-length lines texts all.1,
      length-append text (together texts),
      ap length all.0.text_is,
      length-append all.0.body (all.0.first ∷ all.0.more),
    )

pub records-IsEnded : (lines : List (List (List ℕ))) (blank : List ℕ) (texts : List (List ℕ))
    → AllByRecursion EndsLine blank → AllZip IsEnded lines texts
    → records default_config (blank ++ flat_map (λ text. text) texts) ≡ lines
records-IsEnded lines blank texts blanks all =
    let whole : List ℕ = blank ++ together texts in
    let read : records_from default_config (length whole + 1) st.StartRecord (blank ++ (together texts ++ []))
    ≡ lines ++ []
    = records_from-IsEnded lines texts [] 0 [] all ReadsAs-nothing (length whole + 1) st.StartRecord blank
    (omega (arith, IsEnded-length lines texts all, length-append blank (together texts))) (inl refl) blanks in
    ap (λ (t : List ℕ). records_from default_config (length whole + 1) st.StartRecord (blank ++ t))
    (sym (append-nil (together texts)))
    ∙ read ∙ append-nil lines

pub records-IsUnended : (lines : List (List (List ℕ))) (blank : List ℕ) (texts : List (List ℕ))
    (fields : List (List ℕ)) (last : List ℕ)
    → AllByRecursion EndsLine blank → AllZip IsEnded lines texts → IsUnended fields last
    → records default_config (blank ++ (flat_map (λ text. text) texts ++ last)) ≡ lines ++ fields ∷ []
records-IsUnended lines blank texts fields last blanks all unended =
    records_from-IsEnded lines texts last 1 (fields ∷ []) all (ReadsAs-IsUnended fields last unended)
    (length (blank ++ (together texts ++ last)) + 1) st.StartRecord blank
    (omega (
      arith,
      IsEnded-length lines texts all,
      length-append blank (together texts ++ last),
      length-append (together texts) last,
    )) (inl refl) blanks

-- ---- the byte order mark
pub records_of-mark : (text : List ℕ) → records_of (0xEF ∷ 0xBB ∷ 0xBF ∷ text) ≡ records default_config text
unfolding strip_bom
records_of-mark text = refl

strip_bom-other : (byte : ℕ) (text : List ℕ) → byte ≢ 0xEF → strip_bom (byte ∷ text) ≡ byte ∷ text
unfolding strip_bom
strip_bom-other byte [] other = refl
strip_bom-other byte (second ∷ []) other = refl
strip_bom-other byte (second ∷ third ∷ text) other = rw (ne_eqb byte 0xEF other) refl

pub records_of-other : (byte : ℕ) (text : List ℕ) → byte ≢ 0xEF
    → records_of (byte ∷ text) ≡ records default_config (byte ∷ text)
records_of-other byte text other = ap (records default_config) (strip_bom-other byte text other)

pub records_of-none : records_of [] ≡ []
unfolding strip_bom records_from next_record
records_of-none = refl

-- ---- odd quotes
pub records-quote_within : records default_config (codes "a\"b,c\n") ≡ (codes "a\"b" ∷ codes "c" ∷ []) ∷ []
unfolding records_from next_record
records-quote_within = refl

pub records-quote_behind : records default_config (codes "\"a\"b,c\n") ≡ (codes "ab" ∷ codes "c" ∷ []) ∷ []
unfolding records_from next_record
records-quote_behind = refl

pub records-quote_unclosed : records default_config (codes "\"a,b\nc") ≡ (codes "a,b\nc" ∷ []) ∷ []
unfolding records_from next_record
records-quote_unclosed = refl
