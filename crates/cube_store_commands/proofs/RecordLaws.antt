-- The text of a record, and the record in a text.
use Rattle.std.proofs.Common.{◌≡◌, ◌==◌, inl, inr, ◌∙◌, ◌++◌, ◌∷◌, ◌-◌, [], add-one, ℕ, List, true, false, length, take}
use Rattle.std.proofs.Common.{refl, sym, ap, subst, append_assoc, arith, length-append}
use Rattle.std.proofs.lemmas.List.{append-nil, take_all, take-append-le}
use Rattle.std.proofs.lemmas.Bool.{cases_Bool}
use Rattle.std.specs.List.{list_any}
use Rattle.std.specs.Prelude.{All, Some, if◌then◌else◌}
use Rattle.csv.specs.Writing.{default_writer, is_blank, needs_byte, read_back, row_body, row_text}
use Rattle.cube_feed.specs.Reading.{Advances, RecordsView}
use Rattle.csv.specs.Reading.{default_config, records, records_from, strip_bom}
use Rattle.csv.proofs.RoundTrip.{read-write}
use Rattle.cube_core.specs.Records.{records_of}
use Rattle.cube_store_commands.proofs.PieceLaws.{first_piece, other_pieces, is_blank-pieces, pieces-begin, row_body-pieces}
use Rattle.cube_store_commands.specs.Pieces.{IsPlainByte, MayBegin, pieces}
use Rattle.cube_store_commands.specs.Records.{ReadsBack, fields_in, first_of, record_text}

-- a line is the text of its record and a line end
pub row_text-record : (fields : List (List ℕ)) → row_text default_writer fields ≡ record_text fields ++ 10 ∷ []
row_text-record fields = sym (append_assoc (row_body default_writer fields)
    (if is_blank default_writer fields then 34 ∷ 34 ∷ [] else []) (10 ∷ []))

-- a record that was taken from a text is its first
pub first_of-taken : (records : List (List (List ℕ))) (view : RecordsView) → Advances (Some records) true view
    → first_of records ≡ view.fields
first_of-taken [] view advances = cc advances
first_of-taken (fields ∷ records) view advances = sym advances.1

-- where none was taken there is none
pub first_of-none : (records : List (List (List ℕ))) (view : RecordsView) → Advances (Some records) false view
    → first_of records ≡ []
first_of-none [] view advances = refl
first_of-none (fields ∷ records) view advances = cc advances.0

-- a line without its line end
pub without_end : (text line : List ℕ) → line ≡ text ++ 10 ∷ [] → take (length line - 1) line ≡ text
without_end text line is =
    let one_less : length line - 1 ≡ length text = omega (arith, ap length is, length-append text (10 ∷ [])) in
    rw (one_less, is)
    (take-append-le (length text) text (10 ∷ []) (omega arith) ∙ take_all (length text) text (omega arith))

-- ---- reading back
strip_bom-same : (b : ℕ) (text : List ℕ) → (b == 0xEF) ≡ false → strip_bom (b ∷ text) ≡ b ∷ text
unfolding strip_bom
strip_bom-same b [] other = refl
strip_bom-same b (c ∷ []) other = refl
strip_bom-same b (c ∷ d ∷ text) other = rw other refl

strip_bom-row : (b : ℕ) (more : List ℕ) (others : List (List ℕ)) → (b == 0xEF) ≡ false
    → strip_bom (row_text default_writer ((b ∷ more) ∷ others)) ≡ row_text default_writer ((b ∷ more) ∷ others)
strip_bom-row b more others other = elim (cases_Bool (list_any (needs_byte default_writer) (b ∷ more))) [
  | inl needs ↦ rw needs (strip_bom-same 34 _ refl)
  | inr plain ↦ rw plain (strip_bom-same b _ other)
]

first_of-row : (fields : List (List ℕ))
    → first_of (records default_config (row_text default_writer fields)) ≡ read_back fields
unfolding records_from
first_of-row fields =
    let row : List ℕ = row_text default_writer fields in
    let step = rw (append-nil row) at (read-write fields []) in
    rw (add-one (length row), step) refl

pub ReadsBack-text : (fields : List (List ℕ)) → ReadsBack fields (record_text fields)
ReadsBack-text fields b more others is other =
    subst (λ (f : List (List ℕ)). fields_in (record_text f) ≡ f) (sym is)
    (ap (λ text. first_of (records_of text)) (sym (row_text-record ((b ∷ more) ∷ others)))
    ∙ ap (λ text. first_of (records default_config text)) (strip_bom-row b more others other)
    ∙ first_of-row ((b ∷ more) ∷ others))

-- ---- a text without quotes
plain_fields : (b : ℕ) (more : List ℕ) → MayBegin b → All IsPlainByte (b ∷ more)
    → fields_in (b ∷ more) ≡ pieces (b ∷ more)
plain_fields b more begins plain =
    let text : List ℕ = b ∷ more in
    let written : record_text (pieces text) ≡ text = rw (is_blank-pieces b more begins.no_comma plain)
    (append-nil (row_body default_writer (pieces text)) ∙ row_body-pieces text plain) in
    subst (λ (t : List ℕ). fields_in t ≡ pieces text) written
    (ReadsBack-text (pieces text) b (first_piece (pieces more)) (other_pieces (pieces more))
    (pieces-begin b more begins.no_comma) begins.no_mark)

-- the fields of a text that begins as a change does and calls for no quotes are its pieces
pub fields_in-pieces : (text : List ℕ) → (b : ℕ) × (more : List ℕ) × (text ≡ b ∷ more) × MayBegin b
    → All IsPlainByte text → fields_in text ≡ pieces text
fields_in-pieces text begins plain =
    let fields = plain_fields begins.0 begins.1 begins.3 (subst (All IsPlainByte) begins.2 plain) in
    subst (λ (t : List ℕ). fields_in t ≡ pieces t) (sym begins.2) fields
