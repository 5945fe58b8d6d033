-- How the lines of JSON grow, byte by byte.
use Rattle.std.proofs.Common.{◌≡◌, ◌∙◌, ◌++◌, ◌∷◌, [], ℕ, Bool, true, false, List, append_assoc, ap, ap₂, refl, sym}
use Rattle.std.specs.Prelude.{Option, if◌then◌else◌}
use Rattle.std.proofs.lemmas.List.{append-nil}
use Rattle.csv.specs.Records.{fields_of}
use Rattle.cube_console.specs.JsonLines.{Making, columns_after, line_of, made_by, made_text, make_byte, make_bytes}
use Rattle.cube_console.specs.JsonLinesMade.{Makes, columns_in, making_of}
use Rattle.cube_console.specs.Records.{Reading, cleared, ends_record, read_byte}
use Rattle.cube_console.specs.RecordsRead.{IsWhole, Reads, reading_of}
use Rattle.cube_console.specs.declared.views.json.Value.{Value}
use Rattle.cube_console.specs.declared.views.lines.JsonLines.{JsonLines}
use Rattle.cube_console.specs.declared.views.records.Records.{Records}

pub make_bytes-append : (d : ℕ) (m : Making) (xs ys : List ℕ)
    → make_bytes d m (xs ++ ys) ≡ make_bytes d (make_bytes d m xs) ys
make_bytes-append d m [] ys = refl
make_bytes-append d m (x ∷ xs) ys = make_bytes-append d (make_byte d m x) xs ys

pub made_text-append : (d : ℕ) (m : Making) (xs ys : List ℕ)
    → made_text d m (xs ++ ys) ≡ made_text d m xs ++ made_text d (make_bytes d m xs) ys
made_text-append d m [] ys = refl
made_text-append d m (x ∷ xs) ys =
    ap (λ t. made_by m x ++ t) (made_text-append d (make_byte d m x) xs ys)
    ∙ sym (append_assoc (made_by m x) (made_text d (make_byte d m x) xs)
    (made_text d (make_bytes d (make_byte d m x) xs) ys))

-- no byte was taken
pub Makes-none : (lines : JsonLines) → IsWhole lines.records → Makes lines lines []
Makes-none lines whole = record {
  dimensions = refl;
  whole = whole;
  making = refl;
  ready = sym (append-nil lines.ready.items);
}

-- some bytes were taken, and then more
pub Makes-more : (old mid new : JsonLines) (xs ys : List ℕ) → Makes old mid xs → Makes mid new ys
    → Makes old new (xs ++ ys)
Makes-more old mid new xs ys first then_ =
    let d = old.dimensions in
    let same : mid.dimensions ≡ d = first.dimensions in
    record {
      dimensions = then_.dimensions ∙ same;
      whole = then_.whole;
      making = then_.making ∙ ap (λ (e : ℕ). make_bytes e (making_of mid) ys) same
          ∙ ap (λ (m : Making). make_bytes d m ys) first.making ∙ sym (make_bytes-append d (making_of old) xs ys);
      ready = then_.ready ∙ ap (λ (e : ℕ). mid.ready.items ++ made_text e (making_of mid) ys) same
          ∙ ap (λ (m : Making). mid.ready.items ++ made_text d m ys) first.making
          ∙ ap (λ t. t ++ made_text d (make_bytes d (making_of old) xs) ys) first.ready
          ∙ append_assoc old.ready.items (made_text d (making_of old) xs)
          (made_text d (make_bytes d (making_of old) xs) ys)
          ∙ ap (λ t. old.ready.items ++ t) (sym (made_text-append d (making_of old) xs ys));
    }

-- where the lines stand behind a byte that ends a record, or another
abbrev behind : Bool → ℕ → Making → ℕ → Making
behind ends d m b =
    if ends
    then record {
      columns = columns_after d m.columns (read_byte m.reading b).fields;
      reading = cleared (read_byte m.reading b);
    }
    else record { columns = m.columns; reading = read_byte m.reading b }

abbrev added : Bool → Making → ℕ → List ℕ
added ends m b = if ends then line_of m.columns (read_byte m.reading b).fields else []

abbrev make : Option (List (List ℕ × Value)) → Reading → Making
make columns reading = record { columns = columns; reading = reading }

-- a byte was taken that ends a record
pub Makes-end : (old new : JsonLines) (mid : Records) (b : ℕ) (ends : Bool)
    → ends ≡ ends_record (reading_of old.records) b → ends ≡ true → Reads old.records mid b
    → new.dimensions ≡ old.dimensions → IsWhole new.records
    → reading_of new.records ≡ cleared (reading_of mid)
    → columns_in new ≡ columns_after old.dimensions (columns_in old) (fields_of mid.row)
    → new.ready.items ≡ old.ready.items ++ line_of (columns_in old) (fields_of mid.row)
    → Makes old new (b ∷ [])
Makes-end old new mid b ends is is_true reads dimensions whole reading columns ready =
    let d = old.dimensions in
    let m = making_of old in
    let does : true ≡ ends_record m.reading b = sym is_true ∙ is in
    let read : fields_of mid.row ≡ (read_byte m.reading b).fields = ap (λ (r : Reading). r.fields) reads.reading in
    record {
      dimensions = dimensions;
      whole = whole;
      making = ap₂ make (columns ∙ ap (columns_after d m.columns) read) (reading ∙ ap cleared reads.reading)
          ∙ ap (λ (e : Bool). behind e d m b) does;
      ready = ready ∙ ap (λ (fields : List (List ℕ)). old.ready.items ++ line_of m.columns fields) read
          ∙ ap (λ t. old.ready.items ++ t) (sym (append-nil (line_of m.columns (read_byte m.reading b).fields))
          ∙ ap (λ (e : Bool). added e m b ++ []) does);
    }

-- a byte was taken that ends none
pub Makes-goes : (old new : JsonLines) (b : ℕ) (ends : Bool) → ends ≡ ends_record (reading_of old.records) b
    → ends ≡ false → Reads old.records new.records b → new.dimensions ≡ old.dimensions → columns_in new ≡ columns_in old
    → new.ready.items ≡ old.ready.items → Makes old new (b ∷ [])
Makes-goes old new b ends is is_false reads dimensions columns ready =
    let d = old.dimensions in
    let m = making_of old in
    let does : false ≡ ends_record m.reading b = sym is_false ∙ is in
    record {
      dimensions = dimensions;
      whole = reads.whole;
      making = ap₂ make columns reads.reading ∙ ap (λ (e : Bool). behind e d m b) does;
      ready = ready ∙ sym (append-nil old.ready.items) ∙ ap (λ (e : Bool). old.ready.items ++ (added e m b ++ [])) does;
    }
