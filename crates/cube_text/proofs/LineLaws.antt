-- How the text of a line grows, field by field.
use Rattle.std.proofs.Common.{◌≡◌, ◌==◌, ◌≢◌, ◌∙◌, ◌++◌, ◌+◌, ◌-◌, ◌^◌, ◌≤◌, ◌∷◌, [], ℕ, List, Some, length}
use Rattle.std.proofs.Common.{refl, sym, ap, true, false, append_assoc, arith, length-append}
use Rattle.std.specs.Prelude.{min, not, if◌then◌else◌, OnOk, Ok, Err, Result}
use Rattle.std.specs.Io.KnownBytes.{Appends}
use Rattle.std.proofs.lemmas.List.{append-nil}
use Rattle.std.specs.Result.{is_ok}
use Rattle.std.proofs.lemmas.Bool.Decides.{nat_tests}
use Rattle.csv.specs.Writing.{default_writer, field_text, fields_written, has_written, next_sep, row_body, row_text}
use Rattle.csv.specs.Writing.{text_written, writer_setup, tail_text, is_blank, end_text}
use Rattle.csv.specs.declared.writer.QuoteStyle.TheVariants as style
use Rattle.csv.proofs.WriteFacts.{row-more, blank-more}
use Rattle.cube_text.specs.Lines.{Lines, contents_of, HoldsLine, AddsFields, EndsLine, AddsText}

-- a count that stops at a large number is 0 where what it counts is none
min-eq_zero : (n m : ℕ) → 2 ≤ m → (min n m == 0) ≡ (n == 0)
min-eq_zero n m large = grind (arith, nat_tests)

-- and 1 where it counts one
min-eq_one : (n m : ℕ) → 2 ≤ m → (min n m == 1) ≡ (n == 1)
min-eq_one n m large = grind (arith, nat_tests)

-- one more of what is counted
min-more : (n m : ℕ) → min (min n m + 1) m ≡ min (n + 1) m
min-more n m = omega arith

-- what a writer tells of a field that it took
pub record TakesField (field : List ℕ) (old new : Lines) : Type 0 where
  pub text : (writer_setup old).style ≢ style.NonNumeric
      → Appends (text_written contents_of old) (text_written contents_of new)
      (next_sep (writer_setup old) (fields_written old) ++ field_text (writer_setup old) field)
  pub same : writer_setup new ≡ writer_setup old
  pub count : fields_written new ≡ min (fields_written old + 1) (2 ^ 64 - 1)
  pub wrote : has_written old ≡ false → (writer_setup old).style ≢ style.NonNumeric
      → has_written new ≡ not (length (field_text (writer_setup old) field) == 0)
  pub stays : has_written old ≡ true → has_written new ≡ true

-- what a writer tells of a line that it ended
pub record IsEnded (old new : Lines) : Type 0 where
  pub text : Appends (text_written contents_of old) (text_written contents_of new)
      (tail_text (writer_setup old) (has_written old) (fields_written old))
  pub same : writer_setup new ≡ writer_setup old
  pub fields : fields_written new ≡ 0
  pub wrote : has_written new ≡ false

-- the default style of quotes looks at no number
default_writer-style : (writer : Lines) → writer_setup writer ≡ default_writer
    → (writer_setup writer).style ≢ style.NonNumeric
default_writer-style writer setup e = cc (e, ap (λ w. w.style) setup)

-- the bytes underneath and those that still wait
HoldsLine-row_body : (text : List ℕ) (fields : List (List ℕ)) (lines : Lines) → HoldsLine text fields lines
    → lines.wtr.inner.items ++ lines.wtr.buf ≡ text ++ row_body default_writer fields
HoldsLine-row_body text fields lines h = cc h.bytes

-- one more field after those of a line that isn't ended
pub AddsFields-TakesField : (field : List ℕ) (old new : Lines) → TakesField field old new
    → AddsFields (field ∷ []) old new
AddsFields-TakesField field old new t text fields h =
    let plain = default_writer-style old h.setup in
    let large : 2 ≤ 2 ^ 64 - 1 = omega arith in
    let first : (fields_written old == 0) ≡ (length fields == 0) =
    rw h.count (min-eq_zero (length fields) (2 ^ 64 - 1) large) in
    let bytes : List ℕ = new.wtr.inner.items ++ new.wtr.buf in
    let before = HoldsLine-row_body text fields old h in
    let added = next_sep default_writer (length fields) ++ field_text default_writer field in
    let grown : bytes ≡ (text ++ row_body default_writer fields) ++ added
    = rw (h.setup, first, before) at (t.text plain) in
    record {
      setup = t.same ∙ h.setup;
      bytes = ap Some (grown ∙ append_assoc text (row_body default_writer fields) added
          ∙ ap (λ (more : List ℕ). text ++ more) (sym (row-more default_writer fields field)));
      count = t.count ∙ rw (h.count, length-append) (min-more (length fields) (2 ^ 64 - 1));
      blank = rw (length-append fields (field ∷ [])) (blank-more default_writer fields field (has_written old)
          (has_written new) h.blank (λ w. rw h.setup at (t.wrote w plain)) t.stays);
    }

-- an ended line
pub EndsLine-IsEnded : (old new : Lines) → IsEnded old new → EndsLine old new
unfolding is_blank
EndsLine-IsEnded old new e text fields h =
    let large : 2 ≤ 2 ^ 64 - 1 = omega arith in
    let none : (fields_written old == 0) ≡ (length fields == 0) =
    rw h.count (min-eq_zero (length fields) (2 ^ 64 - 1) large) in
    let one : (fields_written old == 1) ≡ (length fields == 1) =
    rw h.count (min-eq_one (length fields) (2 ^ 64 - 1) large) in
    let before = HoldsLine-row_body text fields old h in
    let bytes : List ℕ = new.wtr.inner.items ++ new.wtr.buf in
    let body = row_body default_writer fields in
    let tail = (if is_blank default_writer fields then default_writer.quote ∷ default_writer.quote ∷ [] else [])
    ++ end_text default_writer.terminator in
    let grown : bytes ≡ (text ++ body) ++ tail = rw h.blank (rw (h.setup, none, one, before) at e.text) in
    record {
      setup = e.same ∙ h.setup;
      bytes = ap Some (grown ∙ append_assoc text body tail ∙ sym (append-nil (text ++ row_text default_writer fields)));
      count = e.fields;
      blank = rw e.wrote refl;
    }

-- what follows from a result follows where its error was replaced by another
pub OnOk-is_ok : {T E U F P : Type 0} (r : Result T E) (s : Result U F) → is_ok s ≡ is_ok r → ((v : T) → r ≡ Ok v → P)
    → OnOk s P
OnOk-is_ok (Ok v) (Ok w) same f = f v refl
OnOk-is_ok (Err e) (Ok w) same f = cc same
OnOk-is_ok r (Err e) same f = tt

-- fields were added, and then more
pub AddsFields-both : (more others : List (List ℕ)) (old mid new : Lines) → AddsFields more old mid
    → AddsFields others mid new → AddsFields (more ++ others) old new
AddsFields-both more others old mid new first second text fields h =
    rw (← append_assoc fields more others) (second text (fields ++ more) (first text fields h))

-- a line of fields that were added in three parts
pub AddsText-row_text : (first second third : List (List ℕ)) (a b c d e : Lines) → AddsFields first a b
    → AddsFields second b c → AddsFields third c d
    → EndsLine d e → AddsText (row_text default_writer (first ++ second ++ third)) a e
AddsText-row_text first second third a b c d e one two three end text h =
    end text (first ++ second ++ third)
    (AddsFields-both (first ++ second) third a c d (AddsFields-both first second a b c one two) three text [] h)
