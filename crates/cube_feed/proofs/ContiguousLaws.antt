-- Fields whose bytes lie one after another.
use Rattle.std.proofs.Common.{◌≡◌, ◌<◌, ◌≤◌, ◌+◌, ◌-◌, ℕ, true, List, [], ◌∷◌, ◌++◌, length, get_or, take, drop, Some}
use Rattle.std.proofs.Common.{refl, sym, ap, ◌∙◌, inl, inr, arith, add-one, drop-cons}
use Rattle.std.specs.Prelude.{slice_range, sum_by}
use Rattle.std.specs.Str.{IsAscii}
use Rattle.std.specs.List.{list_all}
use Rattle.std.proofs.Math.Seq.{take-length, take-add}
use Rattle.std.proofs.lemmas.Bool.{cases_lt}
use Rattle.std.proofs.lemmas.List.{take_all, drop_all, drop-drop, length-drop, length-take-le, take-append-le}
use Rattle.std.proofs.lemmas.List.{drop-append-le}
use Rattle.std.proofs.lemmas.List.Sums.{sum_by-cons}
use Rattle.std.proofs.lemmas.Str.{IsUtf8-from_ascii, IsAscii-take, IsAscii-drop, is_utf8-from_IsUtf8}
use Rattle.csv.specs.Records as csv
use Rattle.cube_feed.proofs.FieldLaws.{slice_range-cons}
use Rattle.cube_core.specs.Items.{dimension_of}
use Rattle.cube_core.specs.Values.{parts_of}
use Rattle.cube_feed.specs.Contiguous.{BeginsAt}
use Rattle.cube_feed.specs.SoundFields.{is_sound}

-- from the end of a text on, and past it, all fields are empty
cut_from-past : (begin : ℕ) (ends bytes : List ℕ) → length bytes ≤ begin
    → csv.cut_from begin ends bytes ≡ csv.cut_from (length bytes) ends bytes
unfolding csv.cut_from
cut_from-past begin [] bytes past = refl
cut_from-past begin (end ∷ ends) bytes past =
    ap (λ field. field ∷ csv.cut_from end ends bytes) (empty begin past ∙ sym (empty (length bytes) (omega arith)))
  where
    empty : (from : ℕ) → length bytes ≤ from → take (end - from) (drop from bytes) ≡ []
    empty from past = rw (drop_all from bytes past) (take_all (end - from) [] (omega arith))

-- a field that isn't empty ends where the next one begins
next_begin : (begin : ℕ) (ends bytes : List ℕ) (field : List ℕ) (rest : List (List ℕ))
    → field ∷ rest ≡ csv.cut_from begin ends bytes → 0 < length field
    → (begin + length field ≤ length bytes) × (rest ≡ csv.cut_from (begin + length field) (drop 1 ends) bytes)
    × (slice_range bytes begin (begin + length field) ≡ field)
unfolding csv.cut_from
next_begin begin [] bytes field rest is some = absurd (omega (arith, ap length is))
next_begin begin (end ∷ ends) bytes field rest is some =
    let this : field ≡ take (end - begin) (drop begin bytes) = ap (λ fields. get_or fields 0 []) is in
    let others : rest ≡ csv.cut_from end ends bytes = ap (drop 1) is in
    elim (cases_lt (length bytes) end) [
      | inl past ↦
          let all : take (end - begin) (drop begin bytes) ≡ drop begin bytes =
          take_all (end - begin) (drop begin bytes) (omega (arith, length-drop begin bytes)) in
          let stop : begin + length field ≡ length bytes =
          omega (arith, ap length (this ∙ all), length-drop begin bytes, some) in
          rw stop (
            omega arith,
            others ∙ cut_from-past end ends bytes (omega arith),
            take_all (length bytes - begin) (drop begin bytes) (omega (arith, length-drop begin bytes))
                ∙ sym (this ∙ all),
          )
      | inr within ↦
          let count : length (take (end - begin) (drop begin bytes)) ≡ end - begin =
          length-take-le (end - begin) (drop begin bytes) (omega (arith, length-drop begin bytes)) in
          let stop : begin + length field ≡ end = omega (arith, ap length this, count, some) in
          rw stop (within, others, sym this)
    ]

-- so the next field's begin is known
pub BeginsAt-more : (row : csv.Row) (place begin : ℕ) → BeginsAt row place begin → place < length (csv.fields_of row)
    → 0 < length (get_or (csv.fields_of row) place [])
    → BeginsAt row (place + 1) (begin + length (get_or (csv.fields_of row) place []))
    × (slice_range (csv.text_of row) begin (begin + length (get_or (csv.fields_of row) place []))
    ≡ get_or (csv.fields_of row) place [])
BeginsAt-more row place begin was below some =
    let fields = csv.fields_of row in
    let next : drop place fields ≡ get_or fields place [] ∷ drop (place + 1) fields =
    rw (drop-cons fields place [] below, add-one place) refl in
    let step = next_begin begin (drop place row.ends) row.bytes (get_or fields place []) (drop (place + 1) fields)
    (sym next ∙ was.1) some in
    ((step.0, rw (drop-drop 1 place row.ends) at step.1), step.2)

-- a range and the range after it
slice_range-add : {A : Type 0} (xs : List A) (start middle end : ℕ) → start ≤ middle → middle ≤ end
    → slice_range xs start end ≡ slice_range xs start middle ++ slice_range xs middle end
slice_range-add xs start middle end h k =
    let whole : end - start ≡ (middle - start) + (end - middle) = omega arith in
    let place : start + (middle - start) ≡ middle = omega arith in
    rw (
      whole,
      take-add (middle - start) (end - middle) (drop start xs),
      drop-drop (middle - start) start xs,
      place,
    ) refl

-- one part more
parts_of-push : (lens text more : List ℕ) → sum_by (λ len. len) lens ≡ length text
    → parts_of (lens ++ length more ∷ []) (text ++ more) ≡ parts_of lens text ++ more ∷ []
parts_of-push [] [] more whole = rw (take-length more) refl
parts_of-push [] (byte ∷ text) more whole = absurd (omega (arith, whole))
parts_of-push (len ∷ lens) text more whole =
    let sum : len + sum_by (λ (n : ℕ). n) lens ≡ length text = sym (sum_by-cons (λ (n : ℕ). n) len lens) ∙ whole in
    rw (take-append-le len text more (omega (arith, sum)), drop-append-le len text more (omega (arith, sum)))
    (ap (λ parts. take len text ∷ parts)
    (parts_of-push lens (drop len text) more (omega (arith, sum, length-drop len text))))

-- so the next field is one part more
pub parts_of-more : (row : csv.Row) (start place begin stop : ℕ) (lens : List ℕ) → start ≤ place
    → place < length (csv.fields_of row) → stop ≤ length (csv.text_of row)
    → begin + sum_by (λ len. len) lens ≡ stop
    → parts_of lens (slice_range (csv.text_of row) begin stop) ≡ slice_range (csv.fields_of row) start place
    → slice_range (csv.text_of row) stop (stop + length (get_or (csv.fields_of row) place []))
    ≡ get_or (csv.fields_of row) place []
    → parts_of (lens ++ length (get_or (csv.fields_of row) place []) ∷ [])
    (slice_range (csv.text_of row) begin (stop + length (get_or (csv.fields_of row) place [])))
    ≡ slice_range (csv.fields_of row) start (place + 1)
parts_of-more row start place begin stop lens order below inside whole so_far this =
    let field = get_or (csv.fields_of row) place [] in
    let before = slice_range (csv.text_of row) begin stop in
    let text =
    slice_range-add (csv.text_of row) begin stop (stop + length field) (omega (arith, whole)) (omega arith) in
    let count : length before ≡ stop - begin = length-take-le (stop - begin) (drop begin (csv.text_of row))
    (omega (arith, inside, length-drop begin (csv.text_of row))) in
    let fields = slice_range-add (csv.fields_of row) start place (place + 1) order (omega arith) in
    let one = slice_range-cons (csv.fields_of row) place (place + 1) (omega arith) (omega arith) in
    let none : (place + 1) - (place + 1) ≡ 0 = omega arith in
    ap (parts_of (lens ++ length field ∷ [])) (text ∙ ap (λ more. before ++ more) this)
    ∙ parts_of-push lens before field (omega (arith, whole, count))
    ∙ ap (λ parts. parts ++ field ∷ []) so_far
    ∙ sym (fields ∙ ap (λ more. slice_range (csv.fields_of row) start place ++ more) (rw none at one))

-- each part of a text of ASCII spells a dimension's value
pub parts_of-sound : (lens text : List ℕ) → IsAscii text
    → list_all (is_sound (λ part. Some (dimension_of part))) (parts_of lens text) ≡ true
parts_of-sound [] text ascii = refl
parts_of-sound (len ∷ lens) text ascii =
    rw (
      is_utf8-from_IsUtf8 (take len text) (IsUtf8-from_ascii (take len text) (IsAscii-take text len ascii)),
      parts_of-sound lens (drop len text) (IsAscii-drop text len ascii),
    ) refl
