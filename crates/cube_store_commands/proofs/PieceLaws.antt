-- The pieces between the commas of a text.
use Rattle.std.proofs.Common.{◌≡◌, ◌==◌, inl, inr, ◌∙◌, ◌+◌, ◌-◌, ◌<◌, ◌++◌, ◌∷◌, [], ℕ, List, zero, suc, false}
use Rattle.std.proofs.Common.{length, take, drop, refl, sym, ap, add-one, arith}
use Rattle.std.specs.Prelude.{All}
use Rattle.std.specs.List.{AllWithin, HoldsAt, list_any}
use Rattle.std.proofs.lemmas.Bool.{cases_Bool, eqb-true, eq-eqb}
use Rattle.std.proofs.lemmas.List.{append_assoc, drop-drop, length-drop, take_all}
use Rattle.std.proofs.lemmas.List.Elements.{All-head, All-tail}
use Rattle.csv.specs.Writing.{comma, default_writer, field_text, fields_text, is_blank, needs_byte, row_body}
use Rattle.cube_store_commands.specs.Pieces.{IsPlainByte, pieces}

abbrev pub first_piece : List (List ℕ) → List ℕ
first_piece [] = []
first_piece (piece ∷ pieces) = piece

abbrev pub other_pieces : List (List ℕ) → List (List ℕ)
other_pieces [] = []
other_pieces (piece ∷ pieces) = pieces

-- there is a first piece
some_piece : (text : List ℕ) → pieces text ≡ first_piece (pieces text) ∷ other_pieces (pieces text)
some_piece [] = refl
some_piece (b ∷ text) = elim (cases_Bool (b == comma)) [
  | inl is ↦ rw is refl
  | inr other ↦ rw (other, some_piece text) refl
]

-- a plain byte that is no comma calls for no quotes
plain_other : (b : ℕ) → IsPlainByte b → (b == comma) ≡ false → needs_byte default_writer b ≡ false
plain_other b plain other = rw (other, plain.no_quote, plain.no_return, plain.no_feed) refl

-- a plain text's first piece calls for no quotes
plain_first : (text : List ℕ) → All IsPlainByte text
    → list_any (needs_byte default_writer) (first_piece (pieces text)) ≡ false
plain_first [] plain = refl
plain_first (b ∷ text) plain = elim (cases_Bool (b == comma)) [
  | inl is ↦ rw is refl
  | inr other ↦ rw (
    other,
    some_piece text,
    plain_other b (All-head IsPlainByte b text plain) other,
  ) (plain_first text (All-tail IsPlainByte b text plain))
]

-- a field that calls for no quotes is written as it is
plain_field : (field : List ℕ) → list_any (needs_byte default_writer) field ≡ false
    → field_text default_writer field ≡ field
plain_field field plain = rw plain refl

-- a plain text is what a writer writes of its pieces
pub row_body-pieces : (text : List ℕ) → All IsPlainByte text → row_body default_writer (pieces text) ≡ text
unfolding fields_text
row_body-pieces [] plain = refl
row_body-pieces (b ∷ text) plain =
    let written : row_body default_writer (pieces text) ≡ text =
    row_body-pieces text (All-tail IsPlainByte b text plain) in
    let first : field_text default_writer (first_piece (pieces text)) ≡ first_piece (pieces text) =
    plain_field (first_piece (pieces text)) (plain_first text (All-tail IsPlainByte b text plain)) in
    elim (cases_Bool (b == comma)) [
      | inl is ↦ rw (is, some_piece text) (sym (ap (λ (t : List ℕ). comma ∷ t) (sym (rw (some_piece text) at written)))
          ∙ ap (λ (c : ℕ). c ∷ text) (sym (eqb-true b comma is)))
      | inr other ↦ rw (
        other,
        some_piece text,
        plain_field (b ∷ first_piece (pieces text)) (rw (plain_other b (All-head IsPlainByte b text plain) other)
            (plain_first text (All-tail IsPlainByte b text plain))),
      )
          (ap (λ (t : List ℕ). b ∷ t) (rw first at (rw (some_piece text) at written)))
    ]

-- the first piece ends at the first comma
pub pieces-at : (text : List ℕ) (place : ℕ) → place < length text → AllWithin (λ b. b ≡ comma → ⊥) text 0 place
    → HoldsAt (λ b. b ≡ comma) text place
    → pieces text ≡ take place text ∷ pieces (drop (place + 1) text)
pieces-at [] place within before found = absurd (omega (arith, within))
pieces-at (b ∷ text) zero within before found = rw (eq-eqb b comma (found 0)) refl
pieces-at (b ∷ text) (suc place) within before found =
    let later : pieces text ≡ take place text ∷ pieces (drop (place + 1) text) =
    pieces-at text place (omega (arith, within))
    (λ k d low high. before (suc k) d (omega arith) (omega (arith, high))) found in
    elim (cases_Bool (b == comma)) [
      | inl is ↦ absurd (before 0 b (omega arith) (omega arith) (eqb-true b comma is))
      | inr other ↦ rw (other, later, add-one (suc place), add-one place) refl
    ]

-- a text without a comma is its only piece
pub pieces-none : (text : List ℕ) → AllWithin (λ b. b ≡ comma → ⊥) text 0 (length text) → pieces text ≡ text ∷ []
pieces-none [] none = refl
pieces-none (b ∷ text) none =
    let later : pieces text ≡ text ∷ [] =
    pieces-none text (λ k d low high. none (suc k) d (omega arith) (omega (arith, high))) in
    elim (cases_Bool (b == comma)) [
      | inl is ↦ absurd (none 0 b (omega arith) (omega arith) (eqb-true b comma is))
      | inr other ↦ rw (other, later) refl
    ]

-- all but the first
but_first : (text : List ℕ) → take (length text - 1) (drop 1 text) ≡ drop 1 text
but_first text = take_all (length text - 1) (drop 1 text) (omega (arith, length-drop 1 text))

-- what stands before the first comma is the first piece, and the others are those of what stands behind it
pub pieces-step : (before : List (List ℕ)) (text : List ℕ) (place : ℕ) → place < length text
    → AllWithin (λ b. b ≡ comma → ⊥) text 0 place → HoldsAt (λ b. b ≡ comma) text place
    → (before ++ take place text ∷ []) ++ pieces (take (length (drop place text) - 1) (drop 1 (drop place text)))
    ≡ before ++ pieces text
pieces-step before text place within front found =
    append_assoc before (take place text ∷ []) (pieces (take (length (drop place text) - 1) (drop 1 (drop place text))))
    ∙ ap (λ (ps : List (List ℕ)). before ++ ps)
    (ap (λ (t : List ℕ). take place text ∷ pieces t) (but_first (drop place text) ∙ drop-drop 1 place text)
    ∙ sym (pieces-at text place within front found))

-- the pieces so far and those of what is left are the whole, and one more is taken
pub more_pieces : (whole before after : List (List ℕ)) (partial text : List ℕ) (place : ℕ) → place < length text
    → AllWithin (λ b. b ≡ comma → ⊥) text 0 place → HoldsAt (λ b. b ≡ comma) text place
    → partial ≡ [] → after ≡ before ++ (partial ++ take place text) ∷ [] → before ++ pieces text ≡ whole
    → after ++ pieces (take (length (drop place text) - 1) (drop 1 (drop place text))) ≡ whole
more_pieces whole before after partial text place within front found none more so_far =
    rw (more, none) (pieces-step before text place within front found ∙ so_far)

-- the last piece makes the whole
pub last_piece : (whole before after : List (List ℕ)) (partial text : List ℕ)
    → AllWithin (λ b. b ≡ comma → ⊥) text 0 (length text)
    → partial ≡ [] → after ≡ before ++ (partial ++ text) ∷ [] → before ++ pieces text ≡ whole → after ≡ whole
last_piece whole before after partial text without none more so_far =
    rw (more, none) (ap (λ (ps : List (List ℕ)). before ++ ps) (sym (pieces-none text without)) ∙ so_far)

-- a text that begins with no comma begins its first piece so
pub pieces-begin : (b : ℕ) (text : List ℕ) → (b == comma) ≡ false
    → pieces (b ∷ text) ≡ (b ∷ first_piece (pieces text)) ∷ other_pieces (pieces text)
pieces-begin b text other = rw (other, some_piece text) refl

not_blank : (b : ℕ) (field : List ℕ) (fields : List (List ℕ)) → field_text default_writer (b ∷ field) ≡ b ∷ field
    → is_blank default_writer ((b ∷ field) ∷ fields) ≡ false
unfolding is_blank
not_blank b field [] plain = rw plain (elim (cases_Bool (length (b ∷ field) == 0)) [
  | inl none ↦ absurd (omega (arith, eqb-true (length (b ∷ field)) 0 none))
  | inr some ↦ some
])
not_blank b field (next ∷ fields) plain = refl

-- and such a plain text is no blank record
pub is_blank-pieces : (b : ℕ) (text : List ℕ) → (b == comma) ≡ false → All IsPlainByte (b ∷ text)
    → is_blank default_writer (pieces (b ∷ text)) ≡ false
is_blank-pieces b text other plain =
    rw (pieces-begin b text other) (not_blank b (first_piece (pieces text)) (other_pieces (pieces text))
    (plain_field (b ∷ first_piece (pieces text)) (rw (pieces-begin b text other) at (plain_first (b ∷ text) plain))))
