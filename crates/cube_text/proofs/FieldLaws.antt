-- How a line stands in a text, field by field, and what its end makes of it.
use Rattle.std.proofs.Common.{◌≡◌, ◌==◌, ◌∙◌, ◌++◌, ◌+◌, ◌<◌, ◌≤◌, ◌∷◌, [], ℕ, List, length, map, take, get_or}
use Rattle.std.proofs.Common.{refl, sym, ap, append_assoc, arith, length-append}
use Rattle.std.specs.Prelude.{if◌then◌else◌}
use Rattle.std.proofs.Math.Seq.{take-append_seam}
use Rattle.std.proofs.lemmas.Bool.{ne_eqb}
use Rattle.std.proofs.lemmas.Grind.{flat_map-append}
use Rattle.std.proofs.lemmas.List.{get_or_default, nil_from_length}
use Rattle.csv.specs.Writing.{default_writer, field_text, fields_text, is_blank, row_body}
use Rattle.cube_core.specs.Text.{answer_text, answer_texts, line}
use Rattle.cube_core.specs.declared.aggregate.Answer.{Answer}
use Rattle.cube_core.specs.declared.aggregate.Answer.TheVariants as answer
use Rattle.cube_lines.proofs.AnswerTextsLaws.{answer_texts-more}
use Rattle.cube_lines.specs.Parts.{AddsParts, EndsLine, part, parts}
use Rattle.cube_lines.proofs.TextLaws.{AddsParts-more, AddsParts-push, parts-one, parts-row_body}

-- the field of one element more, of those that a list gives
pub AddsParts-next : {X : Type 0} (f : X → List ℕ) (xs : List X) (i : ℕ) (d x : X) (start old new : List ℕ)
    → i < length xs → x ≡ get_or xs i d
    → old ≡ start ++ parts (map f (take i xs)) → AddsParts (f x ∷ []) old new
    → new ≡ start ++ parts (map f (take (i + 1) xs))
AddsParts-next f xs i d x start old new inside is so_far adds =
    AddsParts-more f xs i x start old new inside (is ∙ get_or_default xs i d x inside) so_far adds

-- the fields of a line in three runs
pub parts-three : (a b c : List (List ℕ)) (old first second third : List ℕ) → AddsParts a old first
    → AddsParts b first second → AddsParts c second third → third ≡ old ++ parts (a ++ b ++ c)
parts-three a b c old first second third one two three =
    three ∙ ap (λ t. t ++ parts c) (two ∙ ap (λ t. t ++ parts b) one ∙ append_assoc old (parts a) (parts b)
    ∙ ap (λ t. old ++ t) (sym (flat_map-append part a b)))
    ∙ append_assoc old (parts (a ++ b)) (parts c)
    ∙ ap (λ t. old ++ t) (sym (flat_map-append part (a ++ b) c))

-- a line that shows a byte is its body and LF
line-some : (fields : List (List ℕ)) → 1 < length (parts fields)
    → line fields ≡ row_body default_writer fields ++ 10 ∷ []
unfolding is_blank
line-some [] many = absurd (omega arith)
line-some (field ∷ []) many =
    let text = field_text default_writer field in
    let some : 1 ≤ length text = omega (arith, rw (parts-one field) at many, length-append text (44 ∷ [])) in
    ap (λ b. row_body default_writer (field ∷ []) ++ ((if b then 34 ∷ 34 ∷ [] else []) ++ 10 ∷ []))
    (ne_eqb (length text) 0 (λ none. omega (arith, some, none)))
line-some (field ∷ other ∷ fields) many = refl

-- one that shows none is two quotes and LF
line-none : (fields : List (List ℕ)) → length (parts fields) ≤ 1 → line fields ≡ 34 ∷ 34 ∷ 10 ∷ []
unfolding is_blank fields_text
line-none [] few = refl
line-none (field ∷ []) few =
    let text = field_text default_writer field in
    let none : text ≡ [] =
    nil_from_length text (omega (arith, rw (parts-one field) at few, length-append text (44 ∷ []))) in
    ap (λ (t : List ℕ). (t ++ []) ++ ((if length t == 0 then 34 ∷ 34 ∷ [] else []) ++ 10 ∷ [])) none
line-none (field ∷ other ∷ fields) few = absurd (omega (
  arith,
  few,
  length-append (part field) (parts (other ∷ fields)),
  length-append (field_text default_writer field) (44 ∷ []),
  length-append (part other) (parts fields),
  length-append (field_text default_writer other) (44 ∷ []),
))

-- what the end makes of a line that shows a byte
pub EndsLine-some : (before : List ℕ) (fields : List (List ℕ)) (start : ℕ) (old new : List ℕ) → length before ≡ start
    → start + 1 < length old → old ≡ before ++ parts fields → EndsLine old new → new ≡ before ++ line fields
EndsLine-some before [] start old new long many is ends =
    absurd (omega (arith, long, many, ap (λ (t : List ℕ). length t) is, length-append before []))
EndsLine-some before (field ∷ fields) start old new long many is ends =
    let body = row_body default_writer (field ∷ fields) in
    let whole = parts (field ∷ fields) in
    let some : 1 < length whole =
    omega (arith, long, many, ap (λ (t : List ℕ). length t) is, length-append before whole) in
    ends (before ++ body) (is ∙ ap (λ t. before ++ t) (parts-row_body field fields) ∙ sym (append_assoc before body (44 ∷ [])))
    ∙ append_assoc before body (10 ∷ []) ∙ ap (λ t. before ++ t) (sym (line-some (field ∷ fields) some))

-- and of one that shows none, which gives way to two quotes
pub line-blank : (before : List ℕ) (fields : List (List ℕ)) (start : ℕ) (old cut new : List ℕ) → length before ≡ start
    → length old ≤ start + 1 → old ≡ before ++ parts fields → cut ≡ take start old → new ≡ cut ++ 34 ∷ 34 ∷ 10 ∷ []
    → new ≡ before ++ line fields
line-blank before fields start old cut new long few is cut_is new_is =
    let none : length (parts fields) ≤ 1 =
    omega (arith, long, few, ap (λ (t : List ℕ). length t) is, length-append before (parts fields)) in
    let front : cut ≡ before = cut_is ∙ ap (λ t. take start t) is ∙ ap (λ n. take n (before ++ parts fields)) (sym long)
    ∙ take-append_seam before (parts fields) in
    new_is ∙ ap (λ t. t ++ 34 ∷ 34 ∷ 10 ∷ []) front ∙ ap (λ t. before ++ t) (sym (line-none fields none))

-- the field of one answer more
pub AddsParts-answer : (digits : List ℕ) (answers : List Answer) (i k : ℕ) (a : Answer) (start old new : List ℕ)
    → i < length digits → i < length answers → k ≡ get_or digits i 0 → a ≡ get_or answers i answer.Null
    → old ≡ start ++ parts (answer_texts (take i digits) (take i answers)) → AddsParts (answer_text k a ∷ []) old new
    → new ≡ start ++ parts (answer_texts (take (i + 1) digits) (take (i + 1) answers))
AddsParts-answer digits answers i k a start old new inside inside_too k_is a_is so_far adds =
    rw (answer_texts-more digits answers i k a inside inside_too k_is a_is)
    (AddsParts-push (answer_texts (take i digits) (take i answers)) (answer_text k a) start old new so_far adds)
