-- Laws of answers: those of a cell are taken one by one.
use Rattle.std.proofs.Common.{◌≡◌, ◌∙◌, ◌+◌, ◌++◌, ◌<◌, ◌≤◌, ◌∷◌, [], ℕ, List, length, take, get_or}
use Rattle.std.proofs.Common.{arith, refl, ap, sym, length-append}
use Rattle.std.proofs.lemmas.List.{append-nil, get_or-map, length-map, take_all, take_more}
use Rattle.std.proofs.Math.Seq.{get_or-append_seam, take-append_seam}
use Rattle.csv.specs.Writing.{default_writer, row_body}
use Rattle.cube_core.proofs.ListLaws.{AllZip-push}
use Rattle.cube_core.specs.Answer.{IsAnswer}
use Rattle.cube_core.specs.Layout.{Layout}
use Rattle.cube_core.specs.Text.{answer_text, answer_texts, digits_of, digits_of_answers}
use Rattle.cube_core.specs.declared.aggregate.Agg.TheVariants.{CountAll}
use Rattle.cube_core.specs.declared.aggregate.Answer.{Answer}
use Rattle.cube_core.specs.declared.aggregate.Answer.TheVariants as answer
use Rattle.cube_cells.specs.Rows.{AreAnswersOf}
use Rattle.cube_cells.specs.Tally.{Tally}
use Rattle.cube_lines.specs.Parts.{AddsParts, EndsLine, parts}
use Rattle.cube_lines.proofs.TextLaws.{parts-row_body}
use Rattle.cube_text.specs.Brief.{IsEnding}
use Rattle.cube_text.specs.Rows.{IsAnswerOf}
use Rattle.cube_text.specs.Walked.{AddsAnswers}
use Rattle.cube_text.proofs.FieldLaws.{AddsParts-answer}

-- the answers of a cell to the first aggregates stand in a text
pub record HasAnswersBelow (s : Layout) (cell : Tally) (i : ℕ) (old new : List ℕ) : Type 0 where
  pub answers : List Answer
  pub long : length answers ≡ i
  pub are : AreAnswersOf (take i s.aggregates) cell answers
  pub added : new ≡ old ++ parts (answer_texts (take i (digits_of_answers s)) answers)

pub HasAnswersBelow-none : (s : Layout) (cell : Tally) (text : List ℕ) → HasAnswersBelow s cell 0 text text
HasAnswersBelow-none s cell text = record {
  answers = [];
  long = refl;
  are = λ facts tally. tt;
  added = sym (append-nil text);
}

pub HasAnswersBelow-more : (s : Layout) (cell : Tally) (i k : ℕ) (a : Answer) (old now new : List ℕ)
    → HasAnswersBelow s cell i old now → i < length s.aggregates → k ≡ digits_of s (get_or s.aggregates i CountAll)
    → IsAnswerOf (get_or s.aggregates i CountAll) cell a → AddsParts (answer_text k a ∷ []) now new
    → HasAnswersBelow s cell (i + 1) old new
HasAnswersBelow-more s cell i k a old now new has inside k_is is adds = record {
  answers = more;
  long = omega (arith, length-append has.answers (a ∷ []), has.long);
  are = λ facts tally. rw (take_more s.aggregates i CountAll inside)
      (AllZip-push (IsAnswer facts) (take i s.aggregates) has.answers (get_or s.aggregates i CountAll) a
      (has.are facts tally) (is facts tally));
  added = rw (whole) at (AddsParts-answer digits more i k a old now new
      (omega (arith, inside, length-map s.aggregates (digits_of s)))
      (omega (arith, length-append has.answers (a ∷ []), has.long))
      (k_is ∙ sym (get_or-map (digits_of s) s.aggregates i CountAll 0 inside))
      (sym (ap (λ (n : ℕ). get_or more n answer.Null) (sym has.long)
      ∙ get_or-append_seam has.answers a [] answer.Null))
      (rw front has.added) adds);
} where
  digits : List ℕ
  digits = digits_of_answers s

  more : List Answer
  more = has.answers ++ a ∷ []

  front : take i more ≡ has.answers
  front = ap (λ (n : ℕ). take n more) (sym has.long) ∙ take-append_seam has.answers (a ∷ [])

  whole : take (i + 1) more ≡ more
  whole = take_all (i + 1) more (omega (arith, length-append has.answers (a ∷ []), has.long))

-- ---- the end of a line
-- a comma stands behind the last of some fields
pub record HasComma (fields : List (List ℕ)) : Type 0 where
  pub front : List ℕ
  pub is : parts fields ≡ front ++ 44 ∷ []

HasComma-some : (fields : List (List ℕ)) → 1 ≤ length fields → HasComma fields
HasComma-some [] some = absurd (omega (arith, some))
HasComma-some (field ∷ fields) some =
    record { front = row_body default_writer (field ∷ fields); is = parts-row_body field fields }

some_texts : (digits : List ℕ) (answers : List Answer) → 1 ≤ length digits → 1 ≤ length answers
    → 1 ≤ length (answer_texts digits answers)
some_texts [] answers some others = absurd (omega (arith, some))
some_texts (k ∷ digits) [] some others = absurd (omega (arith, others))
some_texts (k ∷ digits) (a ∷ answers) some others = omega arith

-- the answers of a cell in an empty text, whose last comma became the line's end
pub IsEnding-AddsAnswers : (s : Layout) (cell : Tally) (old mid new : List ℕ) → old ≡ [] → 1 ≤ length s.aggregates
    → AddsAnswers s cell old mid → EndsLine mid new → IsEnding s cell new
IsEnding-AddsAnswers s cell old mid new empty some adds ends =
    let digits = digits_of_answers s in
    let comma = HasComma-some (answer_texts digits adds.answers) (some_texts digits adds.answers
    (omega (arith, some, length-map s.aggregates (digits_of s))) (omega (arith, some, adds.long))) in
    record {
      answers = adds.answers;
      are = adds.are;
      front = comma.front;
      with_comma = comma.is;
      with_end = ends comma.front
          (adds.added ∙ ap (λ (t : List ℕ). t ++ parts (answer_texts digits adds.answers)) empty ∙ comma.is);
    }
