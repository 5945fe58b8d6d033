-- How the texts of answers grow, answer by answer.
use Rattle.std.proofs.Common.{◌≡◌, ◌+◌, ◌<◌, ◌∷◌, [], ◌++◌, ℕ, zero, suc, List, length, get_or, take, refl, sym, ap, ◌∙◌, arith}
use Rattle.std.specs.Prelude.{min}
use Rattle.std.proofs.lemmas.List.{length-take-le, take_more}
use Rattle.cube_core.specs.Text.{answer_text, answer_texts}
use Rattle.cube_core.specs.declared.aggregate.Answer.{Answer}
use Rattle.cube_core.specs.declared.aggregate.Answer.TheVariants as answer

-- the text of one answer more
pub answer_texts-push : (digits : List ℕ) (answers : List Answer) (k : ℕ) (a : Answer) → length answers ≡ length digits
    → answer_texts (digits ++ k ∷ []) (answers ++ a ∷ []) ≡ answer_texts digits answers ++ answer_text k a ∷ []
answer_texts-push [] [] k a same = refl
answer_texts-push [] (b ∷ answers) k a same = absurd (omega (arith, same))
answer_texts-push (i ∷ digits) [] k a same = absurd (omega (arith, same))
answer_texts-push (i ∷ digits) (b ∷ answers) k a same =
    let rest : length answers ≡ length digits = omega (arith, same) in
    ap (λ t. answer_text i b ∷ t) (answer_texts-push digits answers k a rest)

-- the same, of the answers of a list
pub answer_texts-more : (digits : List ℕ) (answers : List Answer) (i k : ℕ) (a : Answer) → i < length digits
    → i < length answers → k ≡ get_or digits i 0 → a ≡ get_or answers i answer.Null
    → answer_texts (take (i + 1) digits) (take (i + 1) answers)
    ≡ answer_texts (take i digits) (take i answers) ++ answer_text k a ∷ []
answer_texts-more digits answers i k a inside inside_too k_is a_is =
    let first : take (i + 1) digits ≡ take i digits ++ k ∷ [] =
    take_more digits i 0 inside ∙ ap (λ d. take i digits ++ d ∷ []) (sym k_is) in
    let second : take (i + 1) answers ≡ take i answers ++ a ∷ [] =
    take_more answers i answer.Null inside_too ∙ ap (λ b. take i answers ++ b ∷ []) (sym a_is) in
    let below : length (take i digits) ≡ i = length-take-le i digits (omega (arith, inside)) in
    let below_too : length (take i answers) ≡ i = length-take-le i answers (omega (arith, inside_too)) in
    ap (λ t. answer_texts t (take (i + 1) answers)) first ∙ ap (answer_texts (take i digits ++ k ∷ [])) second
    ∙ answer_texts-push (take i digits) (take i answers) k a (below_too ∙ sym below)

-- all answers that have digits
pub answer_texts-whole : (i : ℕ) (digits : List ℕ) (answers : List Answer) → i ≡ min (length digits) (length answers)
    → answer_texts (take i digits) (take i answers) ≡ answer_texts digits answers
answer_texts-whole zero [] answers is = refl
answer_texts-whole zero (k ∷ digits) [] is = refl
answer_texts-whole zero (k ∷ digits) (a ∷ answers) is = absurd (omega (arith, is))
answer_texts-whole (suc i) [] answers is = absurd (omega (arith, is))
answer_texts-whole (suc i) (k ∷ digits) [] is = absurd (omega (arith, is))
answer_texts-whole (suc i) (k ∷ digits) (a ∷ answers) is =
    let rest : i ≡ min (length digits) (length answers) = omega (arith, is) in
    ap (λ t. answer_text k a ∷ t) (answer_texts-whole i digits answers rest)
