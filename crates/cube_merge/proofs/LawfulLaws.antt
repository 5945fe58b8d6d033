-- Answers, each beside its aggregate.
use Rattle.std.proofs.Common.{◌≡◌, ◌∙◌, ◌+◌, ◌<◌, ℕ, zero, suc, Bool, false, true, List, [], ◌∷◌, Some, None, ap, arith}
use Rattle.std.proofs.Common.{get_or, length, refl, slice_get, subst, sym, take}
use Rattle.std.specs.List.{AllZip}
use Rattle.std.proofs.lemmas.List.{take_more}
use Rattle.cube_core.specs.declared.aggregate.Agg.{Agg}
use Rattle.cube_core.specs.declared.aggregate.Answer.{Answer}
use Rattle.cube_core.specs.declared.aggregate.Answer.TheVariants as answer
use Rattle.cube_core.proofs.ListLaws.{AllZip-push}
use Rattle.cube_core.specs.Merged.{IsVarianceOf, count_answered}
use Rattle.cube_core.specs.PartialForm.{has_aggregate}
use Rattle.cube_core.specs.declared.aggregate.Agg.TheVariants.{Count, Sum, SumOfSquares}
use Rattle.cube_merge.specs.Lawful.{AreAlike, IsAtPlace, IsOnlyAnswer, IsSameAnswer, IsVarianceBeside, number_of}
use Rattle.cube_merge.specs.Lawful.{squares_answered, sum_answered}
use Rattle.cube_merge.proofs.SourceLaws.{has_aggregate-at, same-some}

-- one more answer that stands so to its aggregate
pub AllZip-next : (R : Agg → Answer → Type 0) (aggregates : List Agg) (answers : List Answer) (i : ℕ) (x : Agg)
    (b : Answer) → i < length aggregates → i < length answers → b ≡ get_or answers i b
    → AllZip R (take i aggregates) (take i answers) → R (get_or aggregates i x) b
    → AllZip R (take (i + 1) aggregates) (take (i + 1) answers)
AllZip-next R aggregates answers i x b inside inside_too is so_far one =
    rw (take_more aggregates i x inside, take_more answers i b inside_too)
    (AllZip-push R (take i aggregates) (take i answers) (get_or aggregates i x) (get_or answers i b) so_far
    (subst (R (get_or aggregates i x)) is one))

-- an answer and its aggregate at a place
pub AllZip-get : (R : Agg → Answer → Type 0) (aggregates : List Agg) (answers : List Answer) (i : ℕ) (x : Agg)
    (b : Answer) → i < length aggregates → i < length answers → b ≡ get_or answers i b → AllZip R aggregates answers
    → R (get_or aggregates i x) b
AllZip-get R [] answers i x b inside inside_too is all = absurd (omega (arith, inside))
AllZip-get R (y ∷ ys) [] i x b inside inside_too is all = absurd all
AllZip-get R (y ∷ ys) (c ∷ cs) zero x b inside inside_too is all = subst (R y) (sym is) all.0
AllZip-get R (y ∷ ys) (c ∷ cs) (suc i) x b inside inside_too is all =
    AllZip-get R ys cs i x b (omega (arith, inside)) (omega (arith, inside_too)) is all.1

-- what stands so to its aggregate also stands otherwise
AllZip-map : (P Q : Agg → Answer → Type 0) (aggregates : List Agg) (answers : List Answer)
    → ((agg : Agg) (a : Answer) → P agg a → Q agg a) → AllZip P aggregates answers → AllZip Q aggregates answers
AllZip-map P Q [] [] step all = tt
AllZip-map P Q [] (b ∷ bs) step all = absurd all
AllZip-map P Q (x ∷ xs) [] step all = absurd all
AllZip-map P Q (x ∷ xs) (b ∷ bs) step all = (step x b all.0, AllZip-map P Q xs bs step all.1)

-- answers that are each at the place of its aggregate are the same where an aggregate stands twice
pub alike_at_places : (places : List ℕ) (aggregates : List Agg) (answers : List Answer)
    → AllZip (IsAtPlace places answers) aggregates answers → AreAlike aggregates answers
alike_at_places places aggregates answers at =
    let answer_of : Agg → Answer = λ agg. get_or answers (get_or places (number_of agg) 0) answer.Null in
    AllZip-map (IsAtPlace places answers) (IsOnlyAnswer aggregates answers) aggregates answers
    (λ agg a here. AllZip-map (IsAtPlace places answers) (IsSameAnswer agg a) aggregates answers
    (λ other b there same. sym there ∙ ap answer_of same ∙ here) at) at

-- the answer at a place where an aggregate stands
AllZip-at : (R : Agg → Answer → Type 0) (aggregates : List Agg) (answers : List Answer) (i : ℕ) (agg : Agg)
    → AllZip R aggregates answers → slice_get aggregates i ≡ Some agg → R agg (get_or answers i answer.Null)
AllZip-at R [] answers i agg all is = let clash : None ≡ Some agg = is in absurd (cc)
AllZip-at R (x ∷ xs) [] i agg all is = absurd all
AllZip-at R (x ∷ xs) (b ∷ bs) zero agg all is = subst (λ (y : Agg). R y b) (same-some x agg is) all.0
AllZip-at R (x ∷ xs) (b ∷ bs) (suc i) agg all is = AllZip-at R xs bs i agg all.1 is

-- answers at two places of an aggregate are the same, where answers are alike
alike-at : (aggregates : List Agg) (answers : List Answer) (i j : ℕ) (agg : Agg) → AreAlike aggregates answers
    → slice_get aggregates i ≡ Some agg → slice_get aggregates j ≡ Some agg
    → get_or answers j answer.Null ≡ get_or answers i answer.Null
alike-at aggregates answers i j agg alike at other =
    AllZip-at (IsSameAnswer agg (get_or answers i answer.Null)) aggregates answers j agg
    (AllZip-at (IsOnlyAnswer aggregates answers) aggregates answers i agg alike at) other refl

-- a variance by the answers at some places is one by those at any others
pub IsVarianceBeside-at : (is_sample : Bool) (aggregates : List Agg) (answers : List Answer) (m : ℕ) (a : Answer)
    (counts sums squares : ℕ) → AreAlike aggregates answers → slice_get aggregates counts ≡ Some (Count m)
    → slice_get aggregates sums ≡ Some (Sum m) → slice_get aggregates squares ≡ Some (SumOfSquares m)
    → IsVarianceOf is_sample (count_answered (get_or answers counts answer.Null))
    (sum_answered (get_or answers sums answer.Null)) (squares_answered (get_or answers squares answer.Null)) a
    → IsVarianceBeside is_sample aggregates answers m a
IsVarianceBeside-at is_sample aggregates answers m a counts sums squares alike c s q is others more rest c' s' q' = rw (
  alike-at aggregates answers counts others (Count m) alike c c',
  alike-at aggregates answers sums more (Sum m) alike s s',
  alike-at aggregates answers squares rest (SumOfSquares m) alike q q',
) is

-- an aggregate that isn't there stands at no place
absent : (aggregates : List Agg) (place : ℕ) (agg : Agg) → has_aggregate agg aggregates ≡ false
    → slice_get aggregates place ≡ Some agg → ⊥
absent aggregates place agg missing at =
    let clash : true ≡ false = sym (has_aggregate-at aggregates place agg at) ∙ missing in
    absurd (cc)

-- where one of them isn't there, nothing is said
pub IsVarianceBeside-no_count : (is_sample : Bool) (aggregates : List Agg) (answers : List Answer) (m : ℕ) (a : Answer)
    → has_aggregate (Count m) aggregates ≡ false → IsVarianceBeside is_sample aggregates answers m a
IsVarianceBeside-no_count is_sample aggregates answers m a missing counts sums squares c s q =
    absurd (absent aggregates counts (Count m) missing c)

pub IsVarianceBeside-no_sum : (is_sample : Bool) (aggregates : List Agg) (answers : List Answer) (m : ℕ) (a : Answer)
    → has_aggregate (Sum m) aggregates ≡ false → IsVarianceBeside is_sample aggregates answers m a
IsVarianceBeside-no_sum is_sample aggregates answers m a missing counts sums squares c s q =
    absurd (absent aggregates sums (Sum m) missing s)

pub IsVarianceBeside-no_squares : (is_sample : Bool) (aggregates : List Agg) (answers : List Answer) (m : ℕ)
    (a : Answer) → has_aggregate (SumOfSquares m) aggregates ≡ false → IsVarianceBeside is_sample aggregates answers m a
IsVarianceBeside-no_squares is_sample aggregates answers m a missing counts sums squares c s q =
    absurd (absent aggregates squares (SumOfSquares m) missing q)
