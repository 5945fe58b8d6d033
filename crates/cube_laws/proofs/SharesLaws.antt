-- What the answers of rows over shares of facts make is the answer over all of the facts.
use Rattle.std.proofs.Common.{◌≡◌, ◌↔◌, ℕ, zero, suc, ◌+◌, ◌≤ℤ◌, ℤ, Bool, true, false, List, [], ◌∷◌, ◌++◌}
use Rattle.std.proofs.Common.{length, map, flat_map, sum_by, slice_get}
use Rattle.std.proofs.Common.{Some, IsPermutation, refl, sym, ap, ◌∙◌, subst, arith}
use Rattle.std.specs.List.{AllByRecursion, AllZip, cons_option, filter_map}
use Rattle.std.proofs.lemmas.Int.{ints}
use Rattle.std.proofs.lemmas.List.Concat.{length-flat_map}
use Rattle.std.proofs.lemmas.List.Elements.{filter_map-append}
use Rattle.std.proofs.lemmas.List.Sorted.{IsPermutation-map, sum_by-IsPermutation}
use Rattle.std.proofs.lemmas.List.Sums.{sum_by-append, sum_by-cons}
use Rattle.cube_core.specs.Answer.{IsSum, IsBest, IsMean, IsAnswer, AreAnswers, AreValues, IsSumOfSquares}
use Rattle.cube_core.specs.Answer.{IsVarianceAnswer}
use Rattle.cube_core.specs.Fraction.{IsInLowestTerms}
use Rattle.cube_core.specs.Group.{values_of, value_of, total_of}
use Rattle.cube_core.specs.Merged.{count_answered, number_in, sum_of_counts, numbers_of, column, IsMeanOf, IsMerged}
use Rattle.cube_core.specs.Merged.{IsMadeVariance, IsSumOfAll, IsVarianceOf, squares_among, squares_in, sum_of_squares}
use Rattle.cube_core.specs.Merged.{values_among, values_answered}
use Rattle.cube_core.specs.Variance.{freedom_of, square, squares_of}
use Rattle.cube_core.specs.declared.aggregate.Agg.{Agg}
use Rattle.cube_core.specs.declared.aggregate.Agg.TheVariants.{CountAll, Count, Sum, Min, Max, Avg}
use Rattle.cube_core.specs.declared.aggregate.Agg.TheVariants.{CountDistinct, PercentileDisc}
use Rattle.cube_core.specs.declared.aggregate.Agg.TheVariants.{SumOfSquares, VarPop, VarSamp, Values}
use Rattle.cube_core.specs.declared.aggregate.Answer.{Answer}
use Rattle.cube_core.specs.declared.aggregate.Answer.TheVariants as answer
use Rattle.cube_core.specs.declared.fact.Fact.{Fact}
use Rattle.cube_core.specs.declared.key.Row.{Row}
use Rattle.cube_core.proofs.ListLaws.{AllByRecursion-Contains, Contains-AllByRecursion, sum_by-map, sum_by-same}
use Rattle.cube_laws.specs.Cells.{answer_at}
use Rattle.cube_laws.specs.Merging.{CanBeMadeOf, HasVarianceParts}
use Rattle.cube_laws.proofs.CountLaws.{AreAnswers-slice_get}
use Rattle.cube_laws.proofs.GroupCountLaws.{flat_map-Reordered, flat_map-each_Reordered}
use Rattle.cube_laws.proofs.HeldLaws.{AreHeld-order}
use Rattle.cube_core.proofs.ReorderedLaws.{Reordered, IsPermutation-Reordered, Reordered-IsPermutation, Reordered-sym}
use Rattle.cube_core.proofs.VarianceLaws.{IsVariance-sums}
use Rattle.cube_laws.proofs.RowOrderLaws.{filter_map-Reordered, length-Reordered, total_of-Reordered}
use Rattle.cube_laws.proofs.RowOrderLaws.{IsSum-Reordered, IsBest-Reordered, AreValues-Reordered}
use Rattle.cube_laws.proofs.RowOrderLaws.{IsDistinctCount-Reordered, IsPercentile-Reordered}
use Rattle.cube_laws.proofs.RollupBestLaws.{Says, IsSum-Says, numbers_among, numbers_among-none, numbers_among-total_of}
use Rattle.cube_laws.proofs.RollupBestLaws.{IsBest-numbers_among, IsBest-values_under, IsSum-total_of}
use Rattle.cube_laws.proofs.StatisticsLaws.{IsVariance-reduced}

-- a share of facts: some of them, and the row that answers over these
abbrev pub Share : Type 0
Share = List Fact × Row

-- the facts of a share, and its row
abbrev pub facts_in : Share → List Fact
facts_in share = share.0

abbrev pub row_in : Share → Row
row_in share = share.1

-- the row of a share answers aggregates over its facts
abbrev pub Answers : List Agg → Share → Type 0
Answers given share = AreAnswers share.0 given share.1.answers

-- the answer of a share's row at a place
abbrev answer_in : ℕ → Share → Answer
answer_in place share = answer_at place share.1

-- the values that a share's facts have of a measure
abbrev values_in : ℕ → Share → List ℤ
values_in m share = values_of m share.0

-- the values of all facts are the values of each share, joined
values_of-shares : (m : ℕ) (shares : List Share)
    → values_of m (flat_map facts_in shares) ≡ flat_map (values_in m) shares
values_of-shares m [] = refl
values_of-shares m (share ∷ shares) =
    filter_map-append (value_of m) share.0 (flat_map facts_in shares)
    ∙ ap (λ values. values_in m share ++ values) (values_of-shares m shares)

-- the numbers that the rows of shares answer
numbers_of-shares : (place : ℕ) (shares : List Share)
    → numbers_of (column place (map row_in shares)) ≡ numbers_among (answer_in place) shares
numbers_of-shares place [] = refl
numbers_of-shares place (share ∷ shares) =
    ap (cons_option (number_in (answer_in place share))) (numbers_of-shares place shares)

-- the counts that they answer
sum_of_counts-shares : (place : ℕ) (shares : List Share)
    → sum_of_counts (column place (map row_in shares)) ≡ sum_by (λ share. count_answered (answer_in place share)) shares
sum_of_counts-shares place shares =
    sum_by-map (answer_at place) count_answered (map row_in shares)
    ∙ sum_by-map row_in (λ row. count_answered (answer_at place row)) shares

-- counts of what shares have are the count of what they all have
sum_of_counts-flat_map : {Y : Type 0} (place : ℕ) (f : Share → List Y) (shares : List Share)
    → AllByRecursion (λ share. answer_in place share ≡ answer.Count (length (f share))) shares
    → sum_of_counts (column place (map row_in shares)) ≡ length (flat_map f shares)
sum_of_counts-flat_map place f shares each =
    sum_of_counts-shares place shares
    ∙ sum_by-same (λ share. count_answered (answer_in place share)) (λ share. length (f share)) shares
    (Contains-AllByRecursion (λ share. count_answered (answer_in place share) ≡ length (f share)) shares
    (λ share among. ap count_answered
    (AllByRecursion-Contains (λ other. answer_in place other ≡ answer.Count (length (f other)))
    shares share each among)))
    ∙ sym (length-flat_map f shares)

-- a mean of values is made of their sum and their count
IsMeanOf-IsMean : (values : List ℤ) (total : ℤ) (count : ℕ) (a : Answer) → total ≡ total_of values
    → count ≡ length values → IsMeanOf total count a → IsMean values a
IsMeanOf-IsMean [] total zero a sums counts h = h
IsMeanOf-IsMean [] total (suc n) a sums counts h = absurd (omega (arith, counts))
IsMeanOf-IsMean (v ∷ vs) total zero a sums counts h = absurd (omega (arith, counts))
IsMeanOf-IsMean (v ∷ vs) total (suc n) a sums counts h = (
  h.0,
  h.1,
  h.2,
  subst (λ t. IsInLowestTerms t (length (v ∷ vs)) h.0 h.1) sums
      (subst (λ k. IsInLowestTerms total k h.0 h.1) counts h.3),
)

-- and a mean that is made of them is the mean of the values
IsMean-IsMeanOf : (values : List ℤ) (total : ℤ) (count : ℕ) (a : Answer) → total ≡ total_of values
    → count ≡ length values → IsMean values a → IsMeanOf total count a
IsMean-IsMeanOf [] total zero a sums counts h = h
IsMean-IsMeanOf [] total (suc n) a sums counts h = absurd (omega (arith, counts))
IsMean-IsMeanOf (v ∷ vs) total zero a sums counts h = absurd (omega (arith, counts))
IsMean-IsMeanOf (v ∷ vs) total (suc n) a sums counts h = (
  h.0,
  h.1,
  h.2,
  subst (λ t. IsInLowestTerms t (suc n) h.0 h.1) (sym sums)
      (subst (λ k. IsInLowestTerms (total_of (v ∷ vs)) k h.0 h.1) (sym counts) h.3),
)

-- ---- squares
-- the sums of squares that the rows of shares answer
abbrev squares_in_shares : ℕ → List Share → List ℕ
squares_in_shares place shares = filter_map (λ share. squares_in (answer_in place share)) shares

squares_among-shares : (place : ℕ) (shares : List Share)
    → squares_among (column place (map row_in shares)) ≡ squares_in_shares place shares
squares_among-shares place [] = refl
squares_among-shares place (share ∷ shares) =
    ap (cons_option (squares_in (answer_in place share))) (squares_among-shares place shares)

-- one more answer, with its values, keeps both lists empty or neither
squares_in-none : (values : List ℤ) (a : Answer) (sums : List ℕ) (others : List ℤ) → IsSumOfSquares values a
    → (length sums ≡ 0) ↔ (length others ≡ 0)
    → (length (cons_option (squares_in a) sums) ≡ 0) ↔ (length (values ++ others) ≡ 0)
squares_in-none [] a sums others h both =
    subst (λ b. (length (cons_option (squares_in b) sums) ≡ 0) ↔ (length others ≡ 0)) (sym h) both
squares_in-none (v ∷ vs) a sums others h both =
    subst (λ b. (length (cons_option (squares_in b) sums) ≡ 0) ↔ (length (v ∷ vs ++ others) ≡ 0)) (sym h)
    (λ some. absurd (omega (arith, some)), λ some. absurd (omega (arith, some)))

-- one more answer that is a sum of squares
squares_in-sum : (values : List ℤ) (a : Answer) (sums : List ℕ) (others : List ℤ) → IsSumOfSquares values a
    → sum_by (λ n. n) sums ≡ squares_of others
    → sum_by (λ n. n) (cons_option (squares_in a) sums) ≡ squares_of (values ++ others)
squares_in-sum [] a sums others h same = ap (λ b. sum_by (λ n. n) (cons_option (squares_in b) sums)) h ∙ same
squares_in-sum (v ∷ vs) a sums others h same =
    ap (λ b. sum_by (λ n. n) (cons_option (squares_in b) sums)) h
    ∙ sum_by-cons (λ n. n) (squares_of (v ∷ vs)) sums
    ∙ ap (λ t. squares_of (v ∷ vs) + t) same
    ∙ sym (sum_by-append square (v ∷ vs) others)

-- so of all shares
squares_in_shares-none : (place m : ℕ) (shares : List Share)
    → AllByRecursion (λ share. IsSumOfSquares (values_in m share) (answer_in place share)) shares
    → (length (squares_in_shares place shares) ≡ 0) ↔ (length (flat_map (values_in m) shares) ≡ 0)
squares_in_shares-none place m [] each = (λ e. e, λ e. e)
squares_in_shares-none place m (share ∷ shares) each =
    squares_in-none (values_in m share) (answer_in place share) (squares_in_shares place shares)
    (flat_map (values_in m) shares) each.0 (squares_in_shares-none place m shares each.1)

squares_in_shares-sum : (place m : ℕ) (shares : List Share)
    → AllByRecursion (λ share. IsSumOfSquares (values_in m share) (answer_in place share)) shares
    → sum_by (λ n. n) (squares_in_shares place shares) ≡ squares_of (flat_map (values_in m) shares)
squares_in_shares-sum place m [] each = refl
squares_in_shares-sum place m (share ∷ shares) each =
    squares_in-sum (values_in m share) (answer_in place share) (squares_in_shares place shares)
    (flat_map (values_in m) shares) each.0 (squares_in_shares-sum place m shares each.1)

-- a sum of sums of squares is the sum of the values' squares, where these are the same, and none or some
IsSumOfAll-IsSumOfSquares : (sums : List ℕ) (values : List ℤ) (a : Answer)
    → (length sums ≡ 0) ↔ (length values ≡ 0) → sum_by (λ n. n) sums ≡ squares_of values
    → IsSumOfAll sums a → IsSumOfSquares values a
IsSumOfAll-IsSumOfSquares [] [] a both same h = h
IsSumOfAll-IsSumOfSquares [] (v ∷ vs) a both same h = absurd (omega (arith, both.0 refl))
IsSumOfAll-IsSumOfSquares (n ∷ ns) [] a both same h = absurd (omega (arith, both.1 refl))
IsSumOfAll-IsSumOfSquares (n ∷ ns) (v ∷ vs) a both same h = h ∙ ap answer.Squares same

IsSumOfSquares-IsSumOfAll : (sums : List ℕ) (values : List ℤ) (a : Answer)
    → (length sums ≡ 0) ↔ (length values ≡ 0) → sum_by (λ n. n) sums ≡ squares_of values
    → IsSumOfSquares values a → IsSumOfAll sums a
IsSumOfSquares-IsSumOfAll [] [] a both same h = h
IsSumOfSquares-IsSumOfAll [] (v ∷ vs) a both same h = absurd (omega (arith, both.0 refl))
IsSumOfSquares-IsSumOfAll (n ∷ ns) [] a both same h = absurd (omega (arith, both.1 refl))
IsSumOfSquares-IsSumOfAll (n ∷ ns) (v ∷ vs) a both same h = h ∙ ap answer.Squares (sym same)

-- ---- variances
-- a variance of values is made of their count, their sum and the sum of their squares
IsVarianceOf-IsVarianceAnswer : (is_sample : Bool) (values : List ℤ) (count : ℕ) (total : ℤ) (squares : ℕ) (a : Answer)
    → count ≡ length values → total ≡ total_of values → squares ≡ squares_of values
    → IsVarianceOf is_sample count total squares a → IsVarianceAnswer is_sample values a
IsVarianceOf-IsVarianceAnswer is_sample values count total squares answer.Null counts sums squared h =
    subst (λ n. freedom_of is_sample n ≡ 0) counts h
IsVarianceOf-IsVarianceAnswer is_sample values count total squares (answer.Variance p q) counts sums squared h =
    IsVariance-sums values is_sample p q (rw (counts, sums, squared) at h)
IsVarianceOf-IsVarianceAnswer is_sample values count total squares (answer.Count n) counts sums squared h = absurd h
IsVarianceOf-IsVarianceAnswer is_sample values count total squares (answer.Whole z) counts sums squared h = absurd h
IsVarianceOf-IsVarianceAnswer is_sample values count total squares (answer.Ratio p q) counts sums squared h = absurd h
IsVarianceOf-IsVarianceAnswer is_sample values count total squares (answer.Squares n) counts sums squared h = absurd h
IsVarianceOf-IsVarianceAnswer is_sample values count total squares (answer.Values held) counts sums squared h = absurd h

-- and a variance that is made of them is that of the values
IsVarianceAnswer-IsVarianceOf : (is_sample : Bool) (values : List ℤ) (count : ℕ) (total : ℤ) (squares : ℕ) (a : Answer)
    → count ≡ length values → total ≡ total_of values → squares ≡ squares_of values
    → IsVarianceAnswer is_sample values a → IsVarianceOf is_sample count total squares a
IsVarianceAnswer-IsVarianceOf is_sample values count total squares answer.Null counts sums squared h =
    subst (λ n. freedom_of is_sample n ≡ 0) (sym counts) h
IsVarianceAnswer-IsVarianceOf is_sample values count total squares (answer.Variance p q) counts sums squared h =
    rw (counts, sums, squared) (IsVariance-reduced values is_sample p q h)
IsVarianceAnswer-IsVarianceOf is_sample values count total squares (answer.Count n) counts sums squared h = absurd h
IsVarianceAnswer-IsVarianceOf is_sample values count total squares (answer.Whole z) counts sums squared h = absurd h
IsVarianceAnswer-IsVarianceOf is_sample values count total squares (answer.Ratio p q) counts sums squared h = absurd h
IsVarianceAnswer-IsVarianceOf is_sample values count total squares (answer.Squares n) counts sums squared h = absurd h
IsVarianceAnswer-IsVarianceOf is_sample values count total squares (answer.Values held) counts sums squared h = absurd h

-- ---- values
-- the values that the rows of shares answer
values_answered_in : ℕ → Share → List ℤ
values_answered_in place share = values_answered (answer_in place share)

values_among-shares : (place : ℕ) (shares : List Share)
    → values_among (column place (map row_in shares)) ≡ flat_map (values_answered_in place) shares
unfolding values_answered_in
values_among-shares place [] = refl
values_among-shares place (share ∷ shares) =
    ap (λ values. values_answered_in place share ++ values) (values_among-shares place shares)

-- an answer that is values holds them, in another order
AreValues-order : (values : List ℤ) (a : Answer) → AreValues values a → Reordered (values_answered a) values
AreValues-order values a (held, is, are) =
    subst (λ b. Reordered (values_answered b) values) (sym is) (AreHeld-order values held are)

module _ (given : List Agg) (shares : List Share) (each : AllByRecursion (Answers given) shares) where
  -- all facts, and the rows
  abbrev all_facts : List Fact
  all_facts = flat_map facts_in shares

  abbrev share_rows : List Row
  share_rows = map row_in shares

  -- each share's row has the answer to an aggregate at the aggregate's place
  answers-at : (P : Share → Type 0) (place : ℕ) (agg : Agg) → slice_get given place ≡ Some agg
      → ((share : Share) → IsAnswer share.0 agg (answer_in place share) → P share) → AllByRecursion P shares
  answers-at P place agg stands to =
      Contains-AllByRecursion P shares (λ share among.
      to share (AreAnswers-slice_get share.0 given share.1.answers place agg
      (AllByRecursion-Contains (Answers given) shares share each among) stands))

  -- counts of values add up
  Count-shares : (place m : ℕ) → slice_get given place ≡ Some (Count m)
      → sum_of_counts (column place share_rows) ≡ length (values_of m all_facts)
  Count-shares place m stands =
      sum_of_counts-flat_map place (values_in m) shares
      (answers-at (λ share. answer_in place share ≡ answer.Count (length (values_in m share))) place (Count m) stands
      (λ share h. h))
      ∙ ap length (sym (values_of-shares m shares))

  -- sums are the sum
  Sum-total_of : (place m : ℕ) → slice_get given place ≡ Some (Sum m)
      → total_of (numbers_of (column place share_rows)) ≡ total_of (values_of m all_facts)
  Sum-total_of place m stands =
      ap total_of (numbers_of-shares place shares)
      ∙ numbers_among-total_of (values_in m) (answer_in place) shares
      (answers-at (λ share. IsSum (values_in m share) (answer_in place share)) place (Sum m) stands (λ share h. h))
      ∙ ap total_of (sym (values_of-shares m shares))

  Sum-shares : (place m : ℕ) (a : Answer) → slice_get given place ≡ Some (Sum m)
      → IsSum (numbers_of (column place share_rows)) a → IsSum (values_of m all_facts) a
  Sum-shares place m a stands h =
      let none = numbers_among-none (values_in m) (answer_in place) shares
      (answers-at (λ share. Says (values_in m share) (answer_in place share)) place (Sum m) stands
      (λ share is. IsSum-Says (values_in m share) (answer_in place share) is)) in
      subst (λ values. IsSum values a) (sym (values_of-shares m shares))
      (IsSum-total_of (flat_map (values_in m) shares) (numbers_among (answer_in place) shares) a (none.1, none.0)
      (sym (numbers_among-total_of (values_in m) (answer_in place) shares
      (answers-at (λ share. IsSum (values_in m share) (answer_in place share)) place (Sum m) stands (λ share is. is))))
      (subst (λ numbers. IsSum numbers a) (numbers_of-shares place shares) h))

  -- the best of the best is the best
  Best-shares : (R : ℤ → ℤ → Type 0) → ((m n x : ℤ) → R m n → R n x → R m x) → (place m : ℕ) (agg : Agg) (a : Answer)
      → slice_get given place ≡ Some agg
      → ((share : Share) → IsAnswer share.0 agg (answer_in place share)
      → IsBest R (values_in m share) (answer_in place share))
      → IsBest R (numbers_of (column place share_rows)) a → IsBest R (values_of m all_facts) a
  Best-shares R better place m agg a stands best h =
      subst (λ values. IsBest R values a) (sym (values_of-shares m shares))
      (IsBest-values_under (values_in m) (answer_in place) R better shares a
      (answers-at (λ share. IsBest R (values_in m share) (answer_in place share)) place agg stands best)
      (subst (λ numbers. IsBest R numbers a) (numbers_of-shares place shares) h))

  -- sums of squares are the sum of the squares
  squares-at : (place m : ℕ) → slice_get given place ≡ Some (SumOfSquares m)
      → AllByRecursion (λ share. IsSumOfSquares (values_in m share) (answer_in place share)) shares
  squares-at place m stands =
      answers-at (λ share. IsSumOfSquares (values_in m share) (answer_in place share)) place (SumOfSquares m) stands
      (λ share is. is)

  Squares-sum : (place m : ℕ) → slice_get given place ≡ Some (SumOfSquares m)
      → sum_of_squares (column place share_rows) ≡ squares_of (values_of m all_facts)
  Squares-sum place m stands =
      ap (λ (sums : List ℕ). sum_by (λ n. n) sums) (squares_among-shares place shares)
      ∙ squares_in_shares-sum place m shares (squares-at place m stands)
      ∙ ap squares_of (sym (values_of-shares m shares))

  Squares-none : (place m : ℕ) → slice_get given place ≡ Some (SumOfSquares m)
      → (length (squares_among (column place share_rows)) ≡ 0) ↔ (length (values_of m all_facts) ≡ 0)
  Squares-none place m stands =
      subst (λ (values : List ℤ). (length (squares_among (column place share_rows)) ≡ 0) ↔ (length values ≡ 0))
      (sym (values_of-shares m shares))
      (subst (λ (sums : List ℕ). (length sums ≡ 0) ↔ (length (flat_map (values_in m) shares) ≡ 0))
      (sym (squares_among-shares place shares))
      (squares_in_shares-none place m shares (squares-at place m stands)))

  -- the values that the answers hold are the values, in another order
  Values-shares : (place m : ℕ) → slice_get given place ≡ Some (Values m)
      → Reordered (values_among (column place share_rows)) (values_of m all_facts)
  unfolding values_answered_in
  Values-shares place m stands =
      subst (Reordered (values_among (column place share_rows))) (sym (values_of-shares m shares))
      (subst (λ values. Reordered values (flat_map (values_in m) shares)) (sym (values_among-shares place shares))
      (flat_map-each_Reordered (values_answered_in place) (values_in m) shares
      (answers-at (λ share. Reordered (values_answered_in place share) (values_in m share)) place (Values m) stands
      (λ share is. AreValues-order (values_in m share) (answer_in place share) is))))

  Variance-shares : (is_sample : Bool) (m : ℕ) (a : Answer) → IsMadeVariance is_sample given share_rows m a
      → IsVarianceAnswer is_sample (values_of m all_facts) a
  Variance-shares is_sample m a h =
      IsVarianceOf-IsVarianceAnswer is_sample (values_of m all_facts) (sum_of_counts (column h.1 share_rows))
      (total_of (numbers_of (column h.0 share_rows))) (sum_of_squares (column h.2 share_rows)) a
      (Count-shares h.1 m h.4) (Sum-total_of h.0 m h.3) (Squares-sum h.2 m h.5) h.6

  -- so what the rows' answers make is the answer over all facts
  pub IsMerged-shares : (agg : Agg) (a : Answer) → IsMerged given share_rows agg a → IsAnswer all_facts agg a
  IsMerged-shares CountAll a h =
      h.2 ∙ ap answer.Count (sum_of_counts-flat_map h.0 facts_in shares
      (answers-at (λ share. answer_in h.0 share ≡ answer.Count (length (facts_in share))) h.0 CountAll h.1
      (λ share is. is)))
  IsMerged-shares (Count m) a h = h.2 ∙ ap answer.Count (Count-shares h.0 m h.1)
  IsMerged-shares (Sum m) a h = Sum-shares h.0 m a h.1 h.2
  IsMerged-shares (Min m) a h =
      Best-shares (λ m x. m ≤ℤ x) (λ m n x below above. omega (arith, ints)) h.0 m (Min m) a h.1 (λ share is. is) h.2
  IsMerged-shares (Max m) a h =
      Best-shares (λ m x. x ≤ℤ m) (λ m n x below above. omega (arith, ints)) h.0 m (Max m) a h.1 (λ share is. is) h.2
  IsMerged-shares (Avg m) a h =
      IsMeanOf-IsMean (values_of m all_facts) (total_of (numbers_of (column h.0 share_rows)))
      (sum_of_counts (column h.1 share_rows)) a
      (Sum-total_of h.0 m h.2) (Count-shares h.1 m h.3) h.4
  IsMerged-shares (CountDistinct m) a h =
      IsDistinctCount-Reordered (values_among (column h.0 share_rows)) (values_of m all_facts) a
      (Values-shares h.0 m h.1) h.2
  IsMerged-shares (PercentileDisc m units places) a h =
      IsPercentile-Reordered units places (values_among (column h.0 share_rows)) (values_of m all_facts) a
      (Values-shares h.0 m h.1) h.2
  IsMerged-shares (SumOfSquares m) a h =
      IsSumOfAll-IsSumOfSquares (squares_among (column h.0 share_rows)) (values_of m all_facts) a
      (Squares-none h.0 m h.1) (Squares-sum h.0 m h.1) h.2
  IsMerged-shares (VarPop m) a h = Variance-shares false m a h
  IsMerged-shares (VarSamp m) a h = Variance-shares true m a h
  IsMerged-shares (Values m) a h =
      AreValues-Reordered (values_among (column h.0 share_rows)) (values_of m all_facts) a (Values-shares h.0 m h.1) h.2

  pub AreMerged-shares : (wanted : List Agg) (answers : List Answer) → AllZip (IsMerged given share_rows) wanted answers
      → AreAnswers all_facts wanted answers
  AreMerged-shares [] [] h = h
  AreMerged-shares [] (a ∷ answers) h = h
  AreMerged-shares (agg ∷ wanted) [] h = h
  AreMerged-shares (agg ∷ wanted) (a ∷ answers) h = (IsMerged-shares agg a h.0, AreMerged-shares wanted answers h.1)

  -- ---- and back: the answer over all facts is what the rows' answers make
  Sum-back : (place m : ℕ) (a : Answer) → slice_get given place ≡ Some (Sum m) → IsSum (values_of m all_facts) a
      → IsSum (numbers_of (column place share_rows)) a
  Sum-back place m a stands h =
      let none = numbers_among-none (values_in m) (answer_in place) shares
      (answers-at (λ share. Says (values_in m share) (answer_in place share)) place (Sum m) stands
      (λ share is. IsSum-Says (values_in m share) (answer_in place share) is)) in
      subst (λ numbers. IsSum numbers a) (sym (numbers_of-shares place shares))
      (IsSum-total_of (numbers_among (answer_in place) shares) (flat_map (values_in m) shares) a none
      (numbers_among-total_of (values_in m) (answer_in place) shares
      (answers-at (λ share. IsSum (values_in m share) (answer_in place share)) place (Sum m) stands (λ share is. is)))
      (subst (λ values. IsSum values a) (values_of-shares m shares) h))

  Best-back : (R : ℤ → ℤ → Type 0) → ((m n : ℤ) → R m n → R n m → m ≡ n) → (place m : ℕ) (agg : Agg) (a : Answer)
      → slice_get given place ≡ Some agg
      → ((share : Share) → IsAnswer share.0 agg (answer_in place share)
      → IsBest R (values_in m share) (answer_in place share))
      → IsBest R (values_of m all_facts) a → IsBest R (numbers_of (column place share_rows)) a
  Best-back R one place m agg a stands best h =
      subst (λ numbers. IsBest R numbers a) (sym (numbers_of-shares place shares))
      (IsBest-numbers_among (values_in m) (answer_in place) R one shares a
      (answers-at (λ share. IsBest R (values_in m share) (answer_in place share)) place agg stands best)
      (subst (λ values. IsBest R values a) (values_of-shares m shares) h))

  Variance-back : (is_sample : Bool) (m : ℕ) (a : Answer) → HasVarianceParts given m
      → IsVarianceAnswer is_sample (values_of m all_facts) a → IsMadeVariance is_sample given share_rows m a
  Variance-back is_sample m a made h = (
    made.0.0,
    made.1.0,
    made.2.0,
    made.0.1,
    made.1.1,
    made.2.1,
    IsVarianceAnswer-IsVarianceOf is_sample (values_of m all_facts) (sum_of_counts (column made.1.0 share_rows))
        (total_of (numbers_of (column made.0.0 share_rows))) (sum_of_squares (column made.2.0 share_rows)) a
        (Count-shares made.1.0 m made.1.1) (Sum-total_of made.0.0 m made.0.1) (Squares-sum made.2.0 m made.2.1) h,
  )

  IsAnswer-shares : (agg : Agg) (a : Answer) → CanBeMadeOf given agg → IsAnswer all_facts agg a
      → IsMerged given share_rows agg a
  IsAnswer-shares CountAll a made h = (
    made.0,
    made.1,
    h ∙ ap answer.Count (sym (sum_of_counts-flat_map made.0 facts_in shares
        (answers-at (λ share. answer_in made.0 share ≡ answer.Count (length (facts_in share))) made.0 CountAll made.1
        (λ share is. is)))),
  )
  IsAnswer-shares (Count m) a made h = (made.0, made.1, h ∙ ap answer.Count (sym (Count-shares made.0 m made.1)))
  IsAnswer-shares (Sum m) a made h = (made.0, made.1, Sum-back made.0 m a made.1 h)
  IsAnswer-shares (Min m) a made h = (
    made.0,
    made.1,
    Best-back (λ m x. m ≤ℤ x) (λ m n below above. omega (arith, ints)) made.0 m (Min m) a made.1 (λ share is. is) h,
  )
  IsAnswer-shares (Max m) a made h = (
    made.0,
    made.1,
    Best-back (λ m x. x ≤ℤ m) (λ m n below above. omega (arith, ints)) made.0 m (Max m) a made.1 (λ share is. is) h,
  )
  IsAnswer-shares (Avg m) a made h = (
    made.0.0,
    made.1.0,
    made.0.1,
    made.1.1,
    IsMean-IsMeanOf (values_of m all_facts) (total_of (numbers_of (column made.0.0 share_rows)))
        (sum_of_counts (column made.1.0 share_rows)) a
        (Sum-total_of made.0.0 m made.0.1) (Count-shares made.1.0 m made.1.1) h,
  )
  IsAnswer-shares (CountDistinct m) a made h = (
    made.0,
    made.1,
    IsDistinctCount-Reordered (values_of m all_facts) (values_among (column made.0 share_rows)) a
        (Reordered-sym (Values-shares made.0 m made.1)) h,
  )
  IsAnswer-shares (PercentileDisc m units places) a made h = (
    made.0,
    made.1,
    IsPercentile-Reordered units places (values_of m all_facts) (values_among (column made.0 share_rows)) a
        (Reordered-sym (Values-shares made.0 m made.1)) h,
  )
  IsAnswer-shares (SumOfSquares m) a made h = (
    made.0,
    made.1,
    IsSumOfSquares-IsSumOfAll (squares_among (column made.0 share_rows)) (values_of m all_facts) a
        (Squares-none made.0 m made.1) (Squares-sum made.0 m made.1) h,
  )
  IsAnswer-shares (VarPop m) a made h = Variance-back false m a made h
  IsAnswer-shares (VarSamp m) a made h = Variance-back true m a made h
  IsAnswer-shares (Values m) a made h = (
    made.0,
    made.1,
    AreValues-Reordered (values_of m all_facts) (values_among (column made.0 share_rows)) a
        (Reordered-sym (Values-shares made.0 m made.1)) h,
  )

  pub AreAnswers-shares : (wanted : List Agg) (answers : List Answer) → AllByRecursion (CanBeMadeOf given) wanted
      → AreAnswers all_facts wanted answers → AllZip (IsMerged given share_rows) wanted answers
  AreAnswers-shares [] [] made h = h
  AreAnswers-shares [] (a ∷ answers) made h = h
  AreAnswers-shares (agg ∷ wanted) [] made h = h
  AreAnswers-shares (agg ∷ wanted) (a ∷ answers) made h =
      (IsAnswer-shares agg a made.0 h.0, AreAnswers-shares wanted answers made.1 h.1)

-- ---- rows in another order
sum_of_counts-IsPermutation : (place : ℕ) (rows rows' : List Row) → IsPermutation rows rows'
    → sum_of_counts (column place rows') ≡ sum_of_counts (column place rows)
sum_of_counts-IsPermutation place rows rows' h =
    sum_by-IsPermutation count_answered (column place rows) (column place rows')
    (IsPermutation-map (answer_at place) rows rows' h)

numbers_of-Reordered : (place : ℕ) (rows rows' : List Row) → IsPermutation rows rows'
    → Reordered (numbers_of (column place rows)) (numbers_of (column place rows'))
numbers_of-Reordered place rows rows' h =
    filter_map-Reordered number_in (IsPermutation-Reordered (column place rows) (column place rows')
    (IsPermutation-map (answer_at place) rows rows' h))

squares_among-Reordered : (place : ℕ) (rows rows' : List Row) → IsPermutation rows rows'
    → Reordered (squares_among (column place rows)) (squares_among (column place rows'))
squares_among-Reordered place rows rows' h =
    filter_map-Reordered squares_in (IsPermutation-Reordered (column place rows) (column place rows')
    (IsPermutation-map (answer_at place) rows rows' h))

sum_of_squares-IsPermutation : (place : ℕ) (rows rows' : List Row) → IsPermutation rows rows'
    → sum_of_squares (column place rows') ≡ sum_of_squares (column place rows)
sum_of_squares-IsPermutation place rows rows' h =
    sum_by-IsPermutation (λ n. n) (squares_among (column place rows)) (squares_among (column place rows'))
    (Reordered-IsPermutation (squares_among-Reordered place rows rows' h))

IsSumOfAll-Reordered : (sums sums' : List ℕ) (a : Answer) → Reordered sums sums' → IsSumOfAll sums a
    → IsSumOfAll sums' a
IsSumOfAll-Reordered [] [] a r h = h
IsSumOfAll-Reordered [] (n ∷ ns) a r h = absurd (omega (arith, length-Reordered r))
IsSumOfAll-Reordered (n ∷ ns) [] a r h = absurd (omega (arith, length-Reordered r))
IsSumOfAll-Reordered (n ∷ ns) (k ∷ ks) a r h =
    h ∙ ap answer.Squares (sym (sum_by-IsPermutation (λ n. n) (n ∷ ns) (k ∷ ks) (Reordered-IsPermutation r)))

values_among-Reordered : (place : ℕ) (rows rows' : List Row) → IsPermutation rows rows'
    → Reordered (values_among (column place rows)) (values_among (column place rows'))
values_among-Reordered place rows rows' h =
    flat_map-Reordered values_answered (IsPermutation-Reordered (column place rows) (column place rows')
    (IsPermutation-map (answer_at place) rows rows' h))

IsMadeVariance-IsPermutation : (is_sample : Bool) (given : List Agg) (rows rows' : List Row) (m : ℕ) (a : Answer)
    → IsPermutation rows rows' → IsMadeVariance is_sample given rows m a → IsMadeVariance is_sample given rows' m a
IsMadeVariance-IsPermutation is_sample given rows rows' m a p h = (
  h.0,
  h.1,
  h.2,
  h.3,
  h.4,
  h.5,
  subst (λ (count : ℕ). IsVarianceOf is_sample count (total_of (numbers_of (column h.0 rows')))
      (sum_of_squares (column h.2 rows')) a) (sym (sum_of_counts-IsPermutation h.1 rows rows' p))
      (subst (λ (total : ℤ). IsVarianceOf is_sample (sum_of_counts (column h.1 rows)) total
      (sum_of_squares (column h.2 rows')) a) (total_of-Reordered (numbers_of-Reordered h.0 rows rows' p))
      (subst (λ (squares : ℕ). IsVarianceOf is_sample (sum_of_counts (column h.1 rows))
      (total_of (numbers_of (column h.0 rows))) squares a)
      (sym (sum_of_squares-IsPermutation h.2 rows rows' p)) h.6)),
)

-- rows in another order make the same answer
pub IsMerged-IsPermutation : (given : List Agg) (rows rows' : List Row) (agg : Agg) (a : Answer)
    → IsPermutation rows rows' → IsMerged given rows agg a → IsMerged given rows' agg a
IsMerged-IsPermutation given rows rows' CountAll a p h =
    (h.0, h.1, h.2 ∙ ap answer.Count (sym (sum_of_counts-IsPermutation h.0 rows rows' p)))
IsMerged-IsPermutation given rows rows' (Count m) a p h =
    (h.0, h.1, h.2 ∙ ap answer.Count (sym (sum_of_counts-IsPermutation h.0 rows rows' p)))
IsMerged-IsPermutation given rows rows' (Sum m) a p h =
    (h.0, h.1, IsSum-Reordered _ _ a (numbers_of-Reordered h.0 rows rows' p) h.2)
IsMerged-IsPermutation given rows rows' (Min m) a p h =
    (h.0, h.1, IsBest-Reordered (λ m x. m ≤ℤ x) _ _ a (numbers_of-Reordered h.0 rows rows' p) h.2)
IsMerged-IsPermutation given rows rows' (Max m) a p h =
    (h.0, h.1, IsBest-Reordered (λ m x. x ≤ℤ m) _ _ a (numbers_of-Reordered h.0 rows rows' p) h.2)
IsMerged-IsPermutation given rows rows' (Avg m) a p h = (
  h.0,
  h.1,
  h.2,
  h.3,
  subst (λ total. IsMeanOf total (sum_of_counts (column h.1 rows')) a)
      (total_of-Reordered (numbers_of-Reordered h.0 rows rows' p))
      (subst (λ count. IsMeanOf (total_of (numbers_of (column h.0 rows))) count a)
      (sym (sum_of_counts-IsPermutation h.1 rows rows' p)) h.4),
)
IsMerged-IsPermutation given rows rows' (CountDistinct m) a p h =
    (h.0, h.1, IsDistinctCount-Reordered _ _ a (values_among-Reordered h.0 rows rows' p) h.2)
IsMerged-IsPermutation given rows rows' (PercentileDisc m units places) a p h =
    (h.0, h.1, IsPercentile-Reordered units places _ _ a (values_among-Reordered h.0 rows rows' p) h.2)
IsMerged-IsPermutation given rows rows' (SumOfSquares m) a p h =
    (h.0, h.1, IsSumOfAll-Reordered _ _ a (squares_among-Reordered h.0 rows rows' p) h.2)
IsMerged-IsPermutation given rows rows' (VarPop m) a p h =
    IsMadeVariance-IsPermutation false given rows rows' m a p h
IsMerged-IsPermutation given rows rows' (VarSamp m) a p h =
    IsMadeVariance-IsPermutation true given rows rows' m a p h
IsMerged-IsPermutation given rows rows' (Values m) a p h =
    (h.0, h.1, AreValues-Reordered _ _ a (values_among-Reordered h.0 rows rows' p) h.2)

pub AreMerged-IsPermutation : (given : List Agg) (rows rows' : List Row) (wanted : List Agg) (answers : List Answer)
    → IsPermutation rows rows'
    → AllZip (IsMerged given rows) wanted answers → AllZip (IsMerged given rows') wanted answers
AreMerged-IsPermutation given rows rows' [] [] p h = h
AreMerged-IsPermutation given rows rows' [] (a ∷ answers) p h = h
AreMerged-IsPermutation given rows rows' (agg ∷ wanted) [] p h = h
AreMerged-IsPermutation given rows rows' (agg ∷ wanted) (a ∷ answers) p h =
    (IsMerged-IsPermutation given rows rows' agg a p h.0, AreMerged-IsPermutation given rows rows' wanted answers p h.1)
