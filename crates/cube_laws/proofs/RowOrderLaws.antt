-- Facts in another order have the same groups, up to order, and so the same answers and rows.
use Rattle.std.proofs.Common.{◌≡◌, ℕ, suc, ◌*◌, ◌≤ℤ◌, ℤ, pos, ◌+ℤ◌, ◌-ℤ◌, ◌*ℤ◌, Bool, true, false, cond, List, [], ◌∷◌}
use Rattle.std.proofs.Common.{length, sum_by}
use Rattle.std.proofs.Common.{map, filter_map, Option, Some, None, Contains, IsPermutation, IsTrue}
use Rattle.std.proofs.Common.{◌↔◌, ◌||◌, ◌&&◌, refl, sym, ap, ◌∙◌, subst, subst₂, ap₂, arith}
use Rattle.std.specs.List.{AllByRecursion, cons_option, count_by}
use Rattle.std.specs.Ordering.{int_cmp, int_eq, is_lt, is_le}
use Rattle.std.proofs.lemmas.Int.{ints}
use Rattle.std.proofs.lemmas.List.Elements.{All-from_recursion, recursion_from_All}
use Rattle.std.proofs.lemmas.List.Sorted.{All-permutation, IsPermutation-map}
use Rattle.std.proofs.lemmas.List.Sorted.{Contains-permutation, list_any-IsPermutation, sum_by-IsPermutation}
use Rattle.cube_core.specs.Layout.{Layout}
use Rattle.cube_core.specs.TextPlaces.{counted}
use Rattle.cube_laws.specs.Cells.{all_counted}
use Rattle.cube_core.proofs.ReorderedLaws.{Reordered, none, next, exchange, both, Reordered-refl, IsPermutation-Reordered}
use Rattle.cube_core.proofs.ReorderedLaws.{Reordered-sym, Reordered-IsPermutation, filter-Reordered}
use Rattle.cube_core.specs.Answer.{IsSum, IsBest, IsMean, IsAnswer, AreAnswers, IsDistinctCount, IsPercentile, StandsAt}
use Rattle.cube_core.specs.Answer.{AreHeld, AreValues, IsSumOfSquares, IsVarianceAnswer, percentile_place}
use Rattle.cube_core.specs.Covers.{covers}
use Rattle.cube_core.specs.Cube.{AreRows, AreRowsOver, HasAnswers, key_of, is_cell, is_total}
use Rattle.cube_core.specs.Fraction.{IsInLowestTerms}
use Rattle.cube_core.specs.Group.{group_of, total_of, values_of, value_of}
use Rattle.cube_core.specs.GroupingSet.{is_among, mask_of}
use Rattle.cube_core.specs.Printed.{IsPrinted}
use Rattle.cube_core.specs.Variance.{deviations_of, freedom_of, square, squares_of}
use Rattle.cube_core.specs.Wide.{IsReduced}
use Rattle.cube_core.specs.declared.aggregate.Agg.{Agg}
use Rattle.cube_core.specs.declared.aggregate.Agg.TheVariants as agg
use Rattle.cube_core.specs.declared.aggregate.Answer.{Answer}
use Rattle.cube_core.specs.declared.aggregate.Answer.TheVariants as answer
use Rattle.cube_core.specs.declared.fact.Fact.{Fact}
use Rattle.cube_core.specs.declared.key.Key.{Key}
use Rattle.cube_core.specs.declared.key.Row.{Row}

-- a value that is there or not in both lists
Reordered-cons_option : {X : Type 0} (o : Option X) (xs ys : List X) → Reordered xs ys →
    Reordered (cons_option o xs) (cons_option o ys)
Reordered-cons_option None xs ys r = r
Reordered-cons_option (Some x) xs ys r = next r

Reordered-cons_option_both : {X : Type 0} (o p : Option X) (xs : List X) →
    Reordered (cons_option o (cons_option p xs)) (cons_option p (cons_option o xs))
Reordered-cons_option_both None None xs = Reordered-refl xs
Reordered-cons_option_both None (Some y) xs = Reordered-refl (y ∷ xs)
Reordered-cons_option_both (Some x) None xs = Reordered-refl (x ∷ xs)
Reordered-cons_option_both (Some x) (Some y) xs = exchange

-- the values that there are, are the same up to order
pub filter_map-Reordered : {X Y : Type 0} (h : X → Option Y) {xs ys : List X} → Reordered xs ys →
    Reordered (filter_map h xs) (filter_map h ys)
filter_map-Reordered h none = none
filter_map-Reordered h (next {x} {xs} {ys} r) =
    Reordered-cons_option (h x) (filter_map h xs) (filter_map h ys) (filter_map-Reordered h r)
filter_map-Reordered h (exchange {x} {y} {xs}) = Reordered-cons_option_both (h x) (h y) (filter_map h xs)
filter_map-Reordered h (both r t) = both (filter_map-Reordered h r) (filter_map-Reordered h t)

-- as many
pub length-Reordered : {X : Type 0} {xs ys : List X} → Reordered xs ys → length xs ≡ length ys
length-Reordered none = refl
length-Reordered (next r) = ap suc (length-Reordered r)
length-Reordered exchange = refl
length-Reordered (both r t) = length-Reordered r ∙ length-Reordered t

-- the same sum
pub total_of-Reordered : {xs ys : List ℤ} → Reordered xs ys → total_of xs ≡ total_of ys
total_of-Reordered none = refl
total_of-Reordered (next {x} r) = ap (λ total. x +ℤ total) (total_of-Reordered r)
total_of-Reordered (exchange {x} {y} {xs}) = omega (arith, ints)
total_of-Reordered (both r t) = total_of-Reordered r ∙ total_of-Reordered t

-- the same groups and values, up to order
pub group_of-Reordered : (key : Key) {facts facts' : List Fact} → Reordered facts facts' →
    Reordered (group_of key facts) (group_of key facts')
group_of-Reordered key r = filter-Reordered (covers key) r

pub values_of-Reordered : (m : ℕ) {facts facts' : List Fact} → Reordered facts facts' →
    Reordered (values_of m facts) (values_of m facts')
values_of-Reordered m r = filter_map-Reordered (value_of m) r

-- what is known of each element
AllByRecursion-Reordered : {X : Type 0} (P : X → Type 0) (xs ys : List X) → Reordered xs ys → AllByRecursion P xs →
    AllByRecursion P ys
AllByRecursion-Reordered P xs ys r h =
    recursion_from_All P ys (All-permutation P xs ys (Reordered-IsPermutation r) (All-from_recursion P xs h))

pub IsSum-Reordered : (values values' : List ℤ) (a : Answer) → Reordered values values' → IsSum values a
    → IsSum values' a
IsSum-Reordered [] [] a r h = h
IsSum-Reordered [] (w ∷ ws) a r h = absurd (omega (arith, length-Reordered r))
IsSum-Reordered (v ∷ vs) [] a r h = absurd (omega (arith, length-Reordered r))
IsSum-Reordered (v ∷ vs) (w ∷ ws) a r h = h ∙ ap answer.Whole (total_of-Reordered r)

pub IsBest-Reordered : (IsAsGood : ℤ → ℤ → Type 0) (values values' : List ℤ) (a : Answer) → Reordered values values' →
    IsBest IsAsGood values a → IsBest IsAsGood values' a
IsBest-Reordered IsAsGood [] [] a r h = h
IsBest-Reordered IsAsGood [] (w ∷ ws) a r h = absurd (omega (arith, length-Reordered r))
IsBest-Reordered IsAsGood (v ∷ vs) [] a r h = absurd (omega (arith, length-Reordered r))
IsBest-Reordered IsAsGood (v ∷ vs) (w ∷ ws) a r h = (
  h.0,
  h.1,
  Contains-permutation (v ∷ vs) (w ∷ ws) h.0 (Reordered-IsPermutation r) h.2,
  AllByRecursion-Reordered (IsAsGood h.0) (v ∷ vs) (w ∷ ws) r h.3,
)

pub IsMean-Reordered : (values values' : List ℤ) (a : Answer) → Reordered values values' → IsMean values a
    → IsMean values' a
IsMean-Reordered [] [] a r h = h
IsMean-Reordered [] (w ∷ ws) a r h = absurd (omega (arith, length-Reordered r))
IsMean-Reordered (v ∷ vs) [] a r h = absurd (omega (arith, length-Reordered r))
IsMean-Reordered (v ∷ vs) (w ∷ ws) a r h = (
  h.0,
  h.1,
  h.2,
  subst₂ (λ total count. IsInLowestTerms total count h.0 h.1) (total_of-Reordered r) (length-Reordered r) h.3,
)

-- as many elements pass a test
pub count_by-Reordered : {X : Type 0} (p : X → Bool) {xs ys : List X} → Reordered xs ys → count_by p xs ≡ count_by p ys
count_by-Reordered p {xs} {ys} r =
    sym (sum_by-IsPermutation (λ x. cond (p x) 1 0) xs ys (Reordered-IsPermutation r))

StandsAt-Reordered : (place : ℕ) (values values' : List ℤ) (v : ℤ) → Reordered values values'
    → StandsAt place values v → StandsAt place values' v
StandsAt-Reordered place values values' v r stands = record {
  fewer = omega (arith, stands.fewer, count_by-Reordered (λ x. is_lt (int_cmp x v)) r);
  as_many = omega (arith, stands.as_many, count_by-Reordered (λ x. is_le (int_cmp x v)) r);
}

pub IsDistinctCount-Reordered : (values values' : List ℤ) (a : Answer) → Reordered values values'
    → IsDistinctCount values a → IsDistinctCount values' a
IsDistinctCount-Reordered values values' a r (numbers, sorted, same, is) = (
  numbers,
  sorted,
  λ x. (
    λ there. Contains-permutation values values' x (Reordered-IsPermutation r) ((same x).0 there),
    λ there. (same x).1 (Contains-permutation values' values x (Reordered-IsPermutation (Reordered-sym r)) there),
  ),
  is,
)

pub IsPercentile-Reordered : (units places : ℕ) (values values' : List ℤ) (a : Answer) → Reordered values values'
    → IsPercentile units places values a → IsPercentile units places values' a
IsPercentile-Reordered units places [] [] a r h = h
IsPercentile-Reordered units places [] (w ∷ ws) a r h = absurd (omega (arith, length-Reordered r))
IsPercentile-Reordered units places (v ∷ vs) [] a r h = absurd (omega (arith, length-Reordered r))
IsPercentile-Reordered units places (v ∷ vs) (w ∷ ws) a r (x, is, stands) = (
  x,
  is,
  StandsAt-Reordered (percentile_place units places (length (w ∷ ws))) (v ∷ vs) (w ∷ ws) x r
      (subst (λ (n : ℕ). StandsAt (percentile_place units places n) (v ∷ vs) x) (length-Reordered r) stands),
)

-- the same squares
squares_of-Reordered : {xs ys : List ℤ} → Reordered xs ys → squares_of xs ≡ squares_of ys
squares_of-Reordered {xs} {ys} r = sym (sum_by-IsPermutation square xs ys (Reordered-IsPermutation r))

pub IsSumOfSquares-Reordered : (values values' : List ℤ) (a : Answer) → Reordered values values'
    → IsSumOfSquares values a → IsSumOfSquares values' a
IsSumOfSquares-Reordered [] [] a r h = h
IsSumOfSquares-Reordered [] (w ∷ ws) a r h = absurd (omega (arith, length-Reordered r))
IsSumOfSquares-Reordered (v ∷ vs) [] a r h = absurd (omega (arith, length-Reordered r))
IsSumOfSquares-Reordered (v ∷ vs) (w ∷ ws) a r h = h ∙ ap answer.Squares (squares_of-Reordered r)

-- as far from their mean
deviations_of-Reordered : {xs ys : List ℤ} → Reordered xs ys → deviations_of xs ≡ deviations_of ys
deviations_of-Reordered {xs} {ys} r =
    ap₂ (λ (n : ℕ) (z : ℤ). sum_by (λ x. square (pos n *ℤ x -ℤ z)) xs) (length-Reordered r) (total_of-Reordered r)
    ∙ sym (sum_by-IsPermutation (λ x. square (pos (length ys) *ℤ x -ℤ total_of ys)) xs ys (Reordered-IsPermutation r))

pub IsVarianceAnswer-Reordered : (is_sample : Bool) (values values' : List ℤ) (a : Answer) → Reordered values values'
    → IsVarianceAnswer is_sample values a → IsVarianceAnswer is_sample values' a
IsVarianceAnswer-Reordered is_sample values values' answer.Null r h =
    subst (λ n. freedom_of is_sample n ≡ 0) (length-Reordered r) h
IsVarianceAnswer-Reordered is_sample values values' (answer.Variance p q) r h = record {
  fraction = subst₂ (λ d n. IsReduced d (n * n * freedom_of is_sample n) p q)
      (deviations_of-Reordered r) (length-Reordered r) h.fraction;
}
IsVarianceAnswer-Reordered is_sample values values' (answer.Count n) r h = absurd h
IsVarianceAnswer-Reordered is_sample values values' (answer.Whole z) r h = absurd h
IsVarianceAnswer-Reordered is_sample values values' (answer.Ratio p q) r h = absurd h
IsVarianceAnswer-Reordered is_sample values values' (answer.Squares n) r h = absurd h
IsVarianceAnswer-Reordered is_sample values values' (answer.Values held) r h = absurd h

-- each value as often
AreHeld-Reordered : (values values' : List ℤ) (held : List (ℤ × ℕ)) → Reordered values values' → AreHeld values held
    → AreHeld values' held
AreHeld-Reordered values values' held r are = record {
  ascending = are.ascending;
  some = are.some;
  same = λ x. are.same x ∙ count_by-Reordered (int_eq x) r;
}

pub AreValues-Reordered : (values values' : List ℤ) (a : Answer) → Reordered values values' → AreValues values a
    → AreValues values' a
AreValues-Reordered values values' a r (held, is, are) = (held, is, AreHeld-Reordered values values' held r are)

-- an answer over a group is one over the group in another order
IsAnswer-Reordered : (group group' : List Fact) (aggregate : Agg) (a : Answer) → Reordered group group' →
    IsAnswer group aggregate a → IsAnswer group' aggregate a
IsAnswer-Reordered group group' agg.CountAll a r h = h ∙ ap answer.Count (length-Reordered r)
IsAnswer-Reordered group group' (agg.Count m) a r h = h ∙ ap answer.Count (length-Reordered (values_of-Reordered m r))
IsAnswer-Reordered group group' (agg.Sum m) a r h =
    IsSum-Reordered (values_of m group) (values_of m group') a (values_of-Reordered m r) h
IsAnswer-Reordered group group' (agg.Min m) a r h =
    IsBest-Reordered (λ m x. m ≤ℤ x) (values_of m group) (values_of m group') a (values_of-Reordered m r) h
IsAnswer-Reordered group group' (agg.Max m) a r h =
    IsBest-Reordered (λ m x. x ≤ℤ m) (values_of m group) (values_of m group') a (values_of-Reordered m r) h
IsAnswer-Reordered group group' (agg.Avg m) a r h =
    IsMean-Reordered (values_of m group) (values_of m group') a (values_of-Reordered m r) h
IsAnswer-Reordered group group' (agg.CountDistinct m) a r h =
    IsDistinctCount-Reordered (values_of m group) (values_of m group') a (values_of-Reordered m r) h
IsAnswer-Reordered group group' (agg.PercentileDisc m units places) a r h =
    IsPercentile-Reordered units places (values_of m group) (values_of m group') a (values_of-Reordered m r) h
IsAnswer-Reordered group group' (agg.SumOfSquares m) a r h =
    IsSumOfSquares-Reordered (values_of m group) (values_of m group') a (values_of-Reordered m r) h
IsAnswer-Reordered group group' (agg.VarPop m) a r h =
    IsVarianceAnswer-Reordered false (values_of m group) (values_of m group') a (values_of-Reordered m r) h
IsAnswer-Reordered group group' (agg.VarSamp m) a r h =
    IsVarianceAnswer-Reordered true (values_of m group) (values_of m group') a (values_of-Reordered m r) h
IsAnswer-Reordered group group' (agg.Values m) a r h =
    AreValues-Reordered (values_of m group) (values_of m group') a (values_of-Reordered m r) h

AreAnswers-Reordered : (group group' : List Fact) (aggregates : List Agg) (answers : List Answer)
    → Reordered group group' →
    AreAnswers group aggregates answers → AreAnswers group' aggregates answers
AreAnswers-Reordered group group' [] [] r h = h
AreAnswers-Reordered group group' [] (a ∷ answers) r h = h
AreAnswers-Reordered group group' (aggregate ∷ aggregates) [] r h = h
AreAnswers-Reordered group group' (aggregate ∷ aggregates) (a ∷ answers) r h =
    (IsAnswer-Reordered group group' aggregate a r h.0, AreAnswers-Reordered group group' aggregates answers r h.1)

HasAnswers-Reordered : (aggregates : List Agg) (facts facts' : List Fact) (rows : List Row) → Reordered facts facts' →
    AllByRecursion (HasAnswers aggregates facts) rows → AllByRecursion (HasAnswers aggregates facts') rows
HasAnswers-Reordered aggregates facts facts' [] r h = h
HasAnswers-Reordered aggregates facts facts' (row ∷ rows) r h = (
  AreAnswers-Reordered (group_of row.key facts) (group_of row.key facts') aggregates row.answers
      (group_of-Reordered row.key r) h.0,
  HasAnswers-Reordered aggregates facts facts' rows r h.1,
)

-- the same cells
is_cell-IsPermutation : (sets : List ℕ) (dimensions : ℕ) (facts facts' : List Fact) (key : Key)
    → IsPermutation facts facts' →
    is_cell sets dimensions facts key ≡ is_cell sets dimensions facts' key
is_cell-IsPermutation sets dimensions facts facts' key h =
    ap (λ b. is_among (mask_of key) sets && (is_total dimensions key || b))
    (list_any-IsPermutation (covers key) facts facts' h)

-- the rows over facts are those over the facts in another order
pub AreRowsOver-IsPermutation : (sets : List ℕ) (dimensions : ℕ) (aggregates : List Agg) (facts facts' : List Fact)
    (rows : List Row) →
    IsPermutation facts facts' → AreRowsOver sets dimensions aggregates facts rows →
    AreRowsOver sets dimensions aggregates facts' rows
AreRowsOver-IsPermutation sets dimensions aggregates facts facts' rows h are =
    record {
      cells = λ key. subst (λ b. Contains (map key_of rows) key ↔ IsTrue b)
          (is_cell-IsPermutation sets dimensions facts facts' key h) (are.cells key);
      ordered = are.ordered;
      answers = HasAnswers-Reordered aggregates facts facts' rows (IsPermutation-Reordered facts facts' h) are.answers;
    }

-- the rows of a schema's cube are those of the facts in another order
pub AreRows-IsPermutation : (s : Layout) (facts facts' : List Fact) (rows : List Row) → IsPermutation facts facts' →
    AreRows s facts rows → AreRows s facts' rows
AreRows-IsPermutation s facts facts' rows h are =
    AreRowsOver-IsPermutation _ _ s.aggregates (all_counted s facts) (all_counted s facts') rows
    (IsPermutation-map (counted s) facts facts' h) are

-- the printed cube of facts is that of the facts in another order
pub IsPrinted-IsPermutation : (s : Layout) (facts facts' : List Fact) (text : List ℕ) → IsPermutation facts facts' →
    IsPrinted s facts text → IsPrinted s facts' text
IsPrinted-IsPermutation s facts facts' text h printed =
    record {
      rows = printed.rows;
      are_rows = AreRows-IsPermutation s facts facts' printed.rows h printed.are_rows;
      text_is = printed.text_is;
    }
