-- The answers over facts that can be counted are in the ranges of their kinds.
use Rattle.std.proofs.Common.{◌≡◌, ℕ, zero, suc, ◌+◌, ◌*◌, ◌<◌, ◌≤◌, ◌≤ℤ◌, ◌^◌, ℤ, pos, negsuc, neg_ℤ, ◌+ℤ◌}
use Rattle.std.proofs.Common.{Bool, true, false, ◌||◌, ◌==◌, refl}
use Rattle.std.proofs.Common.{unsigned_abs, List, [], ◌∷◌, length, get_or, filter, Contains, Option, Some, None, IfSome}
use Rattle.std.proofs.Common.{FitsSigned, sym, ap, ◌∙◌, subst, inl, inr, arith}
use Prim.Native.Nat.{◌∣◌}
use Rattle.std.specs.Int.{w64, w128}
use Rattle.std.specs.List.{AllByRecursion, AllZip, cons_option, list_all, list_any}
use Rattle.std.proofs.lemmas.Bool.{cases_Bool, and_parts, or_cases, both_ways, false≢true, eqb-true}
use Rattle.std.proofs.lemmas.Int.{ints, fits_signed_from_abs, unsigned_abs-mul}
use Rattle.std.proofs.lemmas.List.Elements.{All-filter, All-from_recursion, recursion_from_All}
use Rattle.std.proofs.lemmas.List.Sums.{sum_by-cons}
use Rattle.std.proofs.lemmas.Nat.Gcd.{IsGcd-swap, le_of_dvd}
use Rattle.std.proofs.Math.Nat.{dvd-mul_left, dvd-mul_right, mul_comm, le-mul_of_pos_right, mul-le-mul}
use Rattle.cube_core.specs.Answer.{IsSum, IsBest, IsMean, IsAnswer, AreAnswers, IsPercentile, IsSumOfSquares}
use Rattle.cube_core.specs.Answer.{AreValues, IsVarianceAnswer}
use Rattle.cube_core.specs.Covers.{covers}
use Rattle.cube_core.specs.Cube.{AreRows, HasAnswers, is_total, key_of}
use Rattle.cube_core.specs.Fraction.{IsInLowestTerms}
use Rattle.cube_core.specs.Group.{group_of, values_of, value_of, total_of}
use Rattle.cube_core.specs.GroupingSet.{is_all_coord}
use Rattle.cube_core.specs.Layout.{Layout, keeps}
use Rattle.cube_core.specs.Variance.{IsVariance, freedom_of, spread, square, squares_of}
use Rattle.cube_core.specs.Wide.{IsReduced}
use Rattle.cube_core.specs.declared.aggregate.Agg.{Agg}
use Rattle.cube_core.specs.declared.aggregate.Agg.TheVariants.{CountAll, Count, Sum, Min, Max, Avg}
use Rattle.cube_core.specs.declared.aggregate.Agg.TheVariants.{CountDistinct, PercentileDisc}
use Rattle.cube_core.specs.declared.aggregate.Agg.TheVariants.{SumOfSquares, VarPop, VarSamp, Values}
use Rattle.cube_core.specs.declared.aggregate.Answer.{Answer}
use Rattle.cube_core.specs.declared.aggregate.Answer.TheVariants.{Null, Count as CountOf, Whole, Ratio}
use Rattle.cube_core.specs.declared.aggregate.Answer.TheVariants.{Squares, Variance, Values as ValuesOf}
use Rattle.cube_core.specs.declared.fact.Fact.{Fact}
use Rattle.cube_core.specs.declared.key.Key.{Key}
use Rattle.cube_core.specs.declared.key.Row.{Row}
use Rattle.cube_core.proofs.CommonDivisorLaws.{divides-coprime}
use Rattle.cube_core.proofs.VarianceLaws.{squares_and_spread}
use Rattle.cube_core.proofs.ListLaws.{AllByRecursion-Contains, Contains-AllByRecursion, map-Contains, filter-passed}
use Rattle.cube_core.proofs.ListLaws.{Contains-head, Contains-nil, filter-failed}
use Rattle.cube_merge.specs.Lawful.{IsCount, IsNumber, IsValue, IsFraction, IsOfKind, IsLawfulRow, IsSquares}
use Rattle.cube_merge.specs.Lawful.{IsVarianceFraction, ListsValues}
use Rattle.cube_merge.specs.Lawful.{IsNoZero, CountsFacts, IsInOrder, IsAtLeast, IsWithin}
use Rattle.cube_merge.specs.Lawful.{IsNoneAmong, TellsNone, measure_of, tells_no_value, tells_none}
use Rattle.cube_laws.specs.Told.{HasSmallValues, AreCountable, CanBePrinted}
use Rattle.cube_laws.proofs.HeldLaws.{AreHeld-each, AreHeld-itself, AreHeld-none, AreHeld-order}
use Rattle.cube_laws.proofs.HolisticLaws.{IsDistinct-length, IsPercentile-Contains}
use Rattle.cube_core.proofs.TextRowLaws.{are_rows-plain}
use Rattle.cube_core.proofs.TextSchemaLaws.{number_of_dimensions-none}
use Rattle.cube_laws.proofs.KeyLaws.{IsTold-is_cell}
use Rattle.cube_laws.proofs.RowOrderLaws.{length-Reordered}
use Rattle.cube_laws.proofs.StatisticsLaws.{IsReduced-IsInLowestTerms, IsVariance-spread}

-- ---- sizes
-- a number is as far from 0 as its size
unsigned_abs-within : (z : ℤ) → (neg_ℤ (pos (unsigned_abs z)) ≤ℤ z) × (z ≤ℤ pos (unsigned_abs z))
unsigned_abs-within (pos n) = (omega (arith, ints), omega (arith, ints))
unsigned_abs-within (negsuc n) = (omega (arith, ints), omega (arith, ints))

within-unsigned_abs : (z : ℤ) (k : ℕ) → neg_ℤ (pos k) ≤ℤ z → z ≤ℤ pos k → unsigned_abs z ≤ k
within-unsigned_abs (pos n) k below above = omega (arith, ints)
within-unsigned_abs (negsuc n) k below above = omega (arith, ints)

unsigned_abs-add : (a b : ℤ) → unsigned_abs (a +ℤ b) ≤ unsigned_abs a + unsigned_abs b
unsigned_abs-add a b =
    let of_a = unsigned_abs-within a in
    let of_b = unsigned_abs-within b in
    let low : neg_ℤ (pos (unsigned_abs a + unsigned_abs b)) ≤ℤ (a +ℤ b) = omega (arith, ints, of_a.0, of_b.0) in
    let high : (a +ℤ b) ≤ℤ pos (unsigned_abs a + unsigned_abs b) = omega (arith, ints, of_a.1, of_b.1) in
    within-unsigned_abs (a +ℤ b) (unsigned_abs a + unsigned_abs b) low high

-- a number of 64 bits has a size of at most 2 to the power 63
fits-unsigned_abs : (z : ℤ) → FitsSigned w64 z → unsigned_abs z ≤ 2 ^ 63
fits-unsigned_abs (pos n) fits = omega arith
fits-unsigned_abs (negsuc n) fits = omega arith

fits_wide : (z : ℤ) → unsigned_abs z < 2 ^ 127 → FitsSigned w128 z
fits_wide z small = fits_signed_from_abs w128 z small

-- the sum of numbers of 64 bits
total_of-unsigned_abs : (values : List ℤ) → AllByRecursion (FitsSigned w64) values
    → unsigned_abs (total_of values) ≤ length values * 2 ^ 63
total_of-unsigned_abs [] small = omega arith
total_of-unsigned_abs (v ∷ vs) small =
    let first : unsigned_abs v ≤ 2 ^ 63 = fits-unsigned_abs v small.0 in
    let after : unsigned_abs (total_of vs) ≤ length vs * 2 ^ 63 = total_of-unsigned_abs vs small.1 in
    let sum : unsigned_abs (v +ℤ total_of vs) ≤ unsigned_abs v + unsigned_abs (total_of vs) =
    unsigned_abs-add v (total_of vs) in
    omega (arith, first, after, sum)

-- fewer than 2 to the power 64 of them
total_of-fits : (values : List ℤ) → length values < 2 ^ 64 → AllByRecursion (FitsSigned w64) values
    → unsigned_abs (total_of values) < 2 ^ 127
total_of-fits values few small = let size = total_of-unsigned_abs values small in omega (arith, size, few)

-- ---- fractions
-- a fraction in lowest terms is no larger than what it is made of
IsInLowestTerms-size : (total : ℤ) (count : ℕ) (p : ℤ) (q : ℕ) → IsInLowestTerms total count p q
    → unsigned_abs p * count ≡ unsigned_abs total * q
IsInLowestTerms-size total count p q h =
    sym (unsigned_abs-mul p (pos count)) ∙ ap unsigned_abs h.equal ∙ unsigned_abs-mul total (pos q)

IsInLowestTerms-count : (total : ℤ) (count : ℕ) (p : ℤ) (q : ℕ) → 0 < count → IsInLowestTerms total count p q
    → q ≤ count
IsInLowestTerms-count total count p q some h =
    le_of_dvd some (divides-coprime q (unsigned_abs p) count (IsGcd-swap (unsigned_abs p) q 1 h.coprime)
    (subst (λ n. q ∣ n) (sym (IsInLowestTerms-size total count p q h)) (dvd-mul_left q (unsigned_abs total))))

size-le : (a b count q : ℕ) → 0 < count → a ∣ b → a * count ≡ b * q → a ≤ b
size-le a zero count q some divides size = omega (arith, le-mul_of_pos_right a some, size)
size-le a (suc b) count q some divides size = le_of_dvd (omega arith) divides

IsInLowestTerms-total : (total : ℤ) (count : ℕ) (p : ℤ) (q : ℕ) → 0 < count → IsInLowestTerms total count p q
    → unsigned_abs p ≤ unsigned_abs total
IsInLowestTerms-total total count p q some h =
    let size = IsInLowestTerms-size total count p q h in
    size-le (unsigned_abs p) (unsigned_abs total) count q some
    (divides-coprime (unsigned_abs p) q (unsigned_abs total) h.coprime
    (subst (λ n. unsigned_abs p ∣ n) (size ∙ mul_comm (unsigned_abs total) q) (dvd-mul_right (unsigned_abs p) count)))
    size

-- ---- answers
IsSum-IsNumber : (values : List ℤ) (a : Answer) → length values < 2 ^ 64 → AllByRecursion (FitsSigned w64) values
    → IsSum values a → IsNumber a
IsSum-IsNumber [] a few small h = subst IsNumber (sym h) tt
IsSum-IsNumber (v ∷ vs) a few small h =
    subst IsNumber (sym h) (fits_wide (total_of (v ∷ vs)) (total_of-fits (v ∷ vs) few small))

IsBest-IsValue : (R : ℤ → ℤ → Type 0) (values : List ℤ) (a : Answer) → AllByRecursion (FitsSigned w64) values
    → IsBest R values a → IsValue a
IsBest-IsValue R [] a small h = subst IsValue (sym h) tt
IsBest-IsValue R (v ∷ vs) a small h =
    subst IsValue (sym h.1) (AllByRecursion-Contains (FitsSigned w64) (v ∷ vs) h.0 small h.2)

IsPercentile-IsValue : (units places : ℕ) (values : List ℤ) (a : Answer) → AllByRecursion (FitsSigned w64) values
    → IsPercentile units places values a → IsValue a
IsPercentile-IsValue units places [] a small h = subst IsValue (sym h) tt
IsPercentile-IsValue units places (v ∷ vs) a small h =
    let (w, is, among) = IsPercentile-Contains units places v vs a h in
    subst IsValue (sym is) (AllByRecursion-Contains (FitsSigned w64) (v ∷ vs) w small among)

IsMean-IsFraction : (values : List ℤ) (a : Answer) → length values < 2 ^ 64 → AllByRecursion (FitsSigned w64) values
    → IsMean values a → IsFraction a
IsMean-IsFraction [] a few small h = subst IsFraction (sym h) tt
IsMean-IsFraction (v ∷ vs) a few small h =
    let total = total_of-fits (v ∷ vs) few small in
    let size = IsInLowestTerms-total (total_of (v ∷ vs)) (length (v ∷ vs)) h.0 h.1 (omega arith) h.3 in
    let count = IsInLowestTerms-count (total_of (v ∷ vs)) (length (v ∷ vs)) h.0 h.1 (omega arith) h.3 in
    subst IsFraction (sym h.2) (
      fits_wide h.0 (omega (arith, total, size)),
      omega (arith, count, few),
      h.3.positive,
      h.3.coprime,
    )

-- the sum of the squares of fewer than 2 to the power 64 numbers of 64 bits
square-small : (z : ℤ) → FitsSigned w64 z → square z ≤ 2 ^ 63 * 2 ^ 63
square-small z fits =
    mul-le-mul {n₁ = unsigned_abs z} {m₁ = unsigned_abs z} {n₂ = 2 ^ 63} {m₂ = 2 ^ 63}
    (fits-unsigned_abs z fits) (fits-unsigned_abs z fits)

squares_of-small : (values : List ℤ) → AllByRecursion (FitsSigned w64) values
    → squares_of values ≤ length values * (2 ^ 63 * 2 ^ 63)
squares_of-small [] small = omega arith
squares_of-small (v ∷ vs) small =
    omega (arith, square-small v small.0, squares_of-small vs small.1, sum_by-cons square v vs)

squares_of-fits : (values : List ℤ) → length values < 2 ^ 64 → AllByRecursion (FitsSigned w64) values
    → squares_of values < 2 ^ 190
squares_of-fits values few small = omega (arith, squares_of-small values small, few)

IsSumOfSquares-IsSquares : (values : List ℤ) (a : Answer) → length values < 2 ^ 64
    → AllByRecursion (FitsSigned w64) values → IsSumOfSquares values a → IsSquares a
IsSumOfSquares-IsSquares [] a few small h = subst IsSquares (sym h) tt
IsSumOfSquares-IsSquares (v ∷ vs) a few small h =
    subst IsSquares (sym h) (omega (arith, squares_of-fits (v ∷ vs) few small))

-- a variance is no larger than what it is made of
freedom_of-le : (is_sample : Bool) (n : ℕ) → freedom_of is_sample n ≤ n
freedom_of-le true n = omega arith
freedom_of-le false n = omega arith

spread-fits : (values : List ℤ) → length values < 2 ^ 64 → AllByRecursion (FitsSigned w64) values
    → spread values < 2 ^ 256
spread-fits values few small =
    let product : length values * squares_of values ≤ 2 ^ 64 * 2 ^ 190 =
    mul-le-mul {n₁ = length values} {m₁ = squares_of values} {n₂ = 2 ^ 64} {m₂ = 2 ^ 190}
    (omega (arith, few)) (omega (arith, squares_of-fits values few small)) in
    omega (arith, product, squares_and_spread values)

IsVariance-bounds : (values : List ℤ) (is_sample : Bool) (p q : ℕ) → length values < 2 ^ 64
    → AllByRecursion (FitsSigned w64) values → IsVariance values is_sample p q → (p < 2 ^ 256) × (q < 2 ^ 128)
IsVariance-bounds values is_sample p q few small h =
    let n = length values in
    let f = freedom_of is_sample n in
    let reduced : IsReduced (spread values) (n * f) p q = IsVariance-spread values is_sample p q h in
    let terms = IsReduced-IsInLowestTerms (spread values) (n * f) p q reduced in
    let size = IsInLowestTerms-total (pos (spread values)) (n * f) (pos p) q reduced.some terms in
    let count = IsInLowestTerms-count (pos (spread values)) (n * f) (pos p) q reduced.some terms in
    let product : n * f ≤ 18446744073709551615 * 18446744073709551615 =
    mul-le-mul {n₁ = n} {m₁ = f} {n₂ = 18446744073709551615} {m₂ = 18446744073709551615}
    (omega (arith, few)) (omega (arith, few, freedom_of-le is_sample n)) in
    (omega (arith, size, spread-fits values few small), omega (arith, count, product))

IsVarianceAnswer-IsVarianceFraction : (is_sample : Bool) (values : List ℤ) (a : Answer) → length values < 2 ^ 64
    → AllByRecursion (FitsSigned w64) values → IsVarianceAnswer is_sample values a → IsVarianceFraction a
IsVarianceAnswer-IsVarianceFraction is_sample values Null few small h = tt
IsVarianceAnswer-IsVarianceFraction is_sample values (Variance p q) few small h =
    let bounds = IsVariance-bounds values is_sample p q few small h in
    (bounds.0, bounds.1, h.fraction.positive, h.fraction.coprime)
IsVarianceAnswer-IsVarianceFraction is_sample values (CountOf n) few small h = absurd h
IsVarianceAnswer-IsVarianceFraction is_sample values (Whole z) few small h = absurd h
IsVarianceAnswer-IsVarianceFraction is_sample values (Ratio p q) few small h = absurd h
IsVarianceAnswer-IsVarianceFraction is_sample values (Squares n) few small h = absurd h
IsVarianceAnswer-IsVarianceFraction is_sample values (ValuesOf held) few small h = absurd h

AreValues-ListsValues : (values : List ℤ) (a : Answer) → length values < 2 ^ 64 → AllByRecursion (FitsSigned w64) values
    → AreValues values a → ListsValues a
AreValues-ListsValues values a few small (held, is, are) =
    subst ListsValues (sym is) (
      record {
        in_order = AreHeld-itself values held are;
        few = omega (arith, few, length-Reordered (AreHeld-order values held are));
      },
      AreHeld-each (FitsSigned w64) values held are small,
    )

-- ---- groups
length-filter-le : {X : Type 0} (p : X → Bool) (xs : List X) → length (filter p xs) ≤ length xs
length-filter-le p [] = omega arith
length-filter-le p (x ∷ xs) = elim (cases_Bool (p x)) [
  | inl passes ↦ omega (arith, ap length (filter-passed p x xs passes), length-filter-le p xs)
  | inr fails ↦ omega (arith, ap length (filter-failed p x xs fails), length-filter-le p xs)
]

pub length-cons_option-le : {X : Type 0} (o : Option X) (xs : List X) → length (cons_option o xs) ≤ suc (length xs)
length-cons_option-le None xs = omega arith
length-cons_option-le (Some x) xs = omega arith

length-values_of-le : (m : ℕ) (facts : List Fact) → length (values_of m facts) ≤ length facts
length-values_of-le m [] = omega arith
length-values_of-le m (fact ∷ facts) =
    omega (arith, length-cons_option-le (value_of m fact) (values_of m facts), length-values_of-le m facts)

pub AllByRecursion-cons_option : {X : Type 0} (P : X → Type 0) (o : Option X) (xs : List X) → IfSome o P
    → AllByRecursion P xs → AllByRecursion P (cons_option o xs)
AllByRecursion-cons_option P None xs one all = all
AllByRecursion-cons_option P (Some x) xs one all = (one, all)

-- the value at a place, or null past the end
get_or-small : (values : List (Option ℤ)) (m : ℕ) → AllByRecursion (λ value. IfSome value (FitsSigned w64)) values
    → IfSome (get_or values m None) (FitsSigned w64)
get_or-small [] m small = tt
get_or-small (value ∷ values) zero small = small.0
get_or-small (value ∷ values) (suc m) small = get_or-small values m small.1

values_of-small : (m : ℕ) (facts : List Fact) → AllByRecursion HasSmallValues facts
    → AllByRecursion (FitsSigned w64) (values_of m facts)
values_of-small m [] small = tt
values_of-small m (fact ∷ facts) small =
    AllByRecursion-cons_option (FitsSigned w64) (value_of m fact) (values_of m facts)
    (get_or-small fact.measures m small.0) (values_of-small m facts small.1)

IsAnswer-IsOfKind : (group : List Fact) (agg : Agg) (a : Answer) → AreCountable group → IsAnswer group agg a
    → IsOfKind agg a
IsAnswer-IsOfKind group CountAll a countable h = subst IsCount (sym h) countable.few
IsAnswer-IsOfKind group (Count m) a countable h =
    subst IsCount (sym h) (omega (arith, length-values_of-le m group, countable.few))
IsAnswer-IsOfKind group (Sum m) a countable h =
    IsSum-IsNumber (values_of m group) a (omega (
      arith,
      length-values_of-le m group,
      countable.few,
    )) (values_of-small m group countable.small) h
IsAnswer-IsOfKind group (Min m) a countable h =
    IsBest-IsValue (λ m x. m ≤ℤ x) (values_of m group) a (values_of-small m group countable.small) h
IsAnswer-IsOfKind group (Max m) a countable h =
    IsBest-IsValue (λ m x. x ≤ℤ m) (values_of m group) a (values_of-small m group countable.small) h
IsAnswer-IsOfKind group (Avg m) a countable h =
    IsMean-IsFraction (values_of m group) a (omega (
      arith,
      length-values_of-le m group,
      countable.few,
    )) (values_of-small m group countable.small) h
IsAnswer-IsOfKind group (CountDistinct m) a countable (numbers, sorted, same, is) =
    subst IsCount (sym is) (omega (
      arith,
      IsDistinct-length numbers (values_of m group) sorted (λ x there. (same x).0 there),
      length-values_of-le m group,
      countable.few,
    ))
IsAnswer-IsOfKind group (PercentileDisc m units places) a countable h =
    IsPercentile-IsValue units places (values_of m group) a (values_of-small m group countable.small) h
IsAnswer-IsOfKind group (SumOfSquares m) a countable h =
    IsSumOfSquares-IsSquares (values_of m group) a (omega (
      arith,
      length-values_of-le m group,
      countable.few,
    )) (values_of-small m group countable.small) h
IsAnswer-IsOfKind group (VarPop m) a countable h =
    IsVarianceAnswer-IsVarianceFraction false (values_of m group) a (omega (
      arith,
      length-values_of-le m group,
      countable.few,
    )) (values_of-small m group countable.small) h
IsAnswer-IsOfKind group (VarSamp m) a countable h =
    IsVarianceAnswer-IsVarianceFraction true (values_of m group) a (omega (
      arith,
      length-values_of-le m group,
      countable.few,
    )) (values_of-small m group countable.small) h
IsAnswer-IsOfKind group (Values m) a countable h =
    AreValues-ListsValues (values_of m group) a (omega (
      arith,
      length-values_of-le m group,
      countable.few,
    )) (values_of-small m group countable.small) h

AreAnswers-AreOfKind : (group : List Fact) (aggregates : List Agg) (answers : List Answer) → AreCountable group
    → AreAnswers group aggregates answers → AllZip IsOfKind aggregates answers
AreAnswers-AreOfKind group [] [] countable h = h
AreAnswers-AreOfKind group [] (a ∷ answers) countable h = h
AreAnswers-AreOfKind group (agg ∷ aggregates) [] countable h = h
AreAnswers-AreOfKind group (agg ∷ aggregates) (a ∷ answers) countable h =
    (IsAnswer-IsOfKind group agg a countable h.0, AreAnswers-AreOfKind group aggregates answers countable h.1)

-- a group of facts that can be counted can be
group_of-AreCountable : (facts : List Fact) (row : Row) → AreCountable facts → AreCountable (group_of row.key facts)
group_of-AreCountable facts row countable = record {
  few = omega (arith, length-filter-le (covers row.key) facts, countable.few);
  small = recursion_from_All HasSmallValues (group_of row.key facts)
      (All-filter (covers row.key) HasSmallValues facts (All-from_recursion HasSmallValues facts countable.small));
}

-- ---- rows that count facts
-- where an element passes, a filter keeps some
filter-some : {X : Type 0} (p : X → Bool) (xs : List X) → list_any p xs ≡ true → 0 < length (filter p xs)
filter-some p [] any = absurd (false≢true any)
filter-some p (x ∷ xs) any = elim (cases_Bool (p x)) [
  | inl passes ↦ omega (arith, ap length (filter-passed p x xs passes))
  | inr fails ↦ omega (
    arith,
    ap length (filter-failed p x xs fails),
    filter-some p xs
        (subst (λ b. (b || list_any p xs) ≡ true) fails any),
  )
]

IsAnswer-CountsFacts : (group : List Fact) (agg : Agg) (a : Answer) → 0 < length group → IsAnswer group agg a
    → CountsFacts agg a
IsAnswer-CountsFacts group CountAll a some h = subst IsNoZero (sym h) some
IsAnswer-CountsFacts group (Count m) a some h = tt
IsAnswer-CountsFacts group (Sum m) a some h = tt
IsAnswer-CountsFacts group (Min m) a some h = tt
IsAnswer-CountsFacts group (Max m) a some h = tt
IsAnswer-CountsFacts group (Avg m) a some h = tt
IsAnswer-CountsFacts group (CountDistinct m) a some h = tt
IsAnswer-CountsFacts group (PercentileDisc m units places) a some h = tt
IsAnswer-CountsFacts group (SumOfSquares m) a some h = tt
IsAnswer-CountsFacts group (VarPop m) a some h = tt
IsAnswer-CountsFacts group (VarSamp m) a some h = tt
IsAnswer-CountsFacts group (Values m) a some h = tt

AreAnswers-CountFacts : (group : List Fact) (aggregates : List Agg) (answers : List Answer) → 0 < length group
    → AreAnswers group aggregates answers → AllZip CountsFacts aggregates answers
AreAnswers-CountFacts group [] [] some h = h
AreAnswers-CountFacts group [] (a ∷ answers) some h = h
AreAnswers-CountFacts group (agg ∷ aggregates) [] some h = h
AreAnswers-CountFacts group (agg ∷ aggregates) (a ∷ answers) some h =
    (IsAnswer-CountsFacts group agg a some h.0, AreAnswers-CountFacts group aggregates answers some h.1)

-- ---- least and greatest values
-- of one group the least value isn't above the greatest
IsBest-IsInOrder : (values : List ℤ) (a b : Answer) → IsBest (λ m x. m ≤ℤ x) values a
    → IsBest (λ m x. x ≤ℤ m) values b → IsInOrder a b
IsBest-IsInOrder [] a b h k = subst (λ x. IsInOrder x b) (sym h) tt
IsBest-IsInOrder (v ∷ vs) a b h k =
    subst (λ x. IsInOrder x b) (sym h.1) (subst (λ y. IsInOrder (Whole h.0) y) (sym k.1)
    (AllByRecursion-Contains (λ x. h.0 ≤ℤ x) (v ∷ vs) k.0 h.3 k.2))

IsAnswer-IsAtLeast : (group : List Fact) (m : ℕ) (least : Answer) (agg : Agg) (a : Answer)
    → IsAnswer group (Min m) least → IsAnswer group agg a → IsAtLeast m least agg a
IsAnswer-IsAtLeast group m least CountAll a h k = tt
IsAnswer-IsAtLeast group m least (Count other) a h k = tt
IsAnswer-IsAtLeast group m least (Sum other) a h k = tt
IsAnswer-IsAtLeast group m least (Min other) a h k = tt
IsAnswer-IsAtLeast group m least (Max other) a h k =
    λ same. IsBest-IsInOrder (values_of m group) least a h
    (subst (λ n. IsBest (λ m x. x ≤ℤ m) (values_of n group) a) same k)
IsAnswer-IsAtLeast group m least (Avg other) a h k = tt
IsAnswer-IsAtLeast group m least (CountDistinct other) a h k = tt
IsAnswer-IsAtLeast group m least (PercentileDisc other units places) a h k = tt
IsAnswer-IsAtLeast group m least (SumOfSquares other) a h k = tt
IsAnswer-IsAtLeast group m least (VarPop other) a h k = tt
IsAnswer-IsAtLeast group m least (VarSamp other) a h k = tt
IsAnswer-IsAtLeast group m least (Values other) a h k = tt

AreAnswers-AreAtLeast : (group : List Fact) (m : ℕ) (least : Answer) (aggregates : List Agg) (answers : List Answer)
    → IsAnswer group (Min m) least → AreAnswers group aggregates answers
    → AllZip (IsAtLeast m least) aggregates answers
AreAnswers-AreAtLeast group m least [] [] h all = all
AreAnswers-AreAtLeast group m least [] (a ∷ answers) h all = all
AreAnswers-AreAtLeast group m least (agg ∷ aggregates) [] h all = all
AreAnswers-AreAtLeast group m least (agg ∷ aggregates) (a ∷ answers) h all = (
  IsAnswer-IsAtLeast group m least agg a h all.0,
  AreAnswers-AreAtLeast group m least aggregates answers h all.1,
)

module _ (group : List Fact) (aggregates : List Agg) (answers : List Answer)
    (all : AreAnswers group aggregates answers) where
  IsAnswer-IsWithin : (agg : Agg) (a : Answer) → IsAnswer group agg a → IsWithin aggregates answers agg a
  IsAnswer-IsWithin CountAll a h = tt
  IsAnswer-IsWithin (Count m) a h = tt
  IsAnswer-IsWithin (Sum m) a h = tt
  IsAnswer-IsWithin (Min m) a h = AreAnswers-AreAtLeast group m a aggregates answers h all
  IsAnswer-IsWithin (Max m) a h = tt
  IsAnswer-IsWithin (Avg m) a h = tt
  IsAnswer-IsWithin (CountDistinct m) a h = tt
  IsAnswer-IsWithin (PercentileDisc m units places) a h = tt
  IsAnswer-IsWithin (SumOfSquares m) a h = tt
  IsAnswer-IsWithin (VarPop m) a h = tt
  IsAnswer-IsWithin (VarSamp m) a h = tt
  IsAnswer-IsWithin (Values m) a h = tt

  AreAnswers-AreWithin : (some : List Agg) (their : List Answer) → AreAnswers group some their
      → AllZip (IsWithin aggregates answers) some their
  AreAnswers-AreWithin [] [] h = h
  AreAnswers-AreWithin [] (a ∷ their) h = h
  AreAnswers-AreWithin (agg ∷ some) [] h = h
  AreAnswers-AreWithin (agg ∷ some) (a ∷ their) h =
      (IsAnswer-IsWithin agg a h.0, AreAnswers-AreWithin some their h.1)

-- ---- nulls
-- a count tells that there is no value where there is none, and there alone
none-of-length : (values : List ℤ) → (length values == 0) ≡ true → values ≡ []
none-of-length [] e = refl
none-of-length (v ∷ vs) e = absurd (omega (arith, eqb-true (length (v ∷ vs)) 0 e))

some-same : (a b : ℕ) → Some a ≡ Some b → a ≡ b
some-same a b e = cc

none-at : (group : List Fact) (k m : ℕ) → values_of m group ≡ [] → Some k ≡ Some m → values_of k group ≡ []
none-at group k m empty is = subst (λ n. values_of n group ≡ []) (sym (some-same k m is)) empty

none-of-best : (R : ℤ → ℤ → Type 0) (values : List ℤ) (a : Answer) → IsBest R values a → tells_none a ≡ true
    → values ≡ []
none-of-best R [] a h none = refl
none-of-best R (v ∷ vs) a h none = absurd (false≢true (ap tells_none (sym h.1) ∙ none))

-- what is all in an empty list is empty
empty-same : (xs ys : List ℤ) → xs ≡ [] → ((y : ℤ) → Contains ys y → Contains xs y) → ys ≡ []
empty-same xs [] empty within = refl
empty-same xs (y ∷ ys) empty within =
    absurd (Contains-nil y (subst (λ zs. Contains zs y) empty (within y (Contains-head y ys))))

-- of the population a variance is null where there is no value, and there alone
none-of-variance : (values : List ℤ) (a : Answer) → IsVarianceAnswer false values a → tells_none a ≡ true → values ≡ []
none-of-variance [] a h none = refl
none-of-variance (v ∷ vs) Null h none = absurd (omega (arith, h))
none-of-variance (v ∷ vs) (Variance p q) h none = absurd (false≢true none)
none-of-variance (v ∷ vs) (CountOf n) h none = absurd h
none-of-variance (v ∷ vs) (Whole z) h none = absurd h
none-of-variance (v ∷ vs) (Ratio p q) h none = absurd h
none-of-variance (v ∷ vs) (Squares n) h none = absurd h
none-of-variance (v ∷ vs) (ValuesOf held) h none = absurd h

-- of no value a variance is null
variance-of-none : (is_sample : Bool) (a : Answer) → IsVarianceAnswer is_sample [] a → tells_none a ≡ true
variance-of-none is_sample Null h = refl
variance-of-none is_sample (Variance p q) h = absurd (omega (arith, h.fraction.some))
variance-of-none is_sample (CountOf n) h = absurd h
variance-of-none is_sample (Whole z) h = absurd h
variance-of-none is_sample (Ratio p q) h = absurd h
variance-of-none is_sample (Squares n) h = absurd h
variance-of-none is_sample (ValuesOf held) h = absurd h

-- values tell that there is none where none is held
no_pairs : (held : List (ℤ × ℕ)) → (length held == 0) ≡ true → held ≡ []
no_pairs [] e = refl
no_pairs (pair ∷ held) e = absurd (omega (arith, eqb-true (length (pair ∷ held)) 0 e))

-- so does an answer of a measure, but for the variance of a sample
tells_none-values : (group : List Fact) (m : ℕ) (agg : Agg) (a : Answer) → IsAnswer group agg a
    → measure_of agg ≡ Some m → tells_no_value agg a ≡ true → values_of m group ≡ []
tells_none-values group m CountAll a h is none = cc
tells_none-values group m (Count k) a h is none =
    subst (λ n. values_of n group ≡ []) (some-same k m is)
    (none-of-length (values_of k group) (ap tells_none (sym h) ∙ none))
tells_none-values group m (Sum k) a h is none =
    subst (λ n. values_of n group ≡ []) (some-same k m is) (by_values (values_of k group) h) where
      by_values : (values : List ℤ) → IsSum values a → values ≡ []
      by_values [] s = refl
      by_values (v ∷ vs) s = absurd (false≢true (ap tells_none (sym s) ∙ none))
tells_none-values group m (Min k) a h is none =
    subst (λ n. values_of n group ≡ []) (some-same k m is) (none-of-best (λ m x. m ≤ℤ x) (values_of k group) a h none)
tells_none-values group m (Max k) a h is none =
    subst (λ n. values_of n group ≡ []) (some-same k m is) (none-of-best (λ m x. x ≤ℤ m) (values_of k group) a h none)
tells_none-values group m (Avg k) a h is none =
    subst (λ n. values_of n group ≡ []) (some-same k m is) (by_values (values_of k group) h) where
      by_values : (values : List ℤ) → IsMean values a → values ≡ []
      by_values [] s = refl
      by_values (v ∷ vs) s = absurd (false≢true (ap tells_none (sym s.2) ∙ none))
tells_none-values group m (CountDistinct k) a (numbers, sorted, same, counted) is none =
    subst (λ n. values_of n group ≡ []) (some-same k m is)
    (empty-same numbers (values_of k group) (none-of-length numbers (ap tells_none (sym counted) ∙ none))
    (λ x there. (same x).1 there))
tells_none-values group m (PercentileDisc k units places) a h is none =
    subst (λ n. values_of n group ≡ []) (some-same k m is) (by_values (values_of k group) h) where
      by_values : (values : List ℤ) → IsPercentile units places values a → values ≡ []
      by_values [] s = refl
      by_values (v ∷ vs) s = absurd (false≢true (ap tells_none (sym s.1) ∙ none))
tells_none-values group m (SumOfSquares k) a h is none =
    subst (λ n. values_of n group ≡ []) (some-same k m is) (by_values (values_of k group) h) where
      by_values : (values : List ℤ) → IsSumOfSquares values a → values ≡ []
      by_values [] s = refl
      by_values (v ∷ vs) s = absurd (false≢true (ap tells_none (sym s) ∙ none))
tells_none-values group m (VarPop k) a h is none =
    subst (λ n. values_of n group ≡ []) (some-same k m is) (none-of-variance (values_of k group) a h none)
tells_none-values group m (VarSamp k) a h is none = absurd (false≢true none)
tells_none-values group m (Values k) a (held, same, are) is none =
    subst (λ n. values_of n group ≡ []) (some-same k m is)
    ((AreHeld-none (values_of k group) held are).0 (no_pairs held (ap tells_none (sym same) ∙ none)))

values-tells_none : (group : List Fact) (m : ℕ) (agg : Agg) (a : Answer) → values_of m group ≡ []
    → IsAnswer group agg a → TellsNone m agg a
values-tells_none group m CountAll a empty h is = cc
values-tells_none group m (Count k) a empty h is =
    ap tells_none h ∙ ap (λ (l : List ℤ). length l == 0) (none-at group k m empty is)
values-tells_none group m (Sum k) a empty h is =
    ap tells_none (subst (λ values. IsSum values a) (none-at group k m empty is) h)
values-tells_none group m (Min k) a empty h is =
    ap tells_none (subst (λ values. IsBest (λ m x. m ≤ℤ x) values a) (none-at group k m empty is) h)
values-tells_none group m (Max k) a empty h is =
    ap tells_none (subst (λ values. IsBest (λ m x. x ≤ℤ m) values a) (none-at group k m empty is) h)
values-tells_none group m (Avg k) a empty h is =
    ap tells_none (subst (λ values. IsMean values a) (none-at group k m empty is) h)
values-tells_none group m (CountDistinct k) a empty (numbers, sorted, same, counted) is =
    ap tells_none counted
    ∙ ap (λ (l : List ℤ). length l == 0)
    (empty-same (values_of k group) numbers (none-at group k m empty is) (λ x there. (same x).0 there))
values-tells_none group m (PercentileDisc k units places) a empty h is =
    ap tells_none (subst (λ values. IsPercentile units places values a) (none-at group k m empty is) h)
values-tells_none group m (SumOfSquares k) a empty h is =
    ap tells_none (subst (λ values. IsSumOfSquares values a) (none-at group k m empty is) h)
values-tells_none group m (VarPop k) a empty h is =
    variance-of-none false a (subst (λ values. IsVarianceAnswer false values a) (none-at group k m empty is) h)
values-tells_none group m (VarSamp k) a empty h is =
    variance-of-none true a (subst (λ values. IsVarianceAnswer true values a) (none-at group k m empty is) h)
values-tells_none group m (Values k) a empty (held, same, are) is =
    ap tells_none same
    ∙ ap (λ (pairs : List (ℤ × ℕ)). length pairs == 0)
    ((AreHeld-none (values_of k group) held are).1 (none-at group k m empty is))

AreAnswers-TellNone : (group : List Fact) (m : ℕ) (aggregates : List Agg) (answers : List Answer)
    → values_of m group ≡ [] → AreAnswers group aggregates answers → AllZip (TellsNone m) aggregates answers
AreAnswers-TellNone group m [] [] empty all = all
AreAnswers-TellNone group m [] (a ∷ answers) empty all = all
AreAnswers-TellNone group m (agg ∷ aggregates) [] empty all = all
AreAnswers-TellNone group m (agg ∷ aggregates) (a ∷ answers) empty all =
    (values-tells_none group m agg a empty all.0, AreAnswers-TellNone group m aggregates answers empty all.1)

module _ (group : List Fact) (aggregates : List Agg) (answers : List Answer)
    (all : AreAnswers group aggregates answers) where
  none-of_measure : (m : ℕ) (agg : Agg) (a : Answer) → IsAnswer group agg a → measure_of agg ≡ Some m
      → tells_no_value agg a ≡ true → AllZip (TellsNone m) aggregates answers
  none-of_measure m agg a h is none =
      AreAnswers-TellNone group m aggregates answers (tells_none-values group m agg a h is none) all

  IsAnswer-IsNoneAmong : (agg : Agg) (a : Answer) → IsAnswer group agg a → IsNoneAmong aggregates answers agg a
  IsAnswer-IsNoneAmong CountAll a h none = tt
  IsAnswer-IsNoneAmong (Count m) a h none = none-of_measure m (Count m) a h refl none
  IsAnswer-IsNoneAmong (Sum m) a h none = none-of_measure m (Sum m) a h refl none
  IsAnswer-IsNoneAmong (Min m) a h none = none-of_measure m (Min m) a h refl none
  IsAnswer-IsNoneAmong (Max m) a h none = none-of_measure m (Max m) a h refl none
  IsAnswer-IsNoneAmong (Avg m) a h none = none-of_measure m (Avg m) a h refl none
  IsAnswer-IsNoneAmong (CountDistinct m) a h none = none-of_measure m (CountDistinct m) a h refl none
  IsAnswer-IsNoneAmong (PercentileDisc m units places) a h none =
      none-of_measure m (PercentileDisc m units places) a h refl none
  IsAnswer-IsNoneAmong (SumOfSquares m) a h none = none-of_measure m (SumOfSquares m) a h refl none
  IsAnswer-IsNoneAmong (VarPop m) a h none = none-of_measure m (VarPop m) a h refl none
  IsAnswer-IsNoneAmong (VarSamp m) a h none = none-of_measure m (VarSamp m) a h refl none
  IsAnswer-IsNoneAmong (Values m) a h none = none-of_measure m (Values m) a h refl none

  AreAnswers-AreNone : (some : List Agg) (their : List Answer) → AreAnswers group some their
      → AllZip (IsNoneAmong aggregates answers) some their
  AreAnswers-AreNone [] [] h = h
  AreAnswers-AreNone [] (a ∷ their) h = h
  AreAnswers-AreNone (agg ∷ some) [] h = h
  AreAnswers-AreNone (agg ∷ some) (a ∷ their) h =
      (IsAnswer-IsNoneAmong agg a h.0, AreAnswers-AreNone some their h.1)

-- a cell that isn't the grand total has facts
group_of-some : (dimensions : ℕ) (facts : List Fact) (key : Key)
    → is_total dimensions key || list_any (covers key) facts ≡ true → list_all is_all_coord key.coords ≡ false
    → 0 < length (group_of key facts)
group_of-some dimensions facts key cell part =
    elim (or_cases (is_total dimensions key) (list_any (covers key) facts) cell) [
      | inl total ↦ absurd (both_ways _ part (and_parts _ _ total).1)
      | inr any ↦ filter-some (covers key) facts any
    ]

-- the rows of a cube are rows of its schema
pub AreRows-IsLawfulRow : (s : Layout) (facts : List Fact) (rows : List Row) → CanBePrinted s facts
    → s.text_places ≡ [] → AreRows s facts rows
    → AllByRecursion (IsLawfulRow s) rows
AreRows-IsLawfulRow s facts rows printable no_texts counted_rows =
    let are = (are_rows-plain s facts rows no_texts).1 counted_rows in
    Contains-AllByRecursion (IsLawfulRow s) rows (λ row among.
    let cell = (are.cells row.key).0 (map-Contains key_of rows row among) in
    let told = IsTold-is_cell s s.grouping_sets facts row.key printable.fit cell in
    let parts =
    and_parts (keeps s row.key) (is_total (length s.dimensions) row.key || list_any (covers row.key) facts) cell in
    let answers = AllByRecursion-Contains (HasAnswers s.aggregates facts) rows row are.answers among in
    record {
      coords = told.1 ∙ sym (number_of_dimensions-none s no_texts);
      told = told.0;
      kept = parts.0;
      answers = AreAnswers-AreOfKind (group_of row.key facts) s.aggregates row.answers
          (group_of-AreCountable facts row printable.countable) answers;
      in_order = AreAnswers-AreWithin (group_of row.key facts) s.aggregates row.answers answers s.aggregates row.answers
          answers;
      none_together = AreAnswers-AreNone (group_of row.key facts) s.aggregates row.answers answers s.aggregates
          row.answers answers;
      counted = λ part. AreAnswers-CountFacts (group_of row.key facts) s.aggregates row.answers
          (group_of-some (length s.dimensions) facts row.key parts.1 part) answers;
    })
