-- Laws of the statistics of tallies: how many values are different, which stands at the place of a percentile, the sum of
-- their squares, their variance, and the values in order.
use Rattle.std.proofs.Common.{◌≡◌, ℕ, ◌+◌, ◌-◌, ◌*◌, ◌<◌, ◌≤◌, List, [], ◌∷◌, Bool, true, false, refl, arith, ap, sym, ◌∙◌}
use Rattle.std.proofs.Common.{subst, length, inl, inr}
use Rattle.std.specs.Prelude.{ℤ, if◌then◌else◌, int_lt, count_by, Contains}
use Rattle.std.specs.List.{AllByRecursion}
use Rattle.std.specs.List.Sorted.{IsStrictlySortedBy}
use Rattle.std.specs.Ordering.{int_cmp, int_eq, is_lt, is_le}
use Rattle.std.specs.declared.cmp.Ordering.TheVariants.{Less}
use Rattle.std.proofs.lemmas.Bool.{cases_Bool}
use Rattle.std.proofs.lemmas.Int.{ints}
use Rattle.std.proofs.lemmas.List.Elements.{All-contains}
use Rattle.std.proofs.lemmas.List.Sums.{sum_by-cons}
use Rattle.cube_core.specs.Answer.{IsDistinctCount, IsPercentile, StandsAt, below, at_most, percentile_place}
use Rattle.cube_core.specs.Answer.{IsSumOfSquares, IsVarianceAnswer, AreValues}
use Rattle.cube_core.specs.Variance.{freedom_of, square}
use Rattle.cube_core.specs.Wide.{IsReduced}
use Rattle.cube_core.specs.declared.aggregate.Answer.TheVariants as answer
use Rattle.cube_core.proofs.ListLaws.{Contains-AllByRecursion, AllByRecursion-Contains, sum_by-same}
use Rattle.cube_core.proofs.VarianceLaws.{IsVariance-sums}
use Rattle.cube_values.specs.Bag.{Bag, held_of, size_of, one_at}
use Rattle.cube_values.specs.Narrow.{times_in}
use Rattle.cube_values.specs.Statistics.{AreInOrder, HasDifferent, IsAtPlace, one_below, one_up_to, size_below, size_up_to}
use Rattle.cube_values.specs.Statistics.{squares_held}
use Rattle.cube_cells.specs.Sum.{IsSumOf}
use Rattle.cube_cells.specs.Tally.{IsBagOf}
use Rattle.cube_cells.proofs.Tallies.TallyLaws.{weight_of-IsBagOf, size_of-IsBagOf, IsBagOf-nil, Contains-count_by}
use Rattle.cube_cells.proofs.Tallies.TallyLaws.{All-count_by, total_of-IsSumOf}
use Rattle.cube_values.proofs.BagLaws.{one_at-refl}
use Rattle.cube_values.proofs.HeldLaws.{AreHeld-AreInOrder}
use Rattle.cube_values.proofs.StatisticsLaws.{one_if}

-- ---- numbers in ascending order
-- a number before the first that is not below it
abbrev put : ℤ → List ℤ → List ℤ
put x [] = x ∷ []
put x (y ∷ ys) = if int_lt y x then y ∷ put x ys else x ∷ y ∷ ys

-- the numbers of a list, none below the one before it
abbrev ascending : List ℤ → List ℤ
ascending [] = []
ascending (x ∷ xs) = put x (ascending xs)

AllByRecursion-put : (P : ℤ → Type 0) (x : ℤ) (ys : List ℤ) → P x → AllByRecursion P ys → AllByRecursion P (put x ys)
AllByRecursion-put P x [] here each = (here, tt)
AllByRecursion-put P x (y ∷ ys) here (first, rest) = elim (cases_Bool (int_lt y x)) [
  | inl lower ↦ rw lower (first, AllByRecursion-put P x ys here rest)
  | inr other ↦ rw other (here, (first, rest))
]

length-put : (x : ℤ) (ys : List ℤ) → length (put x ys) ≡ length ys + 1
length-put x [] = refl
length-put x (y ∷ ys) = elim (cases_Bool (int_lt y x)) [
  | inl lower ↦ rw lower (omega (arith, length-put x ys))
  | inr other ↦ rw other (omega arith)
]

times_in-put : (x : ℤ) (ys : List ℤ) (z : ℤ) → times_in (put x ys) z ≡ one_at z x + times_in ys z
times_in-put x [] z = sum_by-cons (one_at z) x []
times_in-put x (y ∷ ys) z = elim (cases_Bool (int_lt y x)) [
  | inl lower ↦ rw lower (omega (
    arith,
    sum_by-cons (one_at z) y (put x ys),
    sum_by-cons (one_at z) y ys,
    times_in-put x ys z,
  ))
  | inr other ↦ rw other (sum_by-cons (one_at z) x (y ∷ ys))
]

length-ascending : (xs : List ℤ) → length (ascending xs) ≡ length xs
length-ascending [] = refl
length-ascending (x ∷ xs) = omega (arith, length-put x (ascending xs), length-ascending xs)

times_in-ascending : (xs : List ℤ) (z : ℤ) → times_in (ascending xs) z ≡ times_in xs z
times_in-ascending [] z = refl
times_in-ascending (x ∷ xs) z =
    omega (arith, times_in-put x (ascending xs) z, times_in-ascending xs z, sum_by-cons (one_at z) x xs)

-- the order of the numbers
int_cmp-below : (x y : ℤ) → int_lt y x ≡ false → one_at x y ≡ 0 → int_cmp x y ≡ Less
int_cmp-below x y other apart = grind (arith, ints, other, apart)

int_cmp-above : (x y : ℤ) → int_lt y x ≡ true → int_cmp y x ≡ Less
int_cmp-above x y lower = rw lower refl

int_cmp-trans : (x y z : ℤ) → int_cmp x y ≡ Less → int_cmp y z ≡ Less → int_cmp x z ≡ Less
int_cmp-trans x y z first second = grind (arith, ints, first, second)

-- a number that is not among them keeps them strictly sorted
IsStrictlySortedBy-put : (x : ℤ) (ys : List ℤ) → IsStrictlySortedBy int_cmp ys → times_in ys x ≡ 0
    → IsStrictlySortedBy int_cmp (put x ys)
unfolding IsStrictlySortedBy
IsStrictlySortedBy-put x [] sorted none = (tt, tt)
IsStrictlySortedBy-put x (y ∷ ys) (above, sorted) none =
    let apart : one_at x y ≡ 0 = omega (arith, none, sum_by-cons (one_at x) y ys) in
    let others : times_in ys x ≡ 0 = omega (arith, none, sum_by-cons (one_at x) y ys) in
    elim (cases_Bool (int_lt y x)) [
      | inl lower ↦ rw lower (
        AllByRecursion-put (λ z. int_cmp y z ≡ Less) x ys (int_cmp-above x y lower) above,
        IsStrictlySortedBy-put x ys sorted others,
      )
      | inr other ↦
          let less : int_cmp x y ≡ Less = int_cmp-below x y other apart in
          let each : AllByRecursion (λ z. int_cmp x z ≡ Less) ys =
          Contains-AllByRecursion (λ z. int_cmp x z ≡ Less) ys (λ z there.
          int_cmp-trans x y z less (AllByRecursion-Contains (λ w. int_cmp y w ≡ Less) ys z above there)) in
          rw other ((less, each), (above, sorted))
    ]

-- numbers of which none stands there twice
IsStrictlySortedBy-ascending : (xs : List ℤ) → ((z : ℤ) → times_in xs z ≤ 1)
    → IsStrictlySortedBy int_cmp (ascending xs)
unfolding IsStrictlySortedBy
IsStrictlySortedBy-ascending [] once = tt
IsStrictlySortedBy-ascending (x ∷ xs) once =
    let rest : (z : ℤ) → times_in xs z ≤ 1 = λ z. omega (arith, once z, sum_by-cons (one_at z) x xs) in
    IsStrictlySortedBy-put x (ascending xs) (IsStrictlySortedBy-ascending xs rest)
    (omega (arith, times_in-ascending xs x, once x, sum_by-cons (one_at x) x xs, one_at-refl x))

-- ---- the distinct count
-- 1 where there is one, and then only
one_if-some : (n : ℕ) → 0 < n → one_if n ≡ 1
one_if-some n some = grind (arith, some)

some-one_if : (n : ℕ) → 0 < one_if n → 0 < n
some-one_if n some = grind (arith, some)

one_if-once : (n : ℕ) → one_if n ≤ 1
one_if-once n = grind arith

-- a number that a list contains stands there
count_by-Contains : (x : ℤ) (values : List ℤ) → Contains values x → 0 < count_by (int_eq x) values
count_by-Contains x values there = All-contains (λ y. 0 < count_by (int_eq y) values) values x (All-count_by values) there

-- the different numbers of a bag, as an answer
pub IsDistinctCount-HasDifferent : (values : List ℤ) (bag : Bag) (n : ℕ) → IsBagOf values bag → HasDifferent bag n
    → IsDistinctCount values (answer.Count n)
IsDistinctCount-HasDifferent values bag n is different =
    let numbers = different.numbers in
    let once = different.are.once in (
      ascending numbers,
      IsStrictlySortedBy-ascending numbers (λ z. omega (arith, once z, one_if-once (held_of bag z))),
      λ x. (
        λ there. Contains-count_by x values (omega (
          arith,
          is.held x,
          some-one_if (held_of bag x)
              (omega (arith, once x, times_in-ascending numbers x, count_by-Contains x (ascending numbers) there)),
        )),
        λ there. Contains-count_by x (ascending numbers) (omega (
          arith,
          once x,
          times_in-ascending numbers x,
          one_if-some (held_of bag x) (omega (arith, is.held x, count_by-Contains x values there)),
        )),
      ),
      ap answer.Count (different.many ∙ sym (length-ascending numbers)),
    )

-- ---- the percentile
one_below-is : (v x : ℤ) → one_below v x ≡ (if is_lt (int_cmp x v) then 1 else 0)
one_below-is v x = grind (arith, ints)

one_up_to-is : (v x : ℤ) → one_up_to v x ≡ (if is_le (int_cmp x v) then 1 else 0)
one_up_to-is v x = grind (arith, ints)

-- how many values are below a number, and how many are at most it
below-size_below : (values : List ℤ) (bag : Bag) (v : ℤ) → IsBagOf values bag → size_below bag v ≡ below v values
below-size_below values bag v is = weight_of-IsBagOf (one_below v) values bag is
    ∙ sum_by-same (one_below v) (λ x. if is_lt (int_cmp x v) then 1 else 0) values
    (Contains-AllByRecursion (λ x. one_below v x ≡ (if is_lt (int_cmp x v) then 1 else 0)) values
    (λ x there. one_below-is v x))

at_most-size_up_to : (values : List ℤ) (bag : Bag) (v : ℤ) → IsBagOf values bag → size_up_to bag v ≡ at_most v values
at_most-size_up_to values bag v is = weight_of-IsBagOf (one_up_to v) values bag is
    ∙ sum_by-same (one_up_to v) (λ x. if is_le (int_cmp x v) then 1 else 0) values
    (Contains-AllByRecursion (λ x. one_up_to v x ≡ (if is_le (int_cmp x v) then 1 else 0)) values
    (λ x there. one_up_to-is v x))

-- the number at a place of a bag
StandsAt-IsAtPlace : (values : List ℤ) (bag : Bag) (place : ℕ) (v : ℤ) → IsBagOf values bag → IsAtPlace bag place v
    → StandsAt place values v
StandsAt-IsAtPlace values bag place v is at = record {
  fewer = omega (arith, at.below, below-size_below values bag v is);
  as_many = omega (arith, at.up_to, at_most-size_up_to values bag v is);
}

-- no value
pub IsPercentile-Null : (units places : ℕ) (values : List ℤ) (bag : Bag) → IsBagOf values bag → size_of bag ≡ 0
    → IsPercentile units places values answer.Null
IsPercentile-Null units places values bag is none = rw (IsBagOf-nil values bag is none) refl

-- some values
pub IsPercentile-Whole : (units places : ℕ) (values : List ℤ) (bag : Bag) (v : ℤ) → IsBagOf values bag
    → 0 < size_of bag → IsAtPlace bag (percentile_place units places (size_of bag)) v
    → IsPercentile units places values (answer.Whole v)
IsPercentile-Whole units places [] bag v is some at = absurd (omega (arith, some, size_of-IsBagOf [] bag is))
IsPercentile-Whole units places (w ∷ values) bag v is some at = (
  v,
  refl,
  StandsAt-IsAtPlace (w ∷ values) bag (percentile_place units places (length (w ∷ values))) v is
      (subst (λ n. IsAtPlace bag (percentile_place units places n) v) (size_of-IsBagOf (w ∷ values) bag is) at),
)

-- ---- the sum of the squares
pub IsSumOfSquares-Null : (values : List ℤ) (bag : Bag) → IsBagOf values bag → size_of bag ≡ 0
    → IsSumOfSquares values answer.Null
IsSumOfSquares-Null values bag is none = rw (IsBagOf-nil values bag is none) refl

pub IsSumOfSquares-Squares : (values : List ℤ) (bag : Bag) (n : ℕ) → IsBagOf values bag → 0 < size_of bag
    → n ≡ squares_held bag → IsSumOfSquares values (answer.Squares n)
IsSumOfSquares-Squares [] bag n is some squares = absurd (omega (arith, some, size_of-IsBagOf [] bag is))
IsSumOfSquares-Squares (v ∷ values) bag n is some squares =
    ap answer.Squares (squares ∙ weight_of-IsBagOf square (v ∷ values) bag is)

-- ---- the variance
pub IsVarianceAnswer-Null : (is_sample : Bool) (values : List ℤ) (bag : Bag) → IsBagOf values bag
    → freedom_of is_sample (size_of bag) ≡ 0 → IsVarianceAnswer is_sample values answer.Null
IsVarianceAnswer-Null is_sample values bag is none =
    subst (λ n. freedom_of is_sample n ≡ 0) (size_of-IsBagOf values bag is) none

pub IsVarianceAnswer-Variance : (is_sample : Bool) (values : List ℤ) (bag : Bag) (sum : ℤ) (p q : ℕ) → IsBagOf values bag
    → IsSumOf bag sum
    → IsReduced (size_of bag * squares_held bag - square sum) (size_of bag * freedom_of is_sample (size_of bag)) p q
    → IsVarianceAnswer is_sample values (answer.Variance p q)
IsVarianceAnswer-Variance is_sample values bag sum p q is kept reduced =
    IsVariance-sums values is_sample p q
    (rw (total_of-IsSumOf values bag sum is kept, ← size_of-IsBagOf values bag is, ← weight_of-IsBagOf square values bag is)
    reduced)

-- ---- the values in order
pub AreValues-AreInOrder : (values : List ℤ) (bag pairs : Bag) → IsBagOf values bag → AreInOrder bag pairs
    → AreValues values (answer.Values pairs)
AreValues-AreInOrder values bag pairs is are = (pairs, refl, AreHeld-AreInOrder values bag pairs is.held are)
