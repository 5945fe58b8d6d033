-- Laws of values that are held so often: what pairs of a value and a count say of the list of all these values.
use Rattle.std.proofs.Common.{◌≡◌, ℕ, ◌+◌, ◌*◌, ◌^◌, ◌<◌, ◌≤◌, List, [], ◌∷◌, ◌++◌, refl, arith, ap, sym, ◌∙◌, subst, cond}
use Rattle.std.proofs.Common.{◌-◌, ⊎_elim, length, get_or, replicate, FitsSigned}
use Rattle.std.specs.Prelude.{ℤ, pos, ◌+ℤ◌, ◌-ℤ◌, ◌*ℤ◌, ◌<ℤ◌, ◌≤ℤ◌, All, Contains, Option, IfSome, IfNone, sum_by}
use Rattle.std.specs.Int.{w64, w128}
use Rattle.std.specs.Int.RustNames.{unsigned_abs}
use Rattle.std.specs.List.Sorted.{IsStrictlySortedBy}
use Rattle.std.specs.Map.{keys_of}
use Rattle.std.specs.Ordering.{int_cmp, is_lt, is_le}
use Rattle.std.specs.declared.cmp.Ordering.TheVariants.{Less}
use Rattle.std.proofs.Math.Nat.{mul_comm, mul-le-mul}
use Rattle.std.proofs.lemmas.Bool.{cases_lt}
use Rattle.std.proofs.lemmas.Grind.{flat_map-append}
use Rattle.std.proofs.lemmas.Int.{ints, unsigned_abs-mul, fits_signed_from_abs}
use Rattle.std.proofs.lemmas.List.{length-map, get_or_default}
use Rattle.std.proofs.lemmas.List.Elements.{All-contains_itself, All-from_recursion, All-map, recursion_from_All}
use Rattle.std.proofs.lemmas.List.Folds.{sum_by-replicate}
use Rattle.std.proofs.lemmas.List.Sums.{sum_by-append, sum_by-cons}
use Rattle.std.proofs.lemmas.Map.Keys.{Less-from_sorted}
use borrow.Author.Differences.{up, down}
use Rattle.cube_core.specs.Answer.{AreHeld, IsBest, IsDistinctCount, IsGreatest, IsLeast, IsPercentile, IsSum, StandsAt}
use Rattle.cube_core.specs.Answer.{at_most, below, percentile_place, times_among, values_held}
use Rattle.cube_core.specs.Group.{total_of}
use Rattle.cube_core.specs.Variance.{square, squares_of}
use Rattle.cube_core.specs.declared.aggregate.Answer.{Answer}
use Rattle.cube_core.specs.declared.aggregate.Answer.TheVariants as answer
use Rattle.cube_core.proofs.ListLaws.{sum_by-same}
use Rattle.cube_values.specs.Bag.{Bag, weight_of, one_at, held_of, size_of, SameHeld, HasLeast, HasGreatest}
use Rattle.cube_values.specs.Log.{Rises}
use Rattle.cube_values.specs.Narrow.{once_each}
use Rattle.cube_values.specs.Statistics.{AreInOrder, IsAtPlace, one_below, one_up_to, size_below, size_up_to, squares_held}
use Rattle.cube_values.proofs.BagLaws.{weight_of-cons, weight_of-same, size_of_same, count_at}
use Rattle.cube_values.proofs.BagLaws.{held-from_keys, keys-from_held, lookup-positive}
use Rattle.cube_values.proofs.NarrowLaws.{weight_of-once_each, held_of-once_each, size_of-once_each, keys_of-once_each}
use Rattle.cube_values.proofs.NarrowLaws.{some_once_each}
use Rattle.cube_values.proofs.LogLaws.{HasLeast-Rises, HasGreatest-Rises}
use Rattle.cube_values.proofs.StatisticsLaws.{Ascends, All-ascending, Ascends-tail, less_from_int_cmp}

-- ---- a list of values, and a bag that holds each number as often as it stands there
-- the bag of the list is the same
SameHeld-times_among : (values : List ℤ) (bag : Bag) → ((x : ℤ) → held_of bag x ≡ times_among values x)
    → SameHeld bag (once_each values)
SameHeld-times_among values bag is = record { held = λ x. is x ∙ sym (held_of-once_each values x) }

-- what the values come to, where each counts as much as f says of it
pub weight_of-times_among : (f : ℤ → ℕ) (values : List ℤ) (bag : Bag)
    → ((x : ℤ) → held_of bag x ≡ times_among values x) → weight_of f bag ≡ sum_by f values
weight_of-times_among f values bag is =
    weight_of-same f bag (once_each values) (SameHeld-times_among values bag is) ∙ weight_of-once_each f values

-- how many there are
pub size_of-times_among : (values : List ℤ) (bag : Bag) → ((x : ℤ) → held_of bag x ≡ times_among values x)
    → size_of bag ≡ length values
size_of-times_among values bag is =
    size_of_same bag (once_each values) (SameHeld-times_among values bag is) ∙ size_of-once_each values

-- the number at a place
one_below-is_lt : (v x : ℤ) → one_below v x ≡ cond (is_lt (int_cmp x v)) 1 0
one_below-is_lt v x = grind (arith, ints)

one_up_to-is_le : (v x : ℤ) → one_up_to v x ≡ cond (is_le (int_cmp x v)) 1 0
one_up_to-is_le v x = grind (arith, ints)

size_below-below : (values : List ℤ) (bag : Bag) (v : ℤ) → ((x : ℤ) → held_of bag x ≡ times_among values x)
    → size_below bag v ≡ below v values
size_below-below values bag v is =
    let f : ℤ → ℕ = λ x. cond (is_lt (int_cmp x v)) 1 0 in
    weight_of-times_among (one_below v) values bag is
    ∙ sum_by-same (one_below v) f values (recursion_from_All (λ (x : ℤ). one_below v x ≡ f x) values
    (λ k d within. one_below-is_lt v (get_or values k d)))

size_up_to-at_most : (values : List ℤ) (bag : Bag) (v : ℤ) → ((x : ℤ) → held_of bag x ≡ times_among values x)
    → size_up_to bag v ≡ at_most v values
size_up_to-at_most values bag v is =
    let f : ℤ → ℕ = λ x. cond (is_le (int_cmp x v)) 1 0 in
    weight_of-times_among (one_up_to v) values bag is
    ∙ sum_by-same (one_up_to v) f values (recursion_from_All (λ (x : ℤ). one_up_to v x ≡ f x) values
    (λ k d within. one_up_to-is_le v (get_or values k d)))

pub StandsAt-IsAtPlace : (values : List ℤ) (bag : Bag) (place : ℕ) (v : ℤ)
    → ((x : ℤ) → held_of bag x ≡ times_among values x) → IsAtPlace bag place v → StandsAt place values v
StandsAt-IsAtPlace values bag place v is at = record {
  fewer = omega (arith, at.below, size_below-below values bag v is);
  as_many = omega (arith, at.up_to, size_up_to-at_most values bag v is);
}

-- a number stands in a list where it is counted there
pub Contains-times_among : (x : ℤ) (values : List ℤ) → 0 < times_among values x → Contains values x
Contains-times_among x values some = subst (λ (l : List ℤ). Contains l x) (keys_of-once_each values)
    (keys-from_held (once_each values) x (omega (arith, held_of-once_each values x, some)))

pub times_among-Contains : (x : ℤ) (values : List ℤ) → Contains values x → 0 < times_among values x
times_among-Contains x values there =
    let key : Contains (keys_of (once_each values)) x =
    subst (λ (l : List ℤ). Contains l x) (sym (keys_of-once_each values)) there in
    omega (
      arith,
      held_of-once_each values x,
      held-from_keys (once_each values) x (lookup-positive (once_each values) (some_once_each values) x) key,
    )

-- ---- lists in which each number stands equally often
pub sum_by-same_times : (f : ℤ → ℕ) (xs ys : List ℤ) → ((x : ℤ) → times_among xs x ≡ times_among ys x)
    → sum_by f xs ≡ sum_by f ys
sum_by-same_times f xs ys same =
    sym (weight_of-once_each f xs)
    ∙ weight_of-times_among f ys (once_each xs) (λ x. held_of-once_each xs x ∙ same x)

pub length-same_times : (xs ys : List ℤ) → ((x : ℤ) → times_among xs x ≡ times_among ys x) → length xs ≡ length ys
length-same_times xs ys same =
    sym (size_of-once_each xs) ∙ size_of-times_among ys (once_each xs) (λ x. held_of-once_each xs x ∙ same x)

pub squares_of-same_times : (xs ys : List ℤ) → ((x : ℤ) → times_among xs x ≡ times_among ys x)
    → squares_of xs ≡ squares_of ys
squares_of-same_times xs ys same = sum_by-same_times square xs ys same

-- the sum: what the numbers above 0 come to, less what those below do
pub total_of-sum_by : (values : List ℤ) → total_of values ≡ pos (sum_by up values) -ℤ pos (sum_by down values)
total_of-sum_by [] = refl
total_of-sum_by (v ∷ values) =
    omega (arith, ints, total_of-sum_by values, sum_by-cons up v values, sum_by-cons down v values)

pub total_of-same_times : (xs ys : List ℤ) → ((x : ℤ) → times_among xs x ≡ times_among ys x)
    → total_of xs ≡ total_of ys
total_of-same_times xs ys same = omega (
  arith,
  ints,
  total_of-sum_by xs,
  total_of-sum_by ys,
  sum_by-same_times up xs ys same,
  sum_by-same_times down xs ys same,
)

pub IsSum-same_times : (xs ys : List ℤ) (a : Answer) → ((x : ℤ) → times_among xs x ≡ times_among ys x) → IsSum xs a
    → IsSum ys a
IsSum-same_times [] [] a same sum = sum
IsSum-same_times [] (y ∷ ys) a same sum = absurd (omega (arith, length-same_times [] (y ∷ ys) same))
IsSum-same_times (x ∷ xs) [] a same sum = absurd (omega (arith, length-same_times (x ∷ xs) [] same))
IsSum-same_times (x ∷ xs) (y ∷ ys) a same sum =
    sum ∙ ap answer.Whole (total_of-same_times (x ∷ xs) (y ∷ ys) same)

pub StandsAt-same_times : (place : ℕ) (xs ys : List ℤ) (v : ℤ) → ((x : ℤ) → times_among xs x ≡ times_among ys x)
    → StandsAt place xs v → StandsAt place ys v
StandsAt-same_times place xs ys v same stands = record {
  fewer = omega (arith, stands.fewer, sum_by-same_times (λ x. cond (is_lt (int_cmp x v)) 1 0) xs ys same);
  as_many = omega (arith, stands.as_many, sum_by-same_times (λ x. cond (is_le (int_cmp x v)) 1 0) xs ys same);
}

pub IsPercentile-same_times : (units places : ℕ) (xs ys : List ℤ) (a : Answer)
    → ((x : ℤ) → times_among xs x ≡ times_among ys x) → IsPercentile units places xs a → IsPercentile units places ys a
IsPercentile-same_times units places [] [] a same is = is
IsPercentile-same_times units places [] (y ∷ ys) a same is =
    absurd (omega (arith, length-same_times [] (y ∷ ys) same))
IsPercentile-same_times units places (x ∷ xs) [] a same is =
    absurd (omega (arith, length-same_times (x ∷ xs) [] same))
IsPercentile-same_times units places (x ∷ xs) (y ∷ ys) a same (v, is, stands) = (
  v,
  is,
  subst (λ (n : ℕ). StandsAt (percentile_place units places n) (y ∷ ys) v) (length-same_times (x ∷ xs) (y ∷ ys) same)
      (StandsAt-same_times (percentile_place units places (length (x ∷ xs))) (x ∷ xs) (y ∷ ys) v same stands),
)

-- ---- the values of pairs
pub values_held-append : (a b : Bag) → values_held (a ++ b) ≡ values_held a ++ values_held b
values_held-append a b = flat_map-append (λ (pair : ℤ × ℕ). replicate pair.1 pair.0) a b

-- what they come to, where each counts as much as f says of it
pub sum_by-values_held : (f : ℤ → ℕ) (held : Bag) → sum_by f (values_held held) ≡ weight_of f held
sum_by-values_held f [] = refl
sum_by-values_held f (e ∷ held) = omega (
  arith,
  sum_by-append f (replicate e.1 e.0) (values_held held),
  sum_by-replicate f e.1 e.0,
  mul_comm e.1 (f e.0),
  weight_of-cons f e held,
  sum_by-values_held f held,
)

-- how often a number stands among them
pub times_among-values_held : (held : Bag) (x : ℤ) → times_among (values_held held) x ≡ held_of held x
times_among-values_held held x = sum_by-values_held (one_at x) held

pub times_among-values_held_cons : (e : ℤ × ℕ) (held : Bag) (x : ℤ)
    → times_among (values_held (e ∷ held)) x ≡ one_at x e.0 * e.1 + times_among (values_held held) x
times_among-values_held_cons e held x = omega (
  arith,
  times_among-values_held (e ∷ held) x,
  times_among-values_held held x,
  weight_of-cons (one_at x) e held,
)

-- how many there are
pub length-values_held : (held : Bag) → length (values_held held) ≡ size_of held
length-values_held held = sym (size_of-times_among (values_held held) held (λ x. sym (times_among-values_held held x)))

-- their sum, and the sum of their squares
pub total_of-values_held : (held : Bag)
    → total_of (values_held held) ≡ pos (weight_of up held) -ℤ pos (weight_of down held)
total_of-values_held held =
    omega (arith, ints, total_of-sum_by (values_held held), sum_by-values_held up held, sum_by-values_held down held)

pub total_of-values_held_cons : (e : ℤ × ℕ) (held : Bag)
    → total_of (values_held (e ∷ held)) ≡ e.0 *ℤ pos e.1 +ℤ total_of (values_held held)
total_of-values_held_cons e held = omega (
  arith,
  ints,
  total_of-values_held (e ∷ held),
  total_of-values_held held,
  weight_of-cons up e held,
  weight_of-cons down e held,
)

pub squares_of-values_held : (held : Bag) → squares_of (values_held held) ≡ squares_held held
squares_of-values_held held = sum_by-values_held square held

-- ---- values in order
-- pairs of which each number is below those after it
int_cmp-less : (x y : ℤ) → x <ℤ y → int_cmp x y ≡ Less
int_cmp-less x y less = grind (arith, ints, less)

pub IsStrictlySortedBy-Ascends : (pairs : Bag) → Ascends pairs
    → IsStrictlySortedBy (λ (pair other : ℤ × ℕ). int_cmp pair.0 other.0) pairs
unfolding IsStrictlySortedBy
IsStrictlySortedBy-Ascends [] up = tt
IsStrictlySortedBy-Ascends (e ∷ pairs) up = (
  recursion_from_All (λ (f : ℤ × ℕ). int_cmp e.0 f.0 ≡ Less) pairs
      (λ k d within. int_cmp-less e.0 (get_or pairs k d).0 (All-ascending e pairs up k d within)),
  IsStrictlySortedBy-Ascends pairs (Ascends-tail e pairs up),
)

pub Ascends-AreHeld : (values : List ℤ) (held : Bag) → AreHeld values held → Ascends held
Ascends-AreHeld values held are i j d before within =
    less_from_int_cmp (get_or held i d).0 (get_or held j d).0
    (Less-from_sorted (λ (pair other : ℤ × ℕ). int_cmp pair.0 other.0) held i j d are.ascending before within)

pub some_AreHeld : (values : List ℤ) (held : Bag) → AreHeld values held → All (λ e. 0 < e.1) held
some_AreHeld values held are = All-from_recursion (λ (e : ℤ × ℕ). 0 < e.1) held are.some

-- the numbers of a bag in order are held so often among values that have each number as often as the bag
pub AreHeld-AreInOrder : (values : List ℤ) (bag pairs : Bag) → ((x : ℤ) → held_of bag x ≡ times_among values x)
    → AreInOrder bag pairs → AreHeld values pairs
AreHeld-AreInOrder values bag pairs held in_order = record {
  ascending = IsStrictlySortedBy-Ascends pairs in_order.ascending;
  some = recursion_from_All (λ (pair : ℤ × ℕ). 0 < pair.1) pairs in_order.some;
  same = λ x. times_among-values_held pairs x ∙ sym (in_order.same.held x) ∙ held x;
}

-- pairs in order hold their own values
pub AreHeld-values_held : (held : Bag) → Ascends held → All (λ e. 0 < e.1) held → AreHeld (values_held held) held
AreHeld-values_held held up some = record {
  ascending = IsStrictlySortedBy-Ascends held up;
  some = recursion_from_All (λ (pair : ℤ × ℕ). 0 < pair.1) held some;
  same = λ x. refl;
}

-- those of all values that are held equally often
pub AreHeld-same_times : (xs ys : List ℤ) (held : Bag) → ((x : ℤ) → times_among xs x ≡ times_among ys x)
    → AreHeld xs held → AreHeld ys held
AreHeld-same_times xs ys held same are =
    record { ascending = are.ascending; some = are.some; same = λ x. are.same x ∙ same x }

-- how many values are different
IsStrictlySortedBy-keys_of : (held : Bag) → IsStrictlySortedBy (λ (pair other : ℤ × ℕ). int_cmp pair.0 other.0) held
    → IsStrictlySortedBy int_cmp (keys_of held)
unfolding IsStrictlySortedBy
IsStrictlySortedBy-keys_of [] sorted = tt
IsStrictlySortedBy-keys_of (e ∷ held) (first, sorted) = (
  recursion_from_All (λ (y : ℤ). int_cmp e.0 y ≡ Less) (keys_of held)
      (All-map (λ (y : ℤ). int_cmp e.0 y ≡ Less) (λ (f : ℤ × ℕ). f.0) held
      (All-from_recursion (λ (f : ℤ × ℕ). int_cmp e.0 f.0 ≡ Less) held first)),
  IsStrictlySortedBy-keys_of held sorted,
)

pub IsDistinctCount-AreHeld : (values : List ℤ) (held : Bag) → AreHeld values held
    → IsDistinctCount values (answer.Count (length held))
IsDistinctCount-AreHeld values held are = (
  keys_of held,
  IsStrictlySortedBy-keys_of held are.ascending,
  λ x. (
    λ there. Contains-times_among x values (omega (
      arith,
      are.same x,
      times_among-values_held held x,
      held-from_keys held x (lookup-positive held (some_AreHeld values held are) x) there,
    )),
    λ there. keys-from_held held x
        (omega (arith, are.same x, times_among-values_held held x, times_among-Contains x values there)),
  ),
  ap answer.Count (sym (length-map held (λ (e : ℤ × ℕ). e.0))),
)

-- ---- the least and the greatest value
-- a value that is as good as each
IsBest-Whole : (IsAsGood : ℤ → ℤ → Type 0) (values : List ℤ) (m : ℤ) → 0 < times_among values m
    → ((x : ℤ) → 0 < times_among values x → IsAsGood m x) → IsBest IsAsGood values (answer.Whole m)
IsBest-Whole IsAsGood [] m some each = absurd (omega (arith, some))
IsBest-Whole IsAsGood (v ∷ values) m some each = (
  m,
  refl,
  Contains-times_among m (v ∷ values) some,
  recursion_from_All (IsAsGood m) (v ∷ values) (λ k d inside. each (get_or (v ∷ values) k d) (times_among-Contains
      (get_or (v ∷ values) k d) (v ∷ values) (All-contains_itself (v ∷ values) k d inside))),
)

IsLeast-HasLeast : (held : Bag) (m : ℤ) → HasLeast held m → IsLeast (values_held held) (answer.Whole m)
IsLeast-HasLeast held m least = IsBest-Whole (λ m x. m ≤ℤ x) (values_held held) m
    (omega (arith, times_among-values_held held m, least.held))
    (λ x some. least.below x (omega (arith, times_among-values_held held x, some)))

IsGreatest-HasGreatest : (held : Bag) (m : ℤ) → HasGreatest held m → IsGreatest (values_held held) (answer.Whole m)
IsGreatest-HasGreatest held m greatest = IsBest-Whole (λ m x. x ≤ℤ m) (values_held held) m
    (omega (arith, times_among-values_held held m, greatest.held))
    (λ x some. greatest.above x (omega (arith, times_among-values_held held x, some)))

-- those of values in order are the first and the last
Rises-Ascends : (pairs : Bag) → Ascends pairs → Rises pairs
Rises-Ascends pairs ascending i j d before within = ⊎_elim
    (λ less. let rises = ascending i j d less within in omega (arith, ints, rises))
    (λ le.
    let same : i ≡ j = omega (arith, before, le) in
    subst (λ (n : ℕ). (get_or pairs i d).0 ≤ℤ (get_or pairs n d).0) same (omega (arith, ints)))
    (cases_lt i j)

pub IsLeast-AreHeld : (held : Bag) (d : ℤ × ℕ) → AreHeld (values_held held) held → 0 < length held
    → IsLeast (values_held held) (answer.Whole (get_or held 0 d).0)
IsLeast-AreHeld held d are some = IsLeast-HasLeast held (get_or held 0 d).0 (HasLeast-Rises held 0 d
    (Rises-Ascends held (Ascends-AreHeld (values_held held) held are)) some
    (λ e. some_AreHeld (values_held held) held are 0 e some) (λ k e from to. absurd (omega (arith, to))))

pub IsGreatest-AreHeld : (held : Bag) (d : ℤ × ℕ) → AreHeld (values_held held) held → 0 < length held
    → IsGreatest (values_held held) (answer.Whole (get_or held (length held - 1) d).0)
IsGreatest-AreHeld held d are some =
    let last : length held - 1 < length held = omega (arith, some) in
    IsGreatest-HasGreatest held (get_or held (length held - 1) d).0 (HasGreatest-Rises held (length held - 1) d
    (Rises-Ascends held (Ascends-AreHeld (values_held held) held are)) last
    (λ e. some_AreHeld (values_held held) held are (length held - 1) e last)
    (λ k e from to. absurd (omega (arith, from, to))))

-- where there is a pair there is a value
pub values_held-some : (held : Bag) → AreHeld (values_held held) held → 0 < length held → values_held held ≡ [] → ⊥
values_held-some held are some none =
    let e : ℤ × ℕ = get_or held 0 (pos 0, 0) in
    omega (
      arith,
      ap (λ (values : List ℤ). length values) none,
      length-values_held held,
      count_at held 0 e some (get_or_default held 0 (pos 0, 0) e some),
      some_AreHeld (values_held held) held are 0 (pos 0, 0) some,
    )

-- ---- a walk over pairs that may be in order
-- the pairs before a place are, and `before` is the number of the last of them
pub record IsCheckedTo (held : Bag) (i : ℕ) (before : Option ℤ) : Type 0 where
  pub ascending : (k j : ℕ) (d : ℤ × ℕ) → k < j → j < i → (get_or held k d).0 <ℤ (get_or held j d).0
  pub some : (k : ℕ) (d : ℤ × ℕ) → k < i → 0 < (get_or held k d).1
  pub none : IfNone before (i ≡ 0)
  pub last : IfSome before (λ v. (k : ℕ) (d : ℤ × ℕ) → k < i → (get_or held k d).0 ≤ℤ v)

-- all pairs are
pub IsCheckedTo-AreHeld : (held : Bag) (i : ℕ) (before : Option ℤ) → IsCheckedTo held i before → length held ≤ i
    → AreHeld (values_held held) held
IsCheckedTo-AreHeld held i before checked past = AreHeld-values_held held
    (λ k j d less within. checked.ascending k j d less (omega (arith, within, past)))
    (λ k d within. checked.some k d (omega (arith, within, past)))

-- ---- the sum of the values
-- the sum that a walk has added up, where these are the pairs that it has left: each value counts 2^63 at most
pub record IsTotalledTo (held left : Bag) (total : ℤ) : Type 0 where
  pub whole : total +ℤ total_of (values_held left) ≡ total_of (values_held held)
  pub bound : unsigned_abs total + 2 ^ 63 * size_of left ≤ 2 ^ 63 * size_of held

-- it fits 128 bits
pub IsTotalledTo-fits : (held left : Bag) (total : ℤ) → IsTotalledTo held left total
    → length (values_held held) < 2 ^ 64 → FitsSigned w128 total
IsTotalledTo-fits held left total totalled few =
    fits_signed_from_abs w128 total (omega (arith, totalled.bound, length-values_held held, few))

-- what a pair adds
pub product-bound : (x : ℤ) (n : ℕ) → FitsSigned w64 x → unsigned_abs (x *ℤ pos n) ≤ 2 ^ 63 * n
product-bound x n fits = subst (λ (m : ℕ). m ≤ 2 ^ 63 * n) (sym (unsigned_abs-mul x (pos n)))
    (mul-le-mul (unsigned_abs-fits x fits) (omega arith)) where
      unsigned_abs-fits : (x : ℤ) → FitsSigned w64 x → unsigned_abs x ≤ 2 ^ 63
      unsigned_abs-fits x fits = omega (arith, ints, fits)

-- one pair more
unsigned_abs-sum : (x y : ℤ) → unsigned_abs (x +ℤ y) ≤ unsigned_abs x + unsigned_abs y
unsigned_abs-sum x y = omega (arith, ints)

pub IsTotalledTo-more : (held left : Bag) (e : ℤ × ℕ) (total part : ℤ) → IsTotalledTo held (e ∷ left) total
    → part ≡ e.0 *ℤ pos e.1 → unsigned_abs part ≤ 2 ^ 63 * e.1 → IsTotalledTo held left (total +ℤ part)
IsTotalledTo-more held left e total part totalled is bound = record {
  whole = omega (arith, ints, totalled.whole, total_of-values_held_cons e left, is);
  bound = omega (
    arith,
    totalled.bound,
    bound,
    unsigned_abs-sum total part,
    weight_of-cons (λ _. 1) e left,
  );
}
