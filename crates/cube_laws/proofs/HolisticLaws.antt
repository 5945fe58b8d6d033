-- Distinct counts and percentiles are determined by the values, and a percentile of level 0 is the least value, one of
-- level 1 the greatest.
use Rattle.std.proofs.Common.{◌≡◌, ℕ, ◌+◌, ◌-◌, ◌*◌, ◌/◌, ◌^◌, ◌<◌, ◌≤◌, ◌<ℤ◌, ◌≤ℤ◌, ℤ, Bool, true, false}
use Rattle.std.proofs.Common.{List, [], ◌∷◌, length, Contains, Ordering, Less, Equal, Greater, sym, ap, ◌∙◌}
use Rattle.std.proofs.Common.{cond, subst, inl, inr, arith, ◌↔◌}
use Rattle.std.specs.List.{AllByRecursion, count_by}
use Rattle.std.specs.Bool.{Decides}
use Rattle.std.specs.Cmp.{int_ranks, ranked_equal}
use Rattle.std.specs.List.Sorted.{IsStrictlySortedBy}
use Rattle.std.specs.Ordering.{eq_by_cmp, int_cmp, is_lt, is_le, MatchOrdering}
use Rattle.std.proofs.Math.Nat.{div-eq_of_lt, mul-add-div, one-le-pow}
use Rattle.std.proofs.lemmas.Bool.{cases_Bool}
use Rattle.std.proofs.lemmas.Cmp.{eq_by_cmp_equiv, int_cmp_total}
use Rattle.std.proofs.lemmas.Int.{ints}
use Rattle.std.proofs.lemmas.List.Sums.{count_by-le-length, sum_by-cons}
use Rattle.std.proofs.lemmas.Map.Keys.{IsDistinct-from_sorted}
use Rattle.std.proofs.lemmas.Map.Made.{is_member-Decides, length-le_from_is_member}
use Rattle.cube_core.specs.Answer.{IsDistinctCount, IsPercentile, StandsAt, below, at_most, percentile_place}
use Rattle.cube_core.specs.Answer.{IsAnswer, IsLeast, IsGreatest}
use Rattle.cube_core.specs.Group.{values_of}
use Rattle.cube_core.specs.Merged.{count_answered}
use Rattle.cube_core.specs.declared.aggregate.Agg.TheVariants as agg
use Rattle.cube_core.specs.declared.aggregate.Answer.{Answer}
use Rattle.cube_core.specs.declared.aggregate.Answer.TheVariants as answer
use Rattle.cube_core.specs.declared.fact.Fact.{Fact}
use Rattle.cube_core.proofs.ListLaws.{AllByRecursion-Contains, Contains-head, Contains-nil, Contains-tail}
use Rattle.cube_laws.proofs.SortedLaws.{IsStrictlySortedBy-unique}

-- a distinct count is determined
pub IsDistinctCount-unique : (values : List ℤ) (a b : Answer) → IsDistinctCount values a → IsDistinctCount values b
    → a ≡ b
IsDistinctCount-unique values a b (numbers, sorted, same, is) (others, rising, alike, are) =
    let one : numbers ≡ others = IsStrictlySortedBy-unique int_cmp_total numbers others sorted rising
    (λ x there. (alike x).1 ((same x).0 there)) (λ x there. (same x).1 ((alike x).0 there)) in
    is ∙ ap (λ ns. answer.Count (length ns)) one ∙ sym are

-- a distinct count is at most how many values there are
pub IsDistinct-length : (numbers values : List ℤ) → IsStrictlySortedBy int_cmp numbers
    → ((x : ℤ) → Contains numbers x → Contains values x) → length numbers ≤ length values
IsDistinct-length numbers values sorted within =
    length-le_from_is_member (eq_by_cmp_equiv int_cmp_total) numbers values
    (IsDistinct-from_sorted int_cmp numbers sorted)
    (λ x there. (is_member-Decides eq_by_cmp-Decides values x).1
    (within x ((is_member-Decides eq_by_cmp-Decides numbers x).0 there)))
  where
    eq_by_cmp-Decides : (x y : ℤ) → Decides (eq_by_cmp int_cmp x y) (x ≡ y)
    eq_by_cmp-Decides x y = ranked_equal x y (int_cmp x y) (int_ranks x y)

-- one more element counts where it passes
pub count-cons : (p : ℤ → Bool) (x : ℤ) (xs : List ℤ) → count_by p (x ∷ xs) ≡ cond (p x) 1 0 + count_by p xs
count-cons p x xs = sum_by-cons (λ y. cond (p y) 1 0) x xs

count-passed : (p : ℤ → Bool) (x : ℤ) (xs : List ℤ) → p x ≡ true → count_by p (x ∷ xs) ≡ 1 + count_by p xs
count-passed p x xs passes = count-cons p x xs ∙ ap (λ b. cond b 1 0 + count_by p xs) passes

count-failed : (p : ℤ → Bool) (x : ℤ) (xs : List ℤ) → p x ≡ false → count_by p (x ∷ xs) ≡ 0 + count_by p xs
count-failed p x xs fails = count-cons p x xs ∙ ap (λ b. cond b 1 0 + count_by p xs) fails

-- what passes a test at most as often as another
count-le : (p q : ℤ → Bool) → ((x : ℤ) → p x ≡ true → q x ≡ true) → (xs : List ℤ) → count_by p xs ≤ count_by q xs
count-le p q each [] = omega arith
count-le p q each (x ∷ xs) = elim (cases_Bool (p x)) [
  | inl passes ↦
      omega (arith, count-le p q each xs, count-passed p x xs passes, count-passed q x xs (each x passes))
  | inr fails ↦ omega (arith, count-le p q each xs, count-failed p x xs fails, count-cons q x xs)
]

-- no number below another stands at the same place
StandsAt-apart : (place : ℕ) (values : List ℤ) (v w : ℤ) → v <ℤ w → StandsAt place values v
    → StandsAt place values w → ⊥
StandsAt-apart place values v w lower here there =
    let passes : (x : ℤ) → is_le (int_cmp x v) ≡ true → is_lt (int_cmp x w) ≡ true =
    λ x under. grind (arith, ints, under, lower) in
    omega (
      arith,
      here.as_many,
      there.fewer,
      count-le (λ x. is_le (int_cmp x v)) (λ x. is_lt (int_cmp x w)) passes values,
    )

-- one number stands at a place
StandsAt-ranked : (place : ℕ) (values : List ℤ) (v w : ℤ) (rank : Ordering)
    → MatchOrdering rank (v <ℤ w) (v ≡ w) (w <ℤ v)
    → StandsAt place values v → StandsAt place values w → v ≡ w
StandsAt-ranked place values v w Less lower here there = absurd (StandsAt-apart place values v w lower here there)
StandsAt-ranked place values v w Equal same here there = same
StandsAt-ranked place values v w Greater upper here there = absurd (StandsAt-apart place values w v upper there here)

pub StandsAt-unique : (place : ℕ) (values : List ℤ) (v w : ℤ) → StandsAt place values v
    → StandsAt place values w → v ≡ w
StandsAt-unique place values v w here there =
    StandsAt-ranked place values v w (int_cmp v w) (int_ranks v w) here there

-- it is one of the values
StandsAt-ranked_Contains : (v x : ℤ) (xs : List ℤ) (rank : Ordering) → MatchOrdering rank (x <ℤ v) (x ≡ v) (v <ℤ x)
    → (below v xs < at_most v xs → Contains xs v)
    → cond (is_lt rank) 1 0 + below v xs < cond (is_le rank) 1 0 + at_most v xs → Contains (x ∷ xs) v
StandsAt-ranked_Contains v x xs Less lower rest some = Contains-tail x xs v (rest (omega (arith, some)))
StandsAt-ranked_Contains v x xs Equal same rest some = subst (Contains (x ∷ xs)) same (Contains-head x xs)
StandsAt-ranked_Contains v x xs Greater upper rest some = Contains-tail x xs v (rest (omega (arith, some)))

StandsAt-Contains : (v : ℤ) (values : List ℤ) → below v values < at_most v values → Contains values v
StandsAt-Contains v [] some = absurd (omega (arith, some))
StandsAt-Contains v (x ∷ xs) some =
    StandsAt-ranked_Contains v x xs (int_cmp x v) (int_ranks x v) (StandsAt-Contains v xs)
    (omega (
      arith,
      some,
      count-cons (λ y. is_lt (int_cmp y v)) x xs,
      count-cons (λ y. is_le (int_cmp y v)) x xs,
    ))

pub IsPercentile-Contains : (units places : ℕ) (v : ℤ) (vs : List ℤ) (a : Answer)
    → IsPercentile units places (v ∷ vs) a → (w : ℤ) × (a ≡ answer.Whole w) × Contains (v ∷ vs) w
IsPercentile-Contains units places v vs a (w, is, stands) =
    (w, is, StandsAt-Contains w (v ∷ vs) (omega (arith, stands.fewer, stands.as_many)))

-- a percentile is determined
pub IsPercentile-unique : (units places : ℕ) (values : List ℤ) (a b : Answer) → IsPercentile units places values a
    → IsPercentile units places values b → a ≡ b
IsPercentile-unique units places [] a b is are = is ∙ sym are
IsPercentile-unique units places (x ∷ xs) a b (v, is, here) (w, are, there) =
    is ∙ ap answer.Whole (StandsAt-unique (percentile_place units places (length (x ∷ xs))) (x ∷ xs) v w here there)
    ∙ sym are

-- what no element, and what each, passes
count-none : (p : ℤ → Bool) (xs : List ℤ) → count_by p xs < 1 → AllByRecursion (λ x. p x ≡ false) xs
count-none p [] few = tt
count-none p (x ∷ xs) few = elim (cases_Bool (p x)) [
  | inl passes ↦ absurd (omega (arith, few, count-passed p x xs passes))
  | inr fails ↦ (fails, count-none p xs (omega (arith, few, count-failed p x xs fails)))
]

count-all : (p : ℤ → Bool) (xs : List ℤ) → length xs ≤ count_by p xs → AllByRecursion (λ x. p x ≡ true) xs
count-all p [] many = tt
count-all p (x ∷ xs) many = elim (cases_Bool (p x)) [
  | inl passes ↦ (passes, count-all p xs (omega (arith, many, count-passed p x xs passes)))
  | inr fails ↦ absurd (omega (arith, many, count-failed p x xs fails, count_by-le-length p xs))
]

-- an element that passes, and one that doesn't
count-some : (p : ℤ → Bool) (xs : List ℤ) → 1 ≤ count_by p xs → (x : ℤ) × Contains xs x × (p x ≡ true)
count-some p [] some = absurd (omega (arith, some))
count-some p (x ∷ xs) some = elim (cases_Bool (p x)) [
  | inl passes ↦ (x, Contains-head x xs, passes)
  | inr fails ↦
      let (y, there, it_passes) = count-some p xs (omega (arith, some, count-failed p x xs fails)) in
      (y, Contains-tail x xs y there, it_passes)
]

count-other : (p : ℤ → Bool) (xs : List ℤ) → count_by p xs < length xs → (x : ℤ) × Contains xs x × (p x ≡ false)
count-other p [] few = absurd (omega (arith, few))
count-other p (x ∷ xs) few = elim (cases_Bool (p x)) [
  | inr fails ↦ (x, Contains-head x xs, fails)
  | inl passes ↦
      let (y, there, it_fails) = count-other p xs (omega (arith, few, count-passed p x xs passes)) in
      (y, Contains-tail x xs y there, it_fails)
]

-- what is said of each element follows from what each passes
all-from : (p : ℤ → Bool) (answer : Bool) (P : ℤ → Type 0) → ((x : ℤ) → p x ≡ answer → P x) → (xs : List ℤ)
    → AllByRecursion (λ x. p x ≡ answer) xs → AllByRecursion P xs
all-from p answer P each [] all = tt
all-from p answer P each (x ∷ xs) all = (each x all.0, all-from p answer P each xs all.1)

-- the place of level 0 is the first
percentile_place-least : (places n : ℕ) → percentile_place 0 places n ≡ 1
percentile_place-least places n =
    let some : 0 < 10 ^ places = one-le-pow places 10 (omega arith) in
    let below_one : 0 * n + 10 ^ places - 1 < 10 ^ places = omega (arith, some) in
    let none : (0 * n + 10 ^ places - 1) / 10 ^ places ≡ 0 = div-eq_of_lt below_one in
    omega (arith, none)

-- the place of level 1 is the last
percentile_place-greatest : (places n : ℕ) → 1 ≤ n → percentile_place (10 ^ places) places n ≡ n
percentile_place-greatest places n some =
    let scale : 0 < 10 ^ places = one-le-pow places 10 (omega arith) in
    let under : 10 ^ places - 1 < 10 ^ places = omega (arith, scale) in
    let none : (10 ^ places - 1) / 10 ^ places ≡ 0 = div-eq_of_lt under in
    let apart : 10 ^ places * n + 10 ^ places - 1 ≡ 10 ^ places * n + (10 ^ places - 1) = omega (arith, scale) in
    let whole : (10 ^ places * n + 10 ^ places - 1) / 10 ^ places ≡ n =
    ap (λ t. t / 10 ^ places) apart ∙ mul-add-div scale n (10 ^ places - 1) ∙ omega (arith, none) in
    omega (arith, whole, some)

-- a percentile of level 0 is the least value
pub IsPercentile-least : (places : ℕ) (values : List ℤ) (a : Answer) → IsPercentile 0 places values a → IsLeast values a
IsPercentile-least places [] a is = is
IsPercentile-least places (x ∷ xs) a (w, is, stands) =
    let first : StandsAt 1 (x ∷ xs) w =
    subst (λ (k : ℕ). StandsAt k (x ∷ xs) w) (percentile_place-least places (length (x ∷ xs))) stands in
    let least : AllByRecursion (λ y. w ≤ℤ y) (x ∷ xs) =
    all-from (λ y. is_lt (int_cmp y w)) false (λ y. w ≤ℤ y) (λ y not_below. grind (arith, ints, not_below)) (x ∷ xs)
    (count-none (λ y. is_lt (int_cmp y w)) (x ∷ xs) first.fewer) in
    let (y, there, under) = count-some (λ y. is_le (int_cmp y w)) (x ∷ xs) first.as_many in
    let above : w ≤ℤ y = AllByRecursion-Contains (λ y. w ≤ℤ y) (x ∷ xs) y least there in
    let same : y ≡ w = grind (arith, ints, under, above) in
    (w, is, subst (Contains (x ∷ xs)) same there, least)

-- a percentile of level 1 is the greatest value
pub IsPercentile-greatest : (places : ℕ) (values : List ℤ) (a : Answer) → IsPercentile (10 ^ places) places values a
    → IsGreatest values a
IsPercentile-greatest places [] a is = is
IsPercentile-greatest places (x ∷ xs) a (w, is, stands) =
    let last : StandsAt (length (x ∷ xs)) (x ∷ xs) w =
    subst (λ (k : ℕ). StandsAt k (x ∷ xs) w)
    (percentile_place-greatest places (length (x ∷ xs)) (omega arith)) stands in
    let greatest : AllByRecursion (λ y. y ≤ℤ w) (x ∷ xs) =
    all-from (λ y. is_le (int_cmp y w)) true (λ y. y ≤ℤ w) (λ y under. grind (arith, ints, under)) (x ∷ xs)
    (count-all (λ y. is_le (int_cmp y w)) (x ∷ xs) last.as_many) in
    let (y, there, not_below) = count-other (λ y. is_lt (int_cmp y w)) (x ∷ xs) last.fewer in
    let under : y ≤ℤ w = AllByRecursion-Contains (λ y. y ≤ℤ w) (x ∷ xs) y greatest there in
    let same : y ≡ w = grind (arith, ints, not_below, under) in
    (w, is, subst (Contains (x ∷ xs)) same there, greatest)

-- ---- of groups of facts
-- there are at most so many different values as there are values
pub IsAnswer-distinct : (group : List Fact) (m distinct count : ℕ)
    → IsAnswer group (agg.CountDistinct m) (answer.Count distinct)
    → IsAnswer group (agg.Count m) (answer.Count count) → distinct ≤ count
IsAnswer-distinct group m distinct count (numbers, sorted, same, is) counted =
    let as_many : distinct ≡ length numbers = ap count_answered is in
    let all : count ≡ length (values_of m group) = ap count_answered counted in
    omega (arith, as_many, all, IsDistinct-length numbers (values_of m group) sorted (λ x there. (same x).0 there))

-- and where there is a value, one is different
IsDistinctCount-some : (numbers values : List ℤ) → ((x : ℤ) → Contains numbers x ↔ Contains values x)
    → 1 ≤ length values → 1 ≤ length numbers
IsDistinctCount-some numbers [] same some = absurd (omega (arith, some))
IsDistinctCount-some [] (value ∷ values) same some =
    absurd (Contains-nil value ((same value).1 (Contains-head value values)))
IsDistinctCount-some (number ∷ numbers) (value ∷ values) same some = omega arith

pub IsAnswer-some_distinct : (group : List Fact) (m distinct count : ℕ)
    → IsAnswer group (agg.CountDistinct m) (answer.Count distinct)
    → IsAnswer group (agg.Count m) (answer.Count count) → 1 ≤ count → 1 ≤ distinct
IsAnswer-some_distinct group m distinct count (numbers, sorted, same, is) counted some =
    let as_many : distinct ≡ length numbers = ap count_answered is in
    let all : count ≡ length (values_of m group) = ap count_answered counted in
    omega (arith, as_many, IsDistinctCount-some numbers (values_of m group) same (omega (arith, all, some)))

-- a percentile that isn't null is one of the values
IsPercentile-value : (units places : ℕ) (values : List ℤ) (value : ℤ)
    → IsPercentile units places values (answer.Whole value) → Contains values value
IsPercentile-value units places [] value is = cc
IsPercentile-value units places (v ∷ vs) value is =
    let (w, same, among) = IsPercentile-Contains units places v vs (answer.Whole value) is in
    let one : w ≡ value = cc in
    subst (Contains (v ∷ vs)) one among

pub IsAnswer-percentile : (group : List Fact) (m units places : ℕ) (value : ℤ)
    → IsAnswer group (agg.PercentileDisc m units places) (answer.Whole value) → Contains (values_of m group) value
IsAnswer-percentile group m units places value is = IsPercentile-value units places (values_of m group) value is
