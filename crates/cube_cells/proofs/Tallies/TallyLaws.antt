-- Laws of tallies: what the bag of a list of values says of the list's aggregates.
use Rattle.std.proofs.Common.{◌≡◌, ℕ, suc, ◌+◌, ◌<◌, List, [], ◌∷◌, true, false, refl, arith, ap, sym, ◌∙◌, length}
use Rattle.std.proofs.Common.{get_or}
use Rattle.std.specs.Prelude.{ℤ, pos, ◌-ℤ◌, ◌≤ℤ◌, sum_by, count_by, Contains, All, Option, Some, None, IfSome, IfNone}
use Rattle.std.specs.Prelude.{IsNone, ◌↔◌}
use Rattle.std.specs.Ordering.{int_eq}
use Rattle.std.proofs.lemmas.Int.{ints}
use Rattle.std.proofs.lemmas.List.Sums.{sum_by-cons, get_or-le-sum_by}
use Rattle.std.proofs.lemmas.List.Elements.{recursion_from_All}
use Rattle.cube_core.specs.Answer.{IsSum, IsLeast, IsGreatest, IsMean}
use Rattle.cube_core.specs.Fraction.{IsInLowestTerms}
use Rattle.cube_core.specs.Group.{total_of}
use Rattle.cube_core.specs.declared.aggregate.Answer.{Answer}
use Rattle.cube_core.specs.declared.aggregate.Answer.TheVariants as answer
use Rattle.cube_values.specs.Bag.{Bag, weight_of, size_of, one_at, HasLeast, HasGreatest}
use Rattle.cube_cells.specs.Sum.{IsSumOf}
use Rattle.cube_cells.specs.Tally.{IsBagOf}
use Rattle.cube_values.proofs.BagLaws.{weight_of-nothing, OneLess-held_of, one_at-refl, one_at-distinct, int_eq-same}
use Rattle.cube_cells.proofs.Tallies.SumLaws.{sum_of-weight_of}
use borrow.Author.Differences.{up, down}

-- how often a number stands in a list of values
count_by-one_at : (x v : ℤ) (values : List ℤ)
    → count_by (int_eq x) (v ∷ values) ≡ one_at x v + count_by (int_eq x) values
count_by-one_at x v values = sum_by-cons (one_at x) v values

-- a weight of the bag is that of the list
pub weight_of-IsBagOf : (f : ℤ → ℕ) (values : List ℤ) (bag : Bag) → IsBagOf values bag
    → weight_of f bag ≡ sum_by f values
weight_of-IsBagOf f [] bag is = weight_of-nothing f bag (λ x. is.held x)
weight_of-IsBagOf f (v ∷ values) bag is =
    let less = OneLess-held_of bag v (omega (arith, is.held v, count_by-one_at v v values, one_at-refl v)) in
    let rest : IsBagOf values less.0 =
    record { held = λ x. omega (arith, is.held x, count_by-one_at x v values, less.1.weight (one_at x)) } in
    omega (arith, sum_by-cons f v values, less.1.weight f, weight_of-IsBagOf f values less.0 rest)

sum_by-length_values : (values : List ℤ) → sum_by (λ (_ : ℤ). 1) values ≡ length values
sum_by-length_values [] = refl
sum_by-length_values (v ∷ values) = omega (arith, sum_by-cons (λ (_ : ℤ). 1) v values, sum_by-length_values values)

-- the bag is as large as the list is long
pub size_of-IsBagOf : (values : List ℤ) (bag : Bag) → IsBagOf values bag → size_of bag ≡ length values
size_of-IsBagOf values bag is = weight_of-IsBagOf (λ _. 1) values bag is ∙ sum_by-length_values values

total_of-sum_by : (values : List ℤ) → total_of values ≡ pos (sum_by up values) -ℤ pos (sum_by down values)
total_of-sum_by [] = refl
total_of-sum_by (v ∷ values) =
    omega (arith, ints, total_of-sum_by values, sum_by-cons up v values, sum_by-cons down v values)

-- the kept sum is the sum of the list
pub total_of-IsSumOf : (values : List ℤ) (bag : Bag) (sum : ℤ) → IsBagOf values bag → IsSumOf bag sum
    → total_of values ≡ sum
total_of-IsSumOf values bag sum is s = omega (
  arith,
  ints,
  total_of-sum_by values,
  s.is_sum ∙ sum_of-weight_of bag,
  weight_of-IsBagOf up values bag is,
  weight_of-IsBagOf down values bag is,
)

-- ---- the answers
-- no value
pub IsBagOf-nil : (values : List ℤ) (bag : Bag) → IsBagOf values bag → size_of bag ≡ 0 → values ≡ []
IsBagOf-nil [] bag is none = refl
IsBagOf-nil (v ∷ values) bag is none = absurd (omega (arith, size_of-IsBagOf (v ∷ values) bag is))

pub IsSum-Null : (values : List ℤ) (bag : Bag) → IsBagOf values bag → size_of bag ≡ 0 → IsSum values answer.Null
IsSum-Null values bag is none = rw (IsBagOf-nil values bag is none) refl

pub IsLeast-Null : (values : List ℤ) (bag : Bag) → IsBagOf values bag → size_of bag ≡ 0 → IsLeast values answer.Null
IsLeast-Null values bag is none = rw (IsBagOf-nil values bag is none) refl

pub IsGreatest-Null : (values : List ℤ) (bag : Bag) → IsBagOf values bag → size_of bag ≡ 0
    → IsGreatest values answer.Null
IsGreatest-Null values bag is none = rw (IsBagOf-nil values bag is none) refl

pub IsMean-Null : (values : List ℤ) (bag : Bag) → IsBagOf values bag → size_of bag ≡ 0 → IsMean values answer.Null
IsMean-Null values bag is none = rw (IsBagOf-nil values bag is none) refl

-- some values
pub IsSum-Whole : (values : List ℤ) (bag : Bag) (sum : ℤ) → IsBagOf values bag → IsSumOf bag sum → 0 < size_of bag
    → IsSum values (answer.Whole sum)
IsSum-Whole [] bag sum is s some = absurd (omega (arith, size_of-IsBagOf [] bag is))
IsSum-Whole (v ∷ values) bag sum is s some = ap answer.Whole (sym (total_of-IsSumOf (v ∷ values) bag sum is s))

pub IsMean-Ratio : (values : List ℤ) (bag : Bag) (sum p : ℤ) (q : ℕ) → IsBagOf values bag → IsSumOf bag sum
    → 0 < size_of bag → IsInLowestTerms sum (size_of bag) p q → IsMean values (answer.Ratio p q)
IsMean-Ratio [] bag sum p q is s some lowest = absurd (omega (arith, size_of-IsBagOf [] bag is))
IsMean-Ratio (v ∷ values) bag sum p q is s some lowest =
    (p, q, refl, rw (total_of-IsSumOf (v ∷ values) bag sum is s, ← size_of-IsBagOf (v ∷ values) bag is) lowest)

-- a number that is counted is in the list
pub Contains-count_by : (x : ℤ) (values : List ℤ) → 0 < count_by (int_eq x) values → Contains values x
Contains-count_by x [] some = absurd (omega arith)
Contains-count_by x (v ∷ values) some = elim (int_eq x v) as (λ b. int_eq x v ≡ b → Contains (v ∷ values) x) [
  | true ↦ λ same. (0, omega arith, sym (int_eq-same x v same))
  | false ↦ λ apart. let rest =
      Contains-count_by x values (omega (arith, some, count_by-one_at x v values, one_at-distinct x v apart)) in
      (suc rest.0, omega (arith, rest.1), rest.2)
] refl

-- a number in the list is counted
pub All-count_by : (values : List ℤ) → All (λ x. 0 < count_by (int_eq x) values) values
All-count_by values = λ k d inside. omega (
  arith,
  get_or-le-sum_by (one_at (get_or values k d)) values k d inside,
  one_at-refl (get_or values k d),
)

pub IsLeast-Whole : (values : List ℤ) (bag : Bag) (m : ℤ) → IsBagOf values bag → HasLeast bag m
    → IsLeast values (answer.Whole m)
IsLeast-Whole [] bag m is least = absurd (omega (arith, is.held m, least.held))
IsLeast-Whole (v ∷ values) bag m is least = (
  m,
  refl,
  Contains-count_by m (v ∷ values) (omega (arith, is.held m, least.held)),
  recursion_from_All (λ x. m ≤ℤ x) (v ∷ values) (λ k d inside. least.below (get_or (v ∷ values) k d)
      (omega (arith, is.held (get_or (v ∷ values) k d), All-count_by (v ∷ values) k d inside))),
)

pub IsGreatest-Whole : (values : List ℤ) (bag : Bag) (m : ℤ) → IsBagOf values bag → HasGreatest bag m
    → IsGreatest values (answer.Whole m)
IsGreatest-Whole [] bag m is greatest = absurd (omega (arith, is.held m, greatest.held))
IsGreatest-Whole (v ∷ values) bag m is greatest = (
  m,
  refl,
  Contains-count_by m (v ∷ values) (omega (arith, is.held m, greatest.held)),
  recursion_from_All (λ x. x ≤ℤ m) (v ∷ values) (λ k d inside. greatest.above (get_or (v ∷ values) k d)
      (omega (arith, is.held (get_or (v ∷ values) k d), All-count_by (v ∷ values) k d inside))),
)

-- the least number of the bag, as an answer
pub IsLeast-HasLeast : (values : List ℤ) (bag : Bag) (n : Option ℤ) (a : Answer) → IsBagOf values bag
    → IsNone n ↔ (size_of bag ≡ 0) → IfSome n (HasLeast bag) → IfNone n (a ≡ answer.Null)
    → IfSome n (λ m. a ≡ answer.Whole m) → IsLeast values a
IsLeast-HasLeast values bag None a is none least null whole = rw null (IsLeast-Null values bag is (none.0 refl))
IsLeast-HasLeast values bag (Some m) a is none least null whole = rw whole (IsLeast-Whole values bag m is least)

-- the greatest number of the bag, as an answer
pub IsGreatest-HasGreatest : (values : List ℤ) (bag : Bag) (n : Option ℤ) (a : Answer) → IsBagOf values bag
    → IsNone n ↔ (size_of bag ≡ 0) → IfSome n (HasGreatest bag) → IfNone n (a ≡ answer.Null)
    → IfSome n (λ m. a ≡ answer.Whole m) → IsGreatest values a
IsGreatest-HasGreatest values bag None a is none greatest null whole =
    rw null (IsGreatest-Null values bag is (none.0 refl))
IsGreatest-HasGreatest values bag (Some m) a is none greatest null whole =
    rw whole (IsGreatest-Whole values bag m is greatest)
