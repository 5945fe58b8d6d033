-- Laws of the tally of facts, for what keeps cells of facts: a fact more, a fact less, facts in another order.
use Rattle.std.proofs.Common.{◌≡◌, ℕ, suc, ◌+◌, ◌<◌, ◌≤◌, Bool, List, [], ◌∷◌, true, false, refl, sym, ◌∙◌, arith, ap}
use Rattle.std.proofs.Common.{length, filter, if◌then◌else◌}
use Rattle.std.specs.Prelude.{ℤ, sum_by, count_by, Option, Some, None}
use Rattle.std.specs.Cmp.Derive.{both_true}
use Rattle.std.specs.List.Sorted.{IsPermutation}
use Rattle.std.specs.Ordering.{int_eq}
use Rattle.std.proofs.lemmas.Bool.{lt-ltb}
use Rattle.std.proofs.lemmas.List.Sorted.{sum_by-IsPermutation}
use Rattle.std.proofs.lemmas.List.Sums.{sum_by-cons}
use Rattle.cube_core.specs.Group.{value_of, values_of}
use Rattle.cube_core.specs.declared.fact.Fact.{Fact}
use Rattle.cube_core.proofs.ListLaws.{filter-passed, filter-failed}
use Rattle.cube_values.specs.Bag.{Bag, held_of, size_of, one_at}
use Rattle.cube_cells.specs.Tally.{Tally, bag_at, value_at, one_of, IsTallyOf, AddsValues, PlusFact, SameTally}
use Rattle.cube_cells.specs.Tally.{holds_value, hold_values, holds_fact}
use Rattle.cube_values.proofs.BagLaws.{one_at-refl, size_of_same}
use Rattle.cube_cells.proofs.Tallies.TallyLaws.{size_of-IsBagOf}
use Rattle.cube_cells.proofs.Tallies.ValueLaws.{AreWithin}

-- what a fact adds to the count of a value
count_by-values_of-cons : (x : ℤ) (m : ℕ) (fact : Fact) (facts : List Fact)
    → count_by (int_eq x) (values_of m (fact ∷ facts))
    ≡ one_of x (value_of m fact) + count_by (int_eq x) (values_of m facts)
count_by-values_of-cons x m fact facts = by_value (value_of m fact) refl where
  by_value : (value : Option ℤ) → value_of m fact ≡ value → count_by (int_eq x) (values_of m (fact ∷ facts))
      ≡ one_of x (value_of m fact) + count_by (int_eq x) (values_of m facts)
  by_value None is = rw is (omega arith)
  by_value (Some v) is = rw is (sum_by-cons (one_at x) v (values_of m facts))

-- how often facts have a value
pub count_by-values_of : (x : ℤ) (m : ℕ) (facts : List Fact)
    → count_by (int_eq x) (values_of m facts) ≡ sum_by (λ fact. one_of x (value_of m fact)) facts
count_by-values_of x m [] = refl
count_by-values_of x m (fact ∷ facts) = omega (
  arith,
  count_by-values_of-cons x m fact facts,
  count_by-values_of x m facts,
  sum_by-cons (λ (f : Fact). one_of x (value_of m f)) fact facts,
)

-- a fact more
pub IsTallyOf-cons : (facts : List Fact) (fact : Fact) (old new : Tally) → IsTallyOf facts old
    → PlusFact fact.measures old new → IsTallyOf (fact ∷ facts) new
IsTallyOf-cons facts fact old new is plus = record {
  count = omega (arith, is.count, plus.facts);
  bags = λ m inside. record {
    held = λ x. omega (
      arith,
      (is.bags m (omega (arith, plus.bags.same_length))).held x,
      (plus.bags.each m).held x,
      count_by-values_of-cons x m fact facts,
    );
  };
}

-- a fact less
pub IsTallyOf-tail : (facts : List Fact) (fact : Fact) (old new : Tally) → IsTallyOf (fact ∷ facts) old
    → PlusFact fact.measures new old → IsTallyOf facts new
IsTallyOf-tail facts fact old new is plus = record {
  count = omega (arith, is.count, plus.facts);
  bags = λ m inside. record {
    held = λ x. omega (
      arith,
      (is.bags m (omega (arith, plus.bags.same_length))).held x,
      (plus.bags.each m).held x,
      count_by-values_of-cons x m fact facts,
    );
  };
}

-- the same tally in other bags
pub IsTallyOf-SameTally : (facts : List Fact) (a b : Tally) → IsTallyOf facts a → SameTally a b → IsTallyOf facts b
IsTallyOf-SameTally facts a b is same = record {
  count = omega (arith, is.count, same.facts);
  bags = λ m inside. record {
    held = λ x. omega (arith, (is.bags m (omega (arith, same.bags.same_length))).held x, (same.bags.bags m).held x);
  };
}

-- facts, each counted as one
sum_by-length_facts : (facts : List Fact) → sum_by (λ (_ : Fact). 1) facts ≡ length facts
sum_by-length_facts [] = refl
sum_by-length_facts (fact ∷ facts) = omega (arith, sum_by-cons (λ (_ : Fact). 1) fact facts, sum_by-length_facts facts)

-- the facts in another order
pub IsTallyOf-permutation : (facts moved : List Fact) (t : Tally) → IsPermutation facts moved → IsTallyOf facts t
    → IsTallyOf moved t
IsTallyOf-permutation facts moved t change is = record {
  count = omega (
    arith,
    is.count,
    sum_by-length_facts facts,
    sum_by-length_facts moved,
    sum_by-IsPermutation (λ (_ : Fact). 1) facts moved change,
  );
  bags = λ m inside. record {
    held = λ x. omega (
      arith,
      (is.bags m inside).held x,
      count_by-values_of x m facts,
      count_by-values_of x m moved,
      sum_by-IsPermutation (λ (f : Fact). one_of x (value_of m f)) facts moved change,
    );
  };
}

-- a sum over the facts that pass a test
sum_by-filter : (test : Fact → Bool) (f : Fact → ℕ) (facts : List Fact)
    → sum_by f (filter test facts) ≡ sum_by (λ fact. if test fact then f fact else 0) facts
sum_by-filter test f [] = refl
sum_by-filter test f (fact ∷ facts) = by_test (test fact) refl
    (omega (arith, sum_by-cons (λ (x : Fact). if test x then f x else 0) fact facts, sum_by-filter test f facts))
  where
    by_test : (b : Bool) → test fact ≡ b → sum_by (λ x. if test x then f x else 0) (fact ∷ facts)
        ≡ (if test fact then f fact else 0) + sum_by f (filter test facts)
        → sum_by f (filter test (fact ∷ facts)) ≡ sum_by (λ x. if test x then f x else 0) (fact ∷ facts)
    by_test true passes rest = omega (
      arith,
      ap (sum_by f) (filter-passed test fact facts passes),
      sum_by-cons f fact (filter test facts),
      rest,
      ap (λ (b : Bool). if b then f fact else 0) passes,
    )
    by_test false fails rest = omega (
      arith,
      ap (sum_by f) (filter-failed test fact facts fails),
      rest,
      ap (λ (b : Bool). if b then f fact else 0) fails,
    )

sum_by-filter_moved : (test : Fact → Bool) (f : Fact → ℕ) (facts moved : List Fact) → IsPermutation facts moved
    → sum_by f (filter test moved) ≡ sum_by f (filter test facts)
sum_by-filter_moved test f facts moved change = sum_by-filter test f moved
    ∙ sum_by-IsPermutation (λ (fact : Fact). if test fact then f fact else 0) facts moved change
    ∙ sym (sum_by-filter test f facts)

-- those of the facts that pass a test, in another order
pub tally_moved-filter : (test : Fact → Bool) (facts moved : List Fact) (t : Tally) → IsPermutation facts moved
    → IsTallyOf (filter test facts) t → IsTallyOf (filter test moved) t
tally_moved-filter test facts moved t change is = record {
  count = omega (
    arith,
    is.count,
    sum_by-length_facts (filter test facts),
    sum_by-length_facts (filter test moved),
    sum_by-filter_moved test (λ (_ : Fact). 1) facts moved change,
  );
  bags = λ m inside. record {
    held = λ x. omega (
      arith,
      (is.bags m inside).held x,
      count_by-values_of x m (filter test facts),
      count_by-values_of x m (filter test moved),
      sum_by-filter_moved test (λ (f : Fact). one_of x (value_of m f)) facts moved change,
    );
  };
}

-- no more values than facts
length-values_of : (m : ℕ) (facts : List Fact) → length (values_of m facts) ≤ length facts
length-values_of m [] = omega arith
length-values_of m (fact ∷ facts) = by_value (value_of m fact) refl (length-values_of m facts) where
  by_value : (value : Option ℤ) → value_of m fact ≡ value → length (values_of m facts) ≤ length facts
      → length (values_of m (fact ∷ facts)) ≤ suc (length facts)
  by_value None is few = rw is (omega (arith, few))
  by_value (Some v) is few = rw is (omega (arith, few))

-- a null is no value more
length-values_of-null : (m : ℕ) (fact : Fact) (facts : List Fact) → value_of m fact ≡ None
    → length (values_of m (fact ∷ facts)) ≡ length (values_of m facts)
length-values_of-null m fact facts null = rw null refl

-- a fact is held where each of its values is
hold_values-all : (facts : ℕ) (bags : List Bag) (values : List (Option ℤ)) → length values ≡ length bags
    → ((m : ℕ) → m < length bags → holds_value facts (bag_at bags m) (value_at values m) ≡ true)
    → hold_values facts bags values ≡ true
hold_values-all facts [] [] width each = refl
hold_values-all facts [] (value ∷ values) width each = absurd (omega (arith, width))
hold_values-all facts (bag ∷ bags) [] width each = absurd (omega (arith, width))
hold_values-all facts (bag ∷ bags) (value ∷ values) width each = both_true (each 0 (omega arith))
    (hold_values-all facts bags values (omega (arith, width)) (λ m inside. each (suc m) (omega (arith, inside))))

-- a fact that is among those of the tally is held
pub holds_fact-IsTallyOf : (facts : List Fact) (fact : Fact) (t : Tally) → IsTallyOf (fact ∷ facts) t
    → length fact.measures ≡ length t.bags → holds_fact t fact.measures ≡ true
holds_fact-IsTallyOf facts fact t is width =
    both_true (lt-ltb 0 t.facts (omega (arith, is.count))) (hold_values-all t.facts t.bags fact.measures width each)
  where
    each : (m : ℕ) → m < length t.bags → holds_value t.facts (bag_at t.bags m) (value_at fact.measures m) ≡ true
    each m inside = by_value (value_at fact.measures m) refl where
      few : value_at fact.measures m ≡ None → size_of (bag_at t.bags m) < t.facts
      few null = omega (
        arith,
        is.count,
        size_of-IsBagOf (values_of m (fact ∷ facts)) (bag_at t.bags m) (is.bags m inside),
        length-values_of m facts,
        length-values_of-null m fact facts null,
      )

      by_value : (value : Option ℤ) → value_at fact.measures m ≡ value
          → holds_value t.facts (bag_at t.bags m) (value_at fact.measures m) ≡ true
      by_value None null = rw null (lt-ltb (size_of (bag_at t.bags m)) t.facts (few null))
      by_value (Some v) some = rw some (lt-ltb 0 (held_of (bag_at t.bags m) v) (omega (
        arith,
        (is.bags m inside).held v,
        count_by-values_of-cons v m fact facts,
        ap (one_of v) some,
        one_at-refl v,
      )))

-- a fact that was added is held, where no bag was larger than there were facts
pub holds_fact-AddsValues : (facts : ℕ) (old new : List Bag) (values : List (Option ℤ)) → AreWithin facts old
    → AddsValues old new values → length values ≡ length old
    → holds_fact (record { facts = facts + 1; bags = new }) values ≡ true
holds_fact-AddsValues facts old new values within adds width = both_true (lt-ltb 0 (facts + 1) (omega arith))
    (hold_values-all (facts + 1) new values (omega (arith, width, adds.same_length)) each)
  where
    each : (m : ℕ) → m < length new → holds_value (facts + 1) (bag_at new m) (value_at values m) ≡ true
    each m inside = by_value (value_at values m) refl where
      few : value_at values m ≡ None → size_of (bag_at new m) < facts + 1
      few null =
          let same = size_of_same (bag_at new m) (bag_at old m)
          (record { held = λ x. omega (arith, (adds.each m).held x, ap (one_of x) null) }) in
          omega (arith, same, within m [] (omega (arith, adds.same_length)))

      by_value : (value : Option ℤ) → value_at values m ≡ value
          → holds_value (facts + 1) (bag_at new m) (value_at values m) ≡ true
      by_value None null = rw null (lt-ltb (size_of (bag_at new m)) (facts + 1) (few null))
      by_value (Some v) some = rw some
          (lt-ltb 0 (held_of (bag_at new m) v) (omega (arith, (adds.each m).held v, ap (one_of v) some, one_at-refl v)))
