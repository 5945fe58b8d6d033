-- Values with how often each is held: they are the values in another order, and are determined by them.
use Rattle.std.proofs.Common.{◌≡◌, ◌↔◌, ℕ, ◌+◌, ◌*◌, ◌<◌, ◌<ℤ◌, ℤ, false, cond, List, [], ◌∷◌, length, map, replicate}
use Rattle.std.proofs.Common.{sum_by, Contains, Ordering, Less, Equal, Greater, refl, sym, ap, ap₂, ◌∙◌, subst, inl, inr}
use Rattle.std.proofs.Common.{arith, length-append}
use Rattle.std.specs.Cmp.{int_ranks}
use Rattle.std.specs.List.{AllByRecursion}
use Rattle.std.specs.List.Sorted.{IsStrictlySortedBy}
use Rattle.std.specs.Map.{keys_of}
use Rattle.std.specs.Ordering.{MatchOrdering, int_cmp, int_eq}
use Rattle.std.proofs.lemmas.Bool.Decides.{Decides-int_eq}
use Rattle.std.proofs.lemmas.Int.{ints}
use Rattle.std.proofs.lemmas.List.{length-replicate}
use Rattle.std.proofs.lemmas.Map.Keys.{sorted_head, sorted_tail}
use Rattle.cube_core.specs.Answer.{AreHeld, AreValues, IsAnswer, times_among, values_held}
use Rattle.cube_core.specs.Group.{values_of}
use Rattle.cube_core.specs.Merged.{count_answered}
use Rattle.cube_core.specs.declared.aggregate.Agg.TheVariants as agg
use Rattle.cube_core.specs.declared.aggregate.Answer.{Answer}
use Rattle.cube_core.specs.declared.aggregate.Answer.TheVariants as answer
use Rattle.cube_core.specs.declared.fact.Fact.{Fact}
use Rattle.cube_core.proofs.ListLaws.{AllByRecursion-Contains, Contains-AllByRecursion, Contains-cases, Contains-nil}
use Rattle.cube_core.proofs.ListLaws.{count_by-passed, map-Contains, sum_by-same}
use Rattle.cube_core.proofs.ReorderedLaws.{Reordered, Reordered-refl, none, next, exchange, both}
use Rattle.cube_values.proofs.BagLaws.{held-from_keys, keys-from_held, lookup-positive, one_at-distinct, one_at-refl}
use Rattle.cube_values.specs.Bag.{one_at}
use Rattle.cube_values.proofs.HeldLaws.{Contains-times_among, IsDistinctCount-AreHeld, length-values_held, some_AreHeld}
use Rattle.cube_values.proofs.HeldLaws.{times_among-Contains, times_among-values_held, times_among-values_held_cons}
use Rattle.cube_laws.proofs.HolisticLaws.{IsAnswer-percentile, IsDistinctCount-unique, count-cons}
use Rattle.cube_laws.proofs.RowOrderLaws.{count_by-Reordered, length-Reordered}

-- ---- values that stand equally often
times-cons : (v : ℤ) (vs : List ℤ) (x : ℤ) → times_among (v ∷ vs) x ≡ cond (int_eq x v) 1 0 + times_among vs x
times-cons v vs x = count-cons (int_eq x) v vs

times-own : (v : ℤ) (vs : List ℤ) → times_among (v ∷ vs) v ≡ 1 + times_among vs v
times-own v vs = count_by-passed (int_eq v) v vs ((Decides-int_eq v v).1 refl)

-- a value that is there comes before the others
front-Reordered : (v : ℤ) (values : List ℤ) → Contains values v → (others : List ℤ) × Reordered (v ∷ others) values
front-Reordered v [] among = absurd (Contains-nil v among)
front-Reordered v (w ∷ values) among = elim (Contains-cases w values v among) [
  | inl here ↦ (values, subst (λ x. Reordered (x ∷ values) (w ∷ values)) here (Reordered-refl (w ∷ values)))
  | inr after ↦ let (others, r) = front-Reordered v values after in (w ∷ others, both exchange (next r))
]

-- lists in which each number stands equally often are one in another order
Reordered-from_times : (values others : List ℤ) → ((x : ℤ) → times_among values x ≡ times_among others x)
    → Reordered values others
Reordered-from_times [] [] same = none
Reordered-from_times [] (v ∷ vs) same = absurd (omega (arith, same v, times-own v vs))
Reordered-from_times (v ∷ vs) others same =
    let (rest, r) = front-Reordered v others (Contains-times_among v others (omega (arith, same v, times-own v vs))) in
    both (next (Reordered-from_times vs rest (λ x. omega (
      arith,
      same x,
      times-cons v vs x,
      times-cons v rest x,
      count_by-Reordered (int_eq x) r,
    )))) r

pub AreHeld-order : (values : List ℤ) (held : List (ℤ × ℕ)) → AreHeld values held
    → Reordered (values_held held) values
AreHeld-order values held are = Reordered-from_times (values_held held) values are.same

-- ---- how often a number is held
times-first : (v : ℤ) (n : ℕ) (held : List (ℤ × ℕ))
    → times_among (values_held ((v, n) ∷ held)) v ≡ n + times_among (values_held held) v
times-first v n held =
    omega (arith, times_among-values_held_cons (v, n) held v, ap (λ (k : ℕ). k * n) (one_at-refl v))

-- a number is below each value that is held
IsUnder : ℤ → List (ℤ × ℕ) → Type 0
IsUnder x held = AllByRecursion (λ pair. x <ℤ pair.0) held

int_eq-below : (x y : ℤ) → x <ℤ y → int_eq x y ≡ false
int_eq-below x y below = grind (arith, ints, below)

times-under : (x : ℤ) (held : List (ℤ × ℕ)) → IsUnder x held → times_among (values_held held) x ≡ 0
unfolding IsUnder
times-under x [] under = refl
times-under x ((v, n) ∷ held) under =
    omega (
      arith,
      times_among-values_held_cons (v, n) held x,
      ap (λ (k : ℕ). k * n) (one_at-distinct x v (int_eq-below x v under.0)),
      times-under x held under.1,
    )

IsUnder-below : (x v : ℤ) (held : List (ℤ × ℕ)) → x <ℤ v → IsUnder v held → IsUnder x held
unfolding IsUnder
IsUnder-below x v [] below under = tt
IsUnder-below x v ((w, n) ∷ held) below under =
    (omega (arith, ints, below, under.0), IsUnder-below x v held below under.1)

abbrev pair_cmp : ℤ × ℕ → ℤ × ℕ → Ordering
pair_cmp pair other = int_cmp pair.0 other.0

IsUnder-head : (v : ℤ) (held : List (ℤ × ℕ)) → AllByRecursion (λ pair. int_cmp v pair.0 ≡ Less) held → IsUnder v held
unfolding IsUnder
IsUnder-head v [] all = tt
IsUnder-head v ((w, n) ∷ held) all = (grind (arith, ints, all.0), IsUnder-head v held all.1)

-- the first value is below the others
IsUnder-sorted : (v : ℤ) (n : ℕ) (held : List (ℤ × ℕ)) → IsStrictlySortedBy pair_cmp ((v, n) ∷ held) → IsUnder v held
IsUnder-sorted v n held sorted = IsUnder-head v held (sorted_head pair_cmp (v, n) held sorted)

-- ---- values that are held are determined
abbrev AreEquallyHeld : List (ℤ × ℕ) → List (ℤ × ℕ) → Type 0
AreEquallyHeld held others = (x : ℤ) → times_among (values_held held) x ≡ times_among (values_held others) x

abbrev AllAreHeld : List (ℤ × ℕ) → Type 0
AllAreHeld held = AllByRecursion (λ pair. 0 < pair.1) held

-- no value below the first is held
first-apart : (v w : ℤ) (n k : ℕ) (held others : List (ℤ × ℕ)) → 0 < n → v <ℤ w
    → IsStrictlySortedBy pair_cmp ((w, k) ∷ others) → AreEquallyHeld ((v, n) ∷ held) ((w, k) ∷ others) → ⊥
unfolding IsUnder
first-apart v w n k held others some below sorted same =
    let under : IsUnder v ((w, k) ∷ others) =
    (below, IsUnder-below v w others below (IsUnder-sorted w k others sorted)) in
    omega (arith, some, same v, times-first v n held, times-under v ((w, k) ∷ others) under)

first-ranked : (v w : ℤ) (rank : Ordering) → MatchOrdering rank (v <ℤ w) (v ≡ w) (w <ℤ v) → (v <ℤ w → ⊥)
    → (w <ℤ v → ⊥) → v ≡ w
first-ranked v w Less here below above = absurd (below here)
first-ranked v w Equal here below above = here
first-ranked v w Greater here below above = absurd (above here)

first-same : (v w : ℤ) (n k : ℕ) (held others : List (ℤ × ℕ)) → 0 < n → 0 < k
    → IsStrictlySortedBy pair_cmp ((v, n) ∷ held) → IsStrictlySortedBy pair_cmp ((w, k) ∷ others)
    → AreEquallyHeld ((v, n) ∷ held) ((w, k) ∷ others) → v ≡ w
first-same v w n k held others some some' sorted rising same =
    first-ranked v w (int_cmp v w) (int_ranks v w)
    (λ below. first-apart v w n k held others some below rising same)
    (λ above. first-apart w v k n others held some' above sorted (λ x. sym (same x)))

-- the first value is held as often in both
first-times : (v : ℤ) (n k : ℕ) (held others : List (ℤ × ℕ)) → IsStrictlySortedBy pair_cmp ((v, n) ∷ held)
    → IsStrictlySortedBy pair_cmp ((v, k) ∷ others) → AreEquallyHeld ((v, n) ∷ held) ((v, k) ∷ others) → n ≡ k
first-times v n k held others sorted rising same =
    omega (
      arith,
      same v,
      times-first v n held,
      times-first v k others,
      times-under v held (IsUnder-sorted v n held sorted),
      times-under v others (IsUnder-sorted v k others rising),
    )

-- and so are the others
rest-same : (v : ℤ) (n k : ℕ) (held others : List (ℤ × ℕ)) → n ≡ k
    → AreEquallyHeld ((v, n) ∷ held) ((v, k) ∷ others) → AreEquallyHeld held others
rest-same v n k held others times same x =
    omega (
      arith,
      same x,
      times_among-values_held_cons (v, n) held x,
      subst (λ (i : ℕ). times_among (values_held ((v, k) ∷ others)) x
          ≡ one_at x v * i + times_among (values_held others) x) (sym times)
          (times_among-values_held_cons (v, k) others x),
    )

held-unique : (held others : List (ℤ × ℕ)) → IsStrictlySortedBy pair_cmp held → IsStrictlySortedBy pair_cmp others
    → AllAreHeld held → AllAreHeld others → AreEquallyHeld held others → held ≡ others
held-unique [] [] sorted rising some some' same = refl
held-unique [] ((w, k) ∷ others) sorted rising some some' same =
    absurd (omega (arith, same w, times-first w k others, some'.0))
held-unique ((v, n) ∷ held) [] sorted rising some some' same =
    absurd (omega (arith, same v, times-first v n held, some.0))
held-unique ((v, n) ∷ held) ((w, k) ∷ others) sorted rising some some' same =
    let first : w ≡ v = sym (first-same v w n k held others some.0 some'.0 sorted rising same) in
    let rising' : IsStrictlySortedBy pair_cmp ((v, k) ∷ others) =
    subst (λ x. IsStrictlySortedBy pair_cmp ((x, k) ∷ others)) first rising in
    let alike : AreEquallyHeld ((v, n) ∷ held) ((v, k) ∷ others) =
    subst (λ x. AreEquallyHeld ((v, n) ∷ held) ((x, k) ∷ others)) first same in
    let times : n ≡ k = first-times v n k held others sorted rising' alike in
    ap₂ (λ (pair : ℤ × ℕ) pairs. pair ∷ pairs)
    (ap₂ (λ (x : ℤ) (i : ℕ). let pair : ℤ × ℕ = (x, i) in pair) (sym first) times)
    (held-unique held others (sorted_tail pair_cmp (v, n) held sorted) (sorted_tail pair_cmp (v, k) others rising')
    some.1 some'.1 (rest-same v n k held others times alike))

pub AreHeld-unique : (values : List ℤ) (held others : List (ℤ × ℕ)) → AreHeld values held → AreHeld values others
    → held ≡ others
AreHeld-unique values held others are same =
    held-unique held others are.ascending same.ascending are.some same.some (λ x. are.same x ∙ sym (same.same x))

pub AreValues-unique : (values : List ℤ) (a b : Answer) → AreValues values a → AreValues values b → a ≡ b
AreValues-unique values a b (held, is, are) (others, alike, same) =
    is ∙ ap answer.Values (AreHeld-unique values held others are same) ∙ sym alike

pub AreValues-AreHeld : (values : List ℤ) (held : List (ℤ × ℕ)) → AreValues values (answer.Values held)
    → AreHeld values held
AreValues-AreHeld values held (others, is, are) =
    let same : others ≡ held = cc in
    subst (AreHeld values) same are

-- ---- what they tell
-- the numbers that are held are the values
held-Contains : (values : List ℤ) (held : List (ℤ × ℕ)) → AreHeld values held → (x : ℤ)
    → Contains (keys_of held) x ↔ Contains values x
held-Contains values held are x = (
  λ there. Contains-times_among x values (omega (
    arith,
    are.same x,
    times_among-values_held held x,
    held-from_keys held x (lookup-positive held (some_AreHeld values held are) x) there,
  )),
  λ there. keys-from_held held x
      (omega (arith, are.same x, times_among-values_held held x, times_among-Contains x values there)),
)

-- the pairs are those of the values that they list
pub AreHeld-itself : (values : List ℤ) (held : List (ℤ × ℕ)) → AreHeld values held → AreHeld (values_held held) held
AreHeld-itself values held are = record { ascending = are.ascending; some = are.some; same = λ x. refl }

-- what is said of each value is said of each that is held
pub AreHeld-each : (P : ℤ → Type 0) (values : List ℤ) (held : List (ℤ × ℕ)) → AreHeld values held
    → AllByRecursion P values → AllByRecursion (λ pair. P pair.0) held
AreHeld-each P values held are all =
    Contains-AllByRecursion (λ (pair : ℤ × ℕ). P pair.0) held (λ pair among.
    AllByRecursion-Contains P values pair.0 all ((held-Contains values held are pair.0).0
    (map-Contains (λ (pair : ℤ × ℕ). pair.0) held pair among)))

-- no pair is held where there is no value, and there alone
pub AreHeld-none : (values : List ℤ) (held : List (ℤ × ℕ)) → AreHeld values held → (held ≡ []) ↔ (values ≡ [])
AreHeld-none values held are = (
  λ unheld. no_value values
      (λ x. sym (are.same x) ∙ ap (λ (pairs : List (ℤ × ℕ)). times_among (values_held pairs) x) unheld),
  λ empty. no_pair held are.some (λ x. are.same x ∙ ap (λ (vs : List ℤ). times_among vs x) empty),
) where
  no_value : (vs : List ℤ) → ((x : ℤ) → times_among vs x ≡ 0) → vs ≡ []
  no_value [] never = refl
  no_value (v ∷ vs) never = absurd (omega (arith, never v, times-own v vs))

  no_pair : (pairs : List (ℤ × ℕ)) → AllAreHeld pairs → ((x : ℤ) → times_among (values_held pairs) x ≡ 0) → pairs ≡ []
  no_pair [] some never = refl
  no_pair ((v, n) ∷ pairs) some never = absurd (omega (arith, never v, times-first v n pairs, some.0))

-- none is held more often than all are
pub held-times : (held : List (ℤ × ℕ)) (most : ℕ) → length (values_held held) < most
    → AllByRecursion (λ pair. pair.1 < most) held
held-times [] most few = tt
held-times ((v, n) ∷ held) most few =
    let long : length (values_held ((v, n) ∷ held)) ≡ n + length (values_held held) =
    length-append (replicate n v) (values_held held)
    ∙ ap (λ k. k + length (values_held held)) (length-replicate n v) in
    (omega (arith, few, long), held-times held most (omega (arith, few, long)))

-- ---- of groups of facts
pub IsAnswer-distinct_held : (group : List Fact) (m distinct : ℕ) (held : List (ℤ × ℕ))
    → IsAnswer group (agg.CountDistinct m) (answer.Count distinct)
    → IsAnswer group (agg.Values m) (answer.Values held) → distinct ≡ length held
IsAnswer-distinct_held group m distinct held counted listed =
    ap count_answered (IsDistinctCount-unique (values_of m group) (answer.Count distinct) (answer.Count (length held))
    counted (IsDistinctCount-AreHeld (values_of m group) held (AreValues-AreHeld (values_of m group) held listed)))

-- the values are as many as they are held
pub IsAnswer-count_held : (group : List Fact) (m count : ℕ) (held : List (ℤ × ℕ))
    → IsAnswer group (agg.Count m) (answer.Count count)
    → IsAnswer group (agg.Values m) (answer.Values held) → count ≡ sum_by (λ pair. pair.1) held
IsAnswer-count_held group m count held counted listed =
    let are = AreValues-AreHeld (values_of m group) held listed in
    ap count_answered counted
    ∙ sym (length-Reordered (AreHeld-order (values_of m group) held are))
    ∙ length-values_held held
    ∙ sum_by-same (λ (pair : ℤ × ℕ). 1 * pair.1) (λ pair. pair.1) held (once held)
  where
    once : (pairs : List (ℤ × ℕ)) → AllByRecursion (λ pair. 1 * pair.1 ≡ pair.1) pairs
    once [] = tt
    once (pair ∷ pairs) = (omega arith, once pairs)

pub IsAnswer-values_none : (group : List Fact) (m : ℕ) (a : Answer) → IsAnswer group (agg.Values m) a
    → (a ≡ answer.Values []) ↔ (values_of m group ≡ [])
IsAnswer-values_none group m a (held, is, are) =
    let both = AreHeld-none (values_of m group) held are in (
      λ unheld. both.0 (let same : answer.Values held ≡ answer.Values [] = sym is ∙ unheld in cc),
      λ empty. is ∙ ap answer.Values (both.1 empty),
    )

pub IsAnswer-percentile_held : (group : List Fact) (m units places : ℕ) (value : ℤ) (held : List (ℤ × ℕ))
    → IsAnswer group (agg.PercentileDisc m units places) (answer.Whole value)
    → IsAnswer group (agg.Values m) (answer.Values held) → Contains (map (λ pair. pair.0) held) value
IsAnswer-percentile_held group m units places value held is listed =
    (held-Contains (values_of m group) held (AreValues-AreHeld (values_of m group) held listed) value).1
    (IsAnswer-percentile group m units places value is)
