-- Numbers in place of texts: which tell texts apart, and that as many numbers differ as texts do.
use Rattle.std.proofs.Common.{◌≡◌, ◌+◌, ◌*◌, ◌^◌, ℕ, zero, suc, ℤ, pos, Bool, cond, List, [], ◌∷◌, length, map}
use Rattle.std.proofs.Common.{Contains, ◌↔◌, ◌⊎◌, Decides, refl, sym, ap, ap₂, ◌∙◌, subst, arith, inl, inr}
use Rattle.std.specs.List.{AllByRecursion}
use Rattle.std.specs.Str.{bytes_eq}
use Rattle.std.specs.Set.{distinct_count, is_member}
use Rattle.std.specs.BTreeSet.{insert_key}
use Rattle.std.specs.Cmp.{int_ranks, ranked_equal}
use Rattle.std.specs.List.Sorted.{IsStrictlySortedBy}
use Rattle.std.specs.Ordering.{eq_by_cmp, int_cmp, is_eq, match_ordering, ordering_reverse}
use Rattle.std.specs.declared.cmp.Ordering.{Ordering}
use Rattle.std.specs.declared.cmp.Ordering.TheVariants.{Less, Equal, Greater}
use Rattle.std.proofs.Math.Nat.{pow-succ', one-le-pow}
use Rattle.std.proofs.lemmas.Bool.{cases_Bool}
use Rattle.std.proofs.lemmas.Bool.Decides.{same_from_decides}
use Rattle.std.proofs.lemmas.Cmp.{eq_by_cmp_equiv, int_cmp_total}
use Rattle.std.proofs.lemmas.Map.Keys.{IsDistinct-from_sorted}
use Rattle.std.proofs.lemmas.Map.Made.{is_member-Decides, length-from_keys}
use Rattle.std.proofs.lemmas.Slice.Eq.{bytes_eq-Decides}
use Rattle.cube_core.specs.Answer.{IsDistinctCount}
use Rattle.cube_core.specs.TextPlaces.{text_number, TellsApart}
use Rattle.cube_core.specs.declared.aggregate.Answer.{Answer}
use Rattle.cube_core.specs.declared.aggregate.Answer.TheVariants as answer
use Rattle.cube_core.proofs.ListLaws.{AllByRecursion-Contains, Contains-AllByRecursion, Contains-cases, Contains-head}
use Rattle.cube_core.proofs.ListLaws.{Contains-map, Contains-tail, map-Contains}

-- ---- the number of a text
-- a power of 2 and an odd number are known by their product
odd_times_power-same : (a b m n : ℕ) → 2 ^ a * (2 * m + 1) ≡ 2 ^ b * (2 * n + 1) → (a ≡ b) × (m ≡ n)
odd_times_power-same zero zero m n is = (refl, omega arith)
odd_times_power-same zero (suc b) m n is = let product = rw (pow-succ' 2 b) at is in absurd (omega arith)
odd_times_power-same (suc a) zero m n is = let product = rw (pow-succ' 2 a) at is in absurd (omega arith)
odd_times_power-same (suc a) (suc b) m n is =
    let product = rw (pow-succ' 2 a, pow-succ' 2 b) at is in
    let others = odd_times_power-same a b m n (omega arith) in (ap suc others.0, others.1)

-- two texts with one number are the same text
pub text_number-injective : (a b : List ℕ) → text_number a ≡ text_number b → a ≡ b
text_number-injective [] [] is = refl
text_number-injective [] (y ∷ ys) is = absurd (omega (arith, one-le-pow y 2 (omega arith)))
text_number-injective (x ∷ xs) [] is = absurd (omega (arith, one-le-pow x 2 (omega arith)))
text_number-injective (x ∷ xs) (y ∷ ys) is =
    let parts = odd_times_power-same x y (text_number xs) (text_number ys) is in
    ap₂ (λ byte text. byte ∷ text) parts.0 (text_number-injective xs ys parts.1)

-- so these numbers tell any texts apart
pub text_number-TellsApart : (texts : List (List ℕ)) → TellsApart (λ text. pos (text_number text)) texts
text_number-TellsApart texts a b among_a among_b is = text_number-injective a b (cc)

-- ---- how many numbers differ
-- whether two numbers are one
same_number-Decides : (x y : ℤ) → Decides (eq_by_cmp int_cmp x y) (x ≡ y)
same_number-Decides x y = ranked_equal x y (int_cmp x y) (int_ranks x y)

-- with one key in front there is one more, unless it is among the others
distinct_count-cons : {K : Type 0} (eq : K → K → Bool) (x : K) (xs : List K)
    → distinct_count eq (x ∷ xs) ≡ cond (is_member eq xs x) (distinct_count eq xs) (suc (distinct_count eq xs))
distinct_count-cons eq x xs = elim (cases_Bool (is_member eq xs x)) [
  | inl among ↦ rw among refl
  | inr new ↦ rw new refl
]

-- texts that numbers tell apart have as many different numbers as there are different texts
distinct_count-numbered : (number : List ℕ → ℤ) (texts : List (List ℕ)) → TellsApart number texts
    → distinct_count (eq_by_cmp int_cmp) (map number texts) ≡ distinct_count bytes_eq texts
distinct_count-numbered number [] apart = refl
distinct_count-numbered number (text ∷ texts) apart =
    let among : is_member (eq_by_cmp int_cmp) (map number texts) (number text) ≡ is_member bytes_eq texts text =
    same_from_decides _ _ by_number (is_member-Decides bytes_eq-Decides texts text) in
    let others = distinct_count-numbered number texts
    (λ a b in_a in_b. apart a b (Contains-tail text texts a in_a) (Contains-tail text texts b in_b)) in
    distinct_count-cons (eq_by_cmp int_cmp) (number text) (map number texts)
    ∙ ap₂ (λ (is : Bool) (n : ℕ). cond is n (suc n)) among others
    ∙ sym (distinct_count-cons bytes_eq text texts)
  where
    decided : Decides (is_member (eq_by_cmp int_cmp) (map number texts) (number text))
        (Contains (map number texts) (number text))
    decided = is_member-Decides same_number-Decides (map number texts) (number text)

    found : Contains (map number texts) (number text) → Contains texts text
    found there = let (other, among, is) = Contains-map number texts (number text) there in
        subst (Contains texts)
        (apart other text (Contains-tail text texts other among) (Contains-head text texts) is) among

    by_number : Decides (is_member (eq_by_cmp int_cmp) (map number texts) (number text)) (Contains texts text)
    by_number = (λ is. found (decided.0 is), λ there. decided.1 (map-Contains number texts text there))

-- ---- numbers in ascending order
-- numbers in ascending order, each once
abbrev ascending : List ℤ → List ℤ
ascending [] = []
ascending (x ∷ xs) = insert_key int_cmp (ascending xs) x

-- what a list with one more in front contains
Contains-cons : (x : ℤ) (xs : List ℤ) (y : ℤ) → Contains (x ∷ xs) y ↔ ((x ≡ y) ⊎ Contains xs y)
Contains-cons x xs y = (
  Contains-cases x xs y,
  λ either. elim either [
    | inl is ↦ subst (Contains (x ∷ xs)) is (Contains-head x xs)
    | inr there ↦ Contains-tail x xs y there
  ],
)

-- a number put at its place is there, and nothing else comes
put-Contains : (z : ℤ) (zs placed : List ℤ) (x y : ℤ) (place : Ordering) → int_cmp x z ≡ place
    → (Contains placed y ↔ ((x ≡ y) ⊎ Contains zs y))
    → Contains (match_ordering place (x ∷ z ∷ zs) (z ∷ zs) (z ∷ placed)) y ↔ ((x ≡ y) ⊎ Contains (z ∷ zs) y)
put-Contains z zs placed x y Less is others = Contains-cons x (z ∷ zs) y
put-Contains z zs placed x y Equal is others = (
  λ there. inr there,
  λ either. elim either [
    | inl same ↦ subst (Contains (z ∷ zs))
        (sym ((same_number-Decides x z).0 (ap is_eq is)) ∙ same) (Contains-head z zs)
    | inr there ↦ there
  ],
)
put-Contains z zs placed x y Greater is others = (
  λ there. elim (Contains-cases z placed y there) [
    | inl head ↦ inr (subst (Contains (z ∷ zs)) head (Contains-head z zs))
    | inr after ↦ elim (others.0 after) [
      | inl same ↦ inl same
      | inr among ↦ inr (Contains-tail z zs y among)
    ]
  ],
  λ either. elim either [
    | inl same ↦ Contains-tail z placed y (others.1 (inl same))
    | inr there ↦ elim (Contains-cases z zs y there) [
      | inl head ↦ subst (Contains (z ∷ placed)) head (Contains-head z placed)
      | inr among ↦ Contains-tail z placed y (others.1 (inr among))
    ]
  ],
)

insert_key-Contains : (xs : List ℤ) (x y : ℤ) → Contains (insert_key int_cmp xs x) y ↔ ((x ≡ y) ⊎ Contains xs y)
insert_key-Contains [] x y = Contains-cons x [] y
insert_key-Contains (z ∷ zs) x y =
    put-Contains z zs (insert_key int_cmp zs x) x y (int_cmp x z) refl (insert_key-Contains zs x y)

-- and the numbers still rise
put-sorted : (z : ℤ) (zs : List ℤ) (x : ℤ) (place : Ordering) → int_cmp x z ≡ place
    → IsStrictlySortedBy int_cmp (z ∷ zs) → IsStrictlySortedBy int_cmp (insert_key int_cmp zs x)
    → IsStrictlySortedBy int_cmp (match_ordering place (x ∷ z ∷ zs) (z ∷ zs) (z ∷ insert_key int_cmp zs x))
unfolding IsStrictlySortedBy
put-sorted z zs x Less is (above, sorted) placed =
    let each : AllByRecursion (λ w. int_cmp x w ≡ Less) zs =
    Contains-AllByRecursion (λ w. int_cmp x w ≡ Less) zs (λ w among.
    int_cmp_total.trans x z w is (AllByRecursion-Contains (λ v. int_cmp z v ≡ Less) zs w above among)) in
    ((is, each), (above, sorted))
put-sorted z zs x Equal is sorted placed = sorted
put-sorted z zs x Greater is (above, sorted) placed =
    let each : AllByRecursion (λ w. int_cmp z w ≡ Less) (insert_key int_cmp zs x) =
    Contains-AllByRecursion (λ w. int_cmp z w ≡ Less) (insert_key int_cmp zs x) (λ w among.
    elim ((insert_key-Contains zs x w).0 among) [
      | inl same ↦ subst (λ v. int_cmp z v ≡ Less) same (int_cmp_total.antisymm z x ∙ ap ordering_reverse is)
      | inr there ↦ AllByRecursion-Contains (λ v. int_cmp z v ≡ Less) zs w above there
    ]) in
    (each, placed)

insert_key-sorted : (xs : List ℤ) (x : ℤ) → IsStrictlySortedBy int_cmp xs
    → IsStrictlySortedBy int_cmp (insert_key int_cmp xs x)
unfolding IsStrictlySortedBy
insert_key-sorted [] x sorted = (tt, tt)
insert_key-sorted (z ∷ zs) x (above, sorted) =
    put-sorted z zs x (int_cmp x z) refl (above, sorted) (insert_key-sorted zs x sorted)

-- these are the numbers, and they rise
ascending-Contains : (xs : List ℤ) (y : ℤ) → Contains (ascending xs) y ↔ Contains xs y
ascending-Contains [] y = (λ there. there, λ there. there)
ascending-Contains (x ∷ xs) y = (
  λ there. (Contains-cons x xs y).1 (elim ((insert_key-Contains (ascending xs) x y).0 there) [
    | inl same ↦ inl same
    | inr among ↦ inr ((ascending-Contains xs y).0 among)
  ]),
  λ there. (insert_key-Contains (ascending xs) x y).1 (elim ((Contains-cons x xs y).0 there) [
    | inl same ↦ inl same
    | inr among ↦ inr ((ascending-Contains xs y).1 among)
  ]),
)

ascending-sorted : (xs : List ℤ) → IsStrictlySortedBy int_cmp (ascending xs)
unfolding IsStrictlySortedBy
ascending-sorted [] = tt
ascending-sorted (x ∷ xs) = insert_key-sorted (ascending xs) x (ascending-sorted xs)

-- ---- the distinct count
-- numbers that rise and are those of a list are as many as differ in it
length-distinct : (numbers values : List ℤ) → IsStrictlySortedBy int_cmp numbers
    → ((x : ℤ) → Contains numbers x ↔ Contains values x)
    → length numbers ≡ distinct_count (eq_by_cmp int_cmp) values
length-distinct numbers values sorted same =
    length-from_keys (eq_by_cmp_equiv int_cmp_total) numbers values (IsDistinct-from_sorted int_cmp numbers sorted)
    (λ x. same_from_decides _ _ (members numbers x)
    ((λ is. (same x).1 ((members values x).0 is)), (λ there. (members values x).1 ((same x).0 there))))
  where
    members : (xs : List ℤ) (x : ℤ) → Decides (is_member (eq_by_cmp int_cmp) xs x) (Contains xs x)
    members xs x = is_member-Decides same_number-Decides xs x

-- a distinct count is how many of the values differ
pub IsDistinctCount-is : (values : List ℤ) (a : Answer) → IsDistinctCount values a
    → a ≡ answer.Count (distinct_count (eq_by_cmp int_cmp) values)
IsDistinctCount-is values a (numbers, sorted, same, is) =
    is ∙ ap answer.Count (length-distinct numbers values sorted same)

-- and that many is a distinct count of them
pub IsDistinctCount-made : (values : List ℤ)
    → IsDistinctCount values (answer.Count (distinct_count (eq_by_cmp int_cmp) values))
IsDistinctCount-made values = (
  ascending values,
  ascending-sorted values,
  ascending-Contains values,
  ap answer.Count
      (sym (length-distinct (ascending values) values (ascending-sorted values) (ascending-Contains values))),
)

-- the distinct count is the same by any numbers that tell the texts apart
pub IsDistinctCount-numbered : (number other : List ℕ → ℤ) (texts : List (List ℕ)) (a : Answer)
    → TellsApart number texts → TellsApart other texts → IsDistinctCount (map number texts) a
    → IsDistinctCount (map other texts) a
IsDistinctCount-numbered number other texts a apart others is =
    let as_many : distinct_count (eq_by_cmp int_cmp) (map other texts)
    ≡ distinct_count (eq_by_cmp int_cmp) (map number texts) =
    distinct_count-numbered other texts others ∙ sym (distinct_count-numbered number texts apart) in
    subst (IsDistinctCount (map other texts))
    (ap answer.Count as_many ∙ sym (IsDistinctCount-is (map number texts) a is))
    (IsDistinctCount-made (map other texts))
