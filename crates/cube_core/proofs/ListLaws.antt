-- Laws of lists that the proofs of several crates stand on:
-- what a list contains, what holds of all its elements, filters and sums.
use Rattle.std.proofs.Common.{◌≡◌, ℕ, suc, ◌+◌, Bool, true, false, cond, List, [], ◌∷◌, ◌++◌, length, map, get_or}
use Rattle.std.proofs.Common.{filter, sum_by, count_by, flat_map, Contains, ◌⊎◌, refl, sym, ap, ap₂, ◌∙◌, subst, inl}
use Rattle.std.proofs.Common.{inr, arith, zero-add, add-one, drop, drop-cons, append_assoc, Option, Some, ◌<◌}
use Rattle.std.specs.List.{AllByRecursion, AllZip, filter_map, list_any, list_all}
use Rattle.std.proofs.lemmas.Bool.{cases_Bool, and_parts, or_left, or_right, or_cases, false≢true}
use Rattle.std.proofs.lemmas.List.Elements.{Contains-get_or, Contains-append_left, Contains-append_right}
use Rattle.std.proofs.lemmas.List.Elements.{Contains-append_cases, Contains-push, Contains-push_cases, All-contains}
use Rattle.std.proofs.lemmas.List.Elements.{All-contains_itself, All-filter, All-from_recursion, recursion_from_All}
use Rattle.std.proofs.lemmas.List.Elements.{filter_passes}
use Rattle.std.proofs.lemmas.List.Sums.{sum_by-cons}

-- ---- what a list contains
-- an empty list contains nothing
pub Contains-nil : {X : Type 0} (x : X) → Contains [] x → ⊥
Contains-nil x among = omega (arith, among.1)

-- a list contains its head
pub Contains-head : {X : Type 0} (x : X) (xs : List X) → Contains (x ∷ xs) x
Contains-head x xs = Contains-append_left (x ∷ []) xs x (Contains-push [] x)

-- a list contains what its tail does
pub Contains-tail : {X : Type 0} (y : X) (xs : List X) (x : X) → Contains xs x → Contains (y ∷ xs) x
Contains-tail y xs x among = Contains-append_right (y ∷ []) xs x among

-- what a list contains is its head, or its tail contains it
pub Contains-cases : {X : Type 0} (y : X) (xs : List X) (x : X) → Contains (y ∷ xs) x → (y ≡ x) ⊎ Contains xs x
Contains-cases y xs x among = elim (Contains-append_cases (y ∷ []) xs x among) [
  | inl one ↦ elim (Contains-push_cases [] y x one) [ inl none ↦ absurd (Contains-nil x none) | inr same ↦ inl same ]
  | inr rest ↦ inr rest
]

-- what f gives of an element is in the list that f gives
pub map-Contains : {X Y : Type 0} (f : X → Y) (xs : List X) (x : X) → Contains xs x → Contains (map f xs) (f x)
map-Contains f [] x among = absurd (Contains-nil x among)
map-Contains f (y ∷ ys) x among = elim (Contains-cases y ys x among) [
  | inl here ↦ subst (Contains (f y ∷ map f ys)) (ap f here) (Contains-head (f y) (map f ys))
  | inr after ↦ Contains-tail (f y) (map f ys) (f x) (map-Contains f ys x after)
]

-- and each element of that list is what f gives of one
pub Contains-map : {X Y : Type 0} (f : X → Y) (xs : List X) (y : Y) → Contains (map f xs) y →
    (x : X) × Contains xs x × (f x ≡ y)
Contains-map f [] y among = absurd (Contains-nil y among)
Contains-map f (x ∷ xs) y among = elim (Contains-cases (f x) (map f xs) y among) [
  | inl here ↦ (x, Contains-head x xs, here)
  | inr after ↦ let rest = Contains-map f xs y after in (rest.0, Contains-tail x xs rest.0 rest.1, rest.2)
]

-- what one of the lists contains, all of them joined do
pub flat_map-Contains : {X Y : Type 0} (f : X → List Y) (xs : List X) (x : X) (y : Y) → Contains xs x
    → Contains (f x) y →
    Contains (flat_map f xs) y
flat_map-Contains f [] x y among h = absurd (Contains-nil x among)
flat_map-Contains f (z ∷ zs) x y among h = elim (Contains-cases z zs x among) [
  | inl here ↦ Contains-append_left (f z) (flat_map f zs) y (subst (λ w. Contains (f w) y) (sym here) h)
  | inr after ↦ Contains-append_right (f z) (flat_map f zs) y (flat_map-Contains f zs x y after h)
]

-- ---- what holds of all elements
-- what holds of each element holds of one that the list contains
pub AllByRecursion-Contains : {X : Type 0} (P : X → Type 0) (xs : List X) (x : X) → AllByRecursion P xs
    → Contains xs x → P x
AllByRecursion-Contains P xs x each among = All-contains P xs x (All-from_recursion P xs each) among

-- what holds of each element that a list contains holds of all its elements
pub Contains-AllByRecursion : {X : Type 0} (P : X → Type 0) (xs : List X) → ((x : X) → Contains xs x → P x) →
    AllByRecursion P xs
Contains-AllByRecursion P xs h = recursion_from_All P xs (λ k d below. h (get_or xs k d) (Contains-get_or xs k d below))

-- where all elements pass, each that the list contains does
pub list_all-Contains : {X : Type 0} (p : X → Bool) (xs : List X) (x : X) → list_all p xs ≡ true → Contains xs x
    → p x ≡ true
list_all-Contains p [] x all among = absurd (Contains-nil x among)
list_all-Contains p (y ∷ ys) x all among = elim (Contains-cases y ys x among) [
  | inl here ↦ ap p (sym here) ∙ (and_parts (p y) (list_all p ys) all).0
  | inr after ↦ list_all-Contains p ys x (and_parts (p y) (list_all p ys) all).1 after
]

-- where a list contains what passes, some element passes
pub Contains-list_any : {X : Type 0} (p : X → Bool) (xs : List X) (x : X) → Contains xs x → p x ≡ true
    → list_any p xs ≡ true
Contains-list_any p [] x among passes = absurd (Contains-nil x among)
Contains-list_any p (y ∷ ys) x among passes = elim (Contains-cases y ys x among) [
  | inl here ↦ or_left (p y) (list_any p ys) (ap p here ∙ passes)
  | inr after ↦ or_right (p y) (list_any p ys) (Contains-list_any p ys x after passes)
]

-- and where some element passes, a list contains one that does
pub list_any-Contains : {X : Type 0} (p : X → Bool) (xs : List X) → list_any p xs ≡ true →
    (x : X) × Contains xs x × (p x ≡ true)
list_any-Contains p [] h = absurd (false≢true h)
list_any-Contains p (y ∷ ys) h = elim (or_cases (p y) (list_any p ys) h) [
  | inl here ↦ (y, Contains-head y ys, here)
  | inr after ↦ let rest = list_any-Contains p ys after in (rest.0, Contains-tail y ys rest.0 rest.1, rest.2)
]

-- lists whose elements are related in turn are as long
pub AllZip-length : {X Y : Type 0} (R : X → Y → Type 0) (xs : List X) (ys : List Y) → AllZip R xs ys
    → length xs ≡ length ys
AllZip-length R [] [] all = refl
AllZip-length R [] (y ∷ ys) all = absurd all
AllZip-length R (x ∷ xs) [] all = absurd all
AllZip-length R (x ∷ xs) (y ∷ ys) all = ap suc (AllZip-length R xs ys all.1)

-- lists whose elements are related in turn, and others, are so when they are joined
pub AllZip-append : {X Y : Type 0} (R : X → Y → Type 0) (xs others : List X) (ys more : List Y) → AllZip R xs ys
    → AllZip R others more → AllZip R (xs ++ others) (ys ++ more)
AllZip-append R [] others [] more all after = after
AllZip-append R [] others (y ∷ ys) more all after = absurd all
AllZip-append R (x ∷ xs) others [] more all after = absurd all
AllZip-append R (x ∷ xs) others (y ∷ ys) more all after = (all.0, AllZip-append R xs others ys more all.1 after)

-- and with one more pair of related elements too
pub AllZip-push : {X Y : Type 0} (R : X → Y → Type 0) (xs : List X) (ys : List Y) (x : X) (y : Y) → AllZip R xs ys
    → R x y →
    AllZip R (xs ++ x ∷ []) (ys ++ y ∷ [])
AllZip-push R xs ys x y all related = AllZip-append R xs (x ∷ []) ys (y ∷ []) all (related, tt)

-- ---- filters
-- a filtered list with one more element, which passes or fails
pub filter-passed : {X : Type 0} (p : X → Bool) (x : X) (xs : List X) → p x ≡ true → filter p (x ∷ xs) ≡ x ∷ filter p xs
filter-passed p x xs passes = ap (λ b. cond b (x ∷ filter p xs) (filter p xs)) passes

pub filter-failed : {X : Type 0} (p : X → Bool) (x : X) (xs : List X) → p x ≡ false → filter p (x ∷ xs) ≡ filter p xs
filter-failed p x xs fails = ap (λ b. cond b (x ∷ filter p xs) (filter p xs)) fails

-- what a list contains and passes stays in the filtered list
pub filter-Contains : {X : Type 0} (p : X → Bool) (xs : List X) (x : X) → Contains xs x → p x ≡ true →
    Contains (filter p xs) x
filter-Contains p [] x among passes = among
filter-Contains p (y ∷ ys) x among passes = elim (Contains-cases y ys x among) [
  | inl here ↦
      subst (λ zs. Contains zs x) (sym (filter-passed p y ys (ap p here ∙ passes)))
      (subst (Contains (y ∷ filter p ys)) here (Contains-head y (filter p ys)))
  | inr after ↦ elim (cases_Bool (p y)) [
    | inl kept ↦
        subst (λ zs. Contains zs x) (sym (filter-passed p y ys kept))
        (Contains-tail y (filter p ys) x (filter-Contains p ys x after passes))
    | inr left_out ↦
        subst (λ zs. Contains zs x) (sym (filter-failed p y ys left_out)) (filter-Contains p ys x after passes)
  ]
]

-- what a filtered list contains, the list does, and it passes
pub Contains-filter : {X : Type 0} (p : X → Bool) (xs : List X) (x : X) → Contains (filter p xs) x →
    Contains xs x × (p x ≡ true)
Contains-filter p xs x among = (
  All-contains (Contains xs) (filter p xs) x (All-filter p (Contains xs) xs (All-contains_itself xs)) among,
  All-contains (λ y. p y ≡ true) (filter p xs) x (filter_passes p xs) among,
)

-- where each element passes, a filter keeps them
pub filter-all : {X : Type 0} (p : X → Bool) (xs : List X) → AllByRecursion (λ x. p x ≡ true) xs → filter p xs ≡ xs
filter-all p [] h = refl
filter-all p (x ∷ xs) h = filter-passed p x xs h.0 ∙ ap (λ ys. x ∷ ys) (filter-all p xs h.1)

-- a test of what f gives filters the list that f gives
pub map-filter : {X Y : Type 0} (f : X → Y) (p : Y → Bool) (xs : List X) →
    map f (filter (λ x. p (f x)) xs) ≡ filter p (map f xs)
map-filter f p [] = refl
map-filter f p (x ∷ xs) = elim (cases_Bool (p (f x))) [
  | inl passes ↦ rw passes (ap (λ ys. f x ∷ ys) (map-filter f p xs))
  | inr fails ↦ rw fails (map-filter f p xs)
]

-- ---- sums and counts
-- a sum over what f gives
pub sum_by-map : {X Y : Type 0} (f : X → Y) (g : Y → ℕ) (xs : List X) → sum_by g (map f xs) ≡ sum_by (λ x. g (f x)) xs
sum_by-map f g [] = refl
sum_by-map f g (x ∷ xs) =
    sum_by-cons g (f x) (map f xs) ∙ ap (λ n. g (f x) + n) (sum_by-map f g xs) ∙ sym (sum_by-cons (λ y. g (f y)) x xs)

-- sums of the same terms
pub sum_by-same : {X : Type 0} (f g : X → ℕ) (xs : List X) → AllByRecursion (λ x. f x ≡ g x) xs
    → sum_by f xs ≡ sum_by g xs
sum_by-same f g [] same = refl
sum_by-same f g (x ∷ xs) same =
    sum_by-cons f x xs ∙ ap₂ (λ m n. m + n) same.0 (sum_by-same f g xs same.1) ∙ sym (sum_by-cons g x xs)

-- a count of one more element, which passes or fails
pub count_by-passed : {X : Type 0} (p : X → Bool) (x : X) (xs : List X) → p x ≡ true
    → count_by p (x ∷ xs) ≡ 1 + count_by p xs
count_by-passed p x xs passes = sum_by-cons (λ y. cond (p y) 1 0) x xs ∙ ap (λ b. cond b 1 0 + count_by p xs) passes

pub count_by-failed : {X : Type 0} (p : X → Bool) (x : X) (xs : List X) → p x ≡ false
    → count_by p (x ∷ xs) ≡ count_by p xs
count_by-failed p x xs fails =
    sum_by-cons (λ y. cond (p y) 1 0) x xs ∙ ap (λ b. cond b 1 0 + count_by p xs) fails ∙ zero-add (count_by p xs)

-- where no element passes, the count is 0
pub count_by-none : {X : Type 0} (p : X → Bool) (xs : List X) → ((x : X) → Contains xs x → p x ≡ false)
    → count_by p xs ≡ 0
count_by-none p [] fails = refl
count_by-none p (x ∷ xs) fails =
    count_by-failed p x xs (fails x (Contains-head x xs))
    ∙ count_by-none p xs (λ y among. fails y (Contains-tail x xs y among))

-- ---- what a loop has found, and what is to come
-- what is found so far, and what is to come, with one more item
pub filter_map-more : {X Y : Type 0} (h : X → Option Y) (xs : List X) (i : ℕ) (d : X) (y : Y) (found : List Y)
    → i < length xs → Some y ≡ h (get_or xs i d)
    → (found ++ y ∷ []) ++ filter_map h (drop (i + 1) xs) ≡ found ++ filter_map h (drop i xs)
filter_map-more h xs i d y found inside is =
    rw (add-one, drop-cons xs i d, ← is) (append_assoc found (y ∷ []) (filter_map h (drop (suc i) xs)))

-- where an item passes a test, all from it on do where all after it do
pub list_all-more : {X : Type 0} (test : X → Bool) (xs : List X) (i : ℕ) (d : X) → i < length xs
    → test (get_or xs i d) ≡ true
    → list_all test (drop (i + 1) xs) ≡ list_all test (drop i xs)
list_all-more test xs i d inside passes = rw (add-one, drop-cons xs i d, passes) refl
