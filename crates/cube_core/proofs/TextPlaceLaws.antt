-- Lists in two, by places: what stands at them, and what stands beside them.
use Rattle.std.proofs.Common.{◌≡◌, ◌<◌, ◌≤◌, ◌+◌, ◌-◌, ◌==◌, ℕ, suc, Bool, true, false, List, [], ◌∷◌, ◌++◌, length}
use Rattle.std.proofs.Common.{All, subst, refl, sym, ap, ◌∙◌, inl, inr, arith, append_assoc, length-append}
use Rattle.std.specs.Prelude.{⊤, if◌then◌else◌}
use Rattle.std.proofs.lemmas.List.{append-nil}
use Rattle.std.specs.List.Sorted.{IsPermutation, IsStrictlyIncreasing}
use Rattle.std.proofs.lemmas.Bool.{cases_Bool, eqb-true}
use Rattle.std.proofs.lemmas.Bool.Decides.{nat_tests}
use Rattle.std.proofs.lemmas.List.Elements.{All-cons, All-head, All-tail}
use Rattle.std.proofs.lemmas.List.Sorted.{IsPermutation-refl, IsPermutation-cons, IsPermutation-trans}
use Rattle.std.proofs.lemmas.List.Sorted.{IsPermutation-middle, IsPermutation-sym}
use Rattle.cube_core.specs.GroupingSet.{is_among}
use Rattle.cube_core.specs.TextPlaces.{AreTextPlaces, at_places, beside_places}

-- ---- no places
pub at_places-none : {A : Type 0} (first : ℕ) (xs : List A) → at_places [] first xs ≡ []
at_places-none first [] = refl
at_places-none first (x ∷ xs) = at_places-none (first + 1) xs

pub beside_places-none : {A : Type 0} (first : ℕ) (xs : List A) → beside_places [] first xs ≡ xs
beside_places-none first [] = refl
beside_places-none first (x ∷ xs) = ap (λ others. x ∷ others) (beside_places-none (first + 1) xs)

-- ---- one element more
-- an element at a place, and one beside the places
pub at_places-at : {A : Type 0} (places : List ℕ) (first : ℕ) (x : A) (xs : List A) → is_among first places ≡ true
    → at_places places first (x ∷ xs) ≡ x ∷ at_places places (first + 1) xs
at_places-at places first x xs is = rw is refl

pub at_places-beside : {A : Type 0} (places : List ℕ) (first : ℕ) (x : A) (xs : List A) → is_among first places ≡ false
    → at_places places first (x ∷ xs) ≡ at_places places (first + 1) xs
at_places-beside places first x xs is = rw is refl

pub beside_places-at : {A : Type 0} (places : List ℕ) (first : ℕ) (x : A) (xs : List A) → is_among first places ≡ true
    → beside_places places first (x ∷ xs) ≡ beside_places places (first + 1) xs
beside_places-at places first x xs is = rw is refl

pub beside_places-beside : {A : Type 0} (places : List ℕ) (first : ℕ) (x : A) (xs : List A)
    → is_among first places ≡ false → beside_places places first (x ∷ xs) ≡ x ∷ beside_places places (first + 1) xs
beside_places-beside places first x xs is = rw is refl

-- ---- the same elements
-- a list in two has the elements of the list
pub parted-IsPermutation : {A : Type 0} (places : List ℕ) (first : ℕ) (xs : List A)
    → IsPermutation xs (at_places places first xs ++ beside_places places first xs)
parted-IsPermutation places first [] = IsPermutation-refl []
parted-IsPermutation places first (x ∷ xs) =
    let at = at_places places (first + 1) xs in
    let beside = beside_places places (first + 1) xs in
    let others = parted-IsPermutation places (first + 1) xs in
    elim (cases_Bool (is_among first places)) [
      | inl is ↦ rw is (IsPermutation-cons x xs (at ++ beside) others)
      | inr is ↦ rw is (IsPermutation-trans (x ∷ xs) (x ∷ (at ++ beside)) (at ++ x ∷ beside)
          (IsPermutation-cons x xs (at ++ beside) others)
          (IsPermutation-sym (at ++ x ∷ beside) (x ∷ (at ++ beside)) (IsPermutation-middle at x beside)))
    ]

-- as many
pub parted-length : {A : Type 0} (places : List ℕ) (first : ℕ) (xs : List A)
    → length (beside_places places first xs) + length (at_places places first xs) ≡ length xs
parted-length places first [] = refl
parted-length places first (x ∷ xs) = elim (cases_Bool (is_among first places)) [
  | inl is ↦ rw is (omega (arith, parted-length places (first + 1) xs))
  | inr is ↦ rw is (omega (arith, parted-length places (first + 1) xs))
]

-- what all elements have, those beside the places have
pub All-beside_places : {A : Type 0} (P : A → Type 0) (places : List ℕ) (first : ℕ) (xs : List A) → All P xs
    → All P (beside_places places first xs)
All-beside_places P places first [] all = all
All-beside_places P places first (x ∷ xs) all = elim (cases_Bool (is_among first places)) [
  | inl is ↦ rw is (All-beside_places P places (first + 1) xs (All-tail P x xs all))
  | inr is ↦ rw is (All-cons P x (beside_places places (first + 1) xs) (All-head P x xs all)
      (All-beside_places P places (first + 1) xs (All-tail P x xs all)))
]

-- ---- parting a list, element by element
-- so far these stand beside the places, and those at them, and the rest is to come
pub record IsParted {A : Type 0} (places : List ℕ) (xs rest beside at : List A) : Type 0 where
  pub besides : beside ++ beside_places places (length beside + length at) rest ≡ beside_places places 0 xs
  pub ats : at ++ at_places places (length beside + length at) rest ≡ at_places places 0 xs
  pub count : length beside + length at + length rest ≡ length xs

pub IsParted-put : {A : Type 0} (places : List ℕ) (xs rest beside at : List A) (x : A) (is_at : Bool)
    → IsParted places xs (x ∷ rest) beside at → is_at ≡ is_among (length beside + length at) places
    → IsParted places xs rest (if is_at then beside else (beside ++ x ∷ [])) (if is_at then (at ++ x ∷ []) else at)
IsParted-put places xs rest beside at x true parted is =
    let first = length beside + length at in
    let next : length beside + length (at ++ x ∷ []) ≡ first + 1 = omega (arith, length-append at (x ∷ [])) in
    record {
      besides = rw next (ap (λ others. beside ++ others) (sym (beside_places-at places first x rest (sym is)))
          ∙ parted.besides);
      ats = rw next (append_assoc at (x ∷ []) (at_places places (first + 1) rest)
          ∙ ap (λ others. at ++ others) (sym (at_places-at places first x rest (sym is))) ∙ parted.ats);
      count = rw next (omega (arith, parted.count));
    }
IsParted-put places xs rest beside at x false parted is =
    let first = length beside + length at in
    let next : length (beside ++ x ∷ []) + length at ≡ first + 1 = omega (arith, length-append beside (x ∷ [])) in
    record {
      besides = rw next (append_assoc beside (x ∷ []) (beside_places places (first + 1) rest)
          ∙ ap (λ others. beside ++ others) (sym (beside_places-beside places first x rest (sym is)))
          ∙ parted.besides);
      ats = rw next (ap (λ others. at ++ others) (sym (at_places-beside places first x rest (sym is))) ∙ parted.ats);
      count = rw next (omega (arith, parted.count));
    }

-- where nothing is to come, these are the two lists
pub IsParted-over : {A : Type 0} (places : List ℕ) (xs beside at : List A) → IsParted places xs [] beside at
    → (beside ≡ beside_places places 0 xs) × (at ≡ at_places places 0 xs)
IsParted-over places xs beside at parted =
    (sym (append-nil beside) ∙ parted.besides, sym (append-nil at) ∙ parted.ats)

-- ---- as many elements at places as there are places
-- these numbers ascend, and none is below the first
abbrev AreFrom : ℕ → List ℕ → Type 0
AreFrom first [] = ⊤
AreFrom first (place ∷ places) = (first ≤ place) × AreFrom (place + 1) places

increasing-tail : (place : ℕ) (places : List ℕ) → IsStrictlyIncreasing (place ∷ places) → IsStrictlyIncreasing places
increasing-tail place places increasing k inside =
    let next : suc k + 1 ≡ suc (k + 1) = omega arith in
    rw next at (increasing (suc k) (omega (arith, inside)))

AreFrom-increasing : (first place : ℕ) (places : List ℕ) → first ≤ place → IsStrictlyIncreasing (place ∷ places)
    → AreFrom first (place ∷ places)
AreFrom-increasing first place [] above increasing = (above, tt)
AreFrom-increasing first place (next ∷ places) above increasing =
    let rises : place < next = increasing 0 (omega arith) in (
      above,
      AreFrom-increasing (place + 1) next places (omega (arith, rises))
          (increasing-tail place (next ∷ places) increasing),
    )

-- a number below the first is none of them
is_among-below : (number first : ℕ) (places : List ℕ) → number < first → AreFrom first places
    → is_among number places ≡ false
is_among-below number first [] below from = refl
is_among-below number first (place ∷ places) below (above, from) =
    let apart : (place == number) ≡ false = grind (arith, nat_tests) in
    rw apart (is_among-below number (place + 1) places (omega (arith, below, above)) from)

-- a place that went by is looked for no more
at_places-gone : {A : Type 0} (place : ℕ) (places : List ℕ) (first : ℕ) (xs : List A) → place < first
    → at_places (place ∷ places) first xs ≡ at_places places first xs
at_places-gone place places first [] below = refl
at_places-gone place places first (x ∷ xs) below =
    let apart : (place == first) ≡ false = grind (arith, nat_tests) in
    rw (apart, at_places-gone place places (first + 1) xs (omega (arith, below))) refl

at_places-as_many : {A : Type 0} (places : List ℕ) (first after : ℕ) (xs : List A) → first + length xs ≡ after
    → AreFrom first places → All (λ place. place < after) places → length (at_places places first xs) ≡ length places
at_places-as_many [] first after xs ends from below = ap length (at_places-none first xs)
at_places-as_many (place ∷ places) first after [] ends (above, from) below =
    let within : place < after = All-head (λ p. p < after) place places below in
    absurd (omega (arith, within, above, ends))
at_places-as_many (place ∷ places) first after (x ∷ xs) ends (above, from) below =
    let next : first + 1 + length xs ≡ after = omega (arith, ends) in
    elim (cases_Bool (place == first)) [
      | inl is ↦
          let same : place ≡ first = eqb-true place first is in
          let among : is_among first (place ∷ places) ≡ true = rw is refl in
          rw (
            at_places-at (place ∷ places) first x xs among,
            at_places-gone place places (first + 1) xs (omega (arith, same)),
          ) (ap (λ n. suc n) (at_places-as_many places (first + 1) after xs next
          (subst (λ n. AreFrom (n + 1) places) same from) (All-tail (λ p. p < after) place places below)))
      | inr is ↦
          let later : first + 1 ≤ place = grind (arith, nat_tests) in
          let among : is_among first (place ∷ places) ≡ false =
          is_among-below first (first + 1) (place ∷ places) (omega arith) (later, from) in
          rw (at_places-beside (place ∷ places) first x xs among)
          (at_places-as_many (place ∷ places) (first + 1) after xs next (later, from) below)
    ]

pub at_places-length : {A : Type 0} (places : List ℕ) (xs : List A) → AreTextPlaces (length xs) places
    → length (at_places places 0 xs) ≡ length places
at_places-length [] xs are = ap length (at_places-none 0 xs)
at_places-length (place ∷ places) xs are =
    at_places-as_many (place ∷ places) 0 (length xs) xs (omega arith)
    (AreFrom-increasing 0 place places (omega arith) are.ascending) are.of_measures

-- and beside them as many as are left
pub beside_places-length : {A : Type 0} (places : List ℕ) (xs : List A) → AreTextPlaces (length xs) places
    → length (beside_places places 0 xs) ≡ length xs - length places
beside_places-length places xs are = omega (arith, parted-length places 0 xs, at_places-length places xs are)

-- there are no more places than elements
pub text_places-few : {A : Type 0} (places : List ℕ) (xs : List A) → AreTextPlaces (length xs) places
    → length places ≤ length xs
text_places-few places xs are = omega (arith, parted-length places 0 xs, at_places-length places xs are)
