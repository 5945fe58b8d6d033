-- Two strictly sorted lists that contain the same are one.
use Rattle.std.proofs.Common.{◌≡◌, List, [], ◌∷◌, Contains, Ordering, Less, Greater, refl, sym, ap, ap₂, ◌∙◌, subst}
use Rattle.std.proofs.Common.{inl}
use Rattle.std.proofs.Common.{inr}
use Rattle.std.specs.List.Sorted.{IsStrictlySortedBy}
use Rattle.std.specs.Cmp.{IsTotalOrder}
use Rattle.std.specs.Ordering.{ordering_reverse}
use Rattle.std.proofs.lemmas.Map.Keys.{sorted_head, sorted_tail}
use Rattle.cube_core.proofs.ListLaws.{AllByRecursion-Contains, Contains-cases, Contains-head, Contains-nil}
use Rattle.cube_core.proofs.ListLaws.{Contains-tail}

-- an element after the head of a strictly sorted list is above it
pub IsStrictlySortedBy-above : {X : Type 0} (c : X → X → Ordering) (x : X) (xs : List X) (y : X)
    → IsStrictlySortedBy c (x ∷ xs) →
    Contains xs y → c x y ≡ Less
IsStrictlySortedBy-above c x xs y sorted h =
    AllByRecursion-Contains (λ z. c x z ≡ Less) xs y (sorted_head c x xs sorted) h

-- no two elements are below each other
pub IsTotalOrder-Less : {X : Type 0} {c : X → X → Ordering} → IsTotalOrder c → (x y : X) → c x y ≡ Less
    → c y x ≡ Less → ⊥
IsTotalOrder-Less {X} {c} o x y h k = let e : Less ≡ Greater = sym h ∙ o.antisymm x y ∙ ap ordering_reverse k in cc

-- the head of a strictly sorted list is not after it
pub IsStrictlySortedBy-head : {X : Type 0} {c : X → X → Ordering} → IsTotalOrder c → (x : X) (xs : List X) →
    IsStrictlySortedBy c (x ∷ xs) → Contains xs x → ⊥
IsStrictlySortedBy-head {X} {c} o x xs sorted h =
    let k = IsStrictlySortedBy-above c x xs x sorted h in
    IsTotalOrder-Less o x x k k

-- two strictly sorted lists that contain the same have the same head
IsStrictlySortedBy-same_head : {X : Type 0} {c : X → X → Ordering} → IsTotalOrder c → (x y : X) (xs ys : List X) →
    IsStrictlySortedBy c (x ∷ xs) → IsStrictlySortedBy c (y ∷ ys) → Contains (y ∷ ys) x → Contains (x ∷ xs) y → x ≡ y
IsStrictlySortedBy-same_head {X} {c} o x y xs ys sorted_x sorted_y h k = elim (Contains-cases y ys x h) [
  | inl same ↦ sym same
  | inr x_after ↦ elim (Contains-cases x xs y k) [
    | inl same ↦ same
    | inr y_after ↦ absurd (IsTotalOrder-Less o x y (IsStrictlySortedBy-above c x xs y sorted_x y_after)
        (IsStrictlySortedBy-above c y ys x sorted_y x_after))
  ]
]

-- what stands after one head stands after the same head of the other list
IsStrictlySortedBy-same_tail : {X : Type 0} {c : X → X → Ordering} → IsTotalOrder c → (x y : X) (xs ys : List X)
    → x ≡ y →
    IsStrictlySortedBy c (x ∷ xs) → ((z : X) → Contains (x ∷ xs) z → Contains (y ∷ ys) z) → (z : X) → Contains xs z →
    Contains ys z
IsStrictlySortedBy-same_tail {X} {c} o x y xs ys same sorted within z h =
    elim (Contains-cases y ys z (within z (Contains-tail x xs z h))) [
      | inl head ↦ absurd (IsStrictlySortedBy-head o x xs sorted (subst (Contains xs) (sym (same ∙ head)) h))
      | inr rest ↦ rest
    ]

-- two strictly sorted lists that contain the same are one
pub IsStrictlySortedBy-unique : {X : Type 0} {c : X → X → Ordering} → IsTotalOrder c → (xs ys : List X)
    → IsStrictlySortedBy c xs →
    IsStrictlySortedBy c ys → ((z : X) → Contains xs z → Contains ys z) → ((z : X) → Contains ys z → Contains xs z) →
    xs ≡ ys
IsStrictlySortedBy-unique o [] [] sorted_x sorted_y to from = refl
IsStrictlySortedBy-unique o [] (y ∷ ys) sorted_x sorted_y to from =
    absurd (Contains-nil y (from y (Contains-head y ys)))
IsStrictlySortedBy-unique o (x ∷ xs) [] sorted_x sorted_y to from = absurd (Contains-nil x (to x (Contains-head x xs)))
IsStrictlySortedBy-unique {X} {c} o (x ∷ xs) (y ∷ ys) sorted_x sorted_y to from =
    let same = IsStrictlySortedBy-same_head o x y xs ys sorted_x sorted_y (to x (Contains-head x xs))
    (from y (Contains-head y ys)) in
    ap₂ (λ z zs. z ∷ zs) same
    (IsStrictlySortedBy-unique o xs ys (sorted_tail c x xs sorted_x) (sorted_tail c y ys sorted_y)
    (IsStrictlySortedBy-same_tail o x y xs ys same sorted_x to)
    (IsStrictlySortedBy-same_tail o y x ys xs (sym same) sorted_y from))
