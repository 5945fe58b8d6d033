-- Lists in another order, by steps that exchange neighbours.
use Rattle.std.proofs.Common.{ℕ, zero, suc, ◌<◌, Bool, true, false, cond, List, [], ◌∷◌, length, get_or, set, filter}
use Rattle.std.proofs.Common.{IsPermutation, arith, swap}
use Rattle.std.proofs.lemmas.List.Sorted.{IsPermutation-keeps, IsPermutation-refl, IsPermutation-cons}
use Rattle.std.proofs.lemmas.List.Sorted.{IsPermutation-trans, IsPermutation-middle}

-- one list is the other in another order, by steps that exchange neighbours
pub data Reordered {X : Type 0} : List X → List X → Type 0 where
  none : Reordered [] []
  next : {x : X} {xs ys : List X} → Reordered xs ys → Reordered (x ∷ xs) (x ∷ ys)
  exchange : {x y : X} {xs : List X} → Reordered (x ∷ y ∷ xs) (y ∷ x ∷ xs)
  both : {xs ys zs : List X} → Reordered xs ys → Reordered ys zs → Reordered xs zs

-- a list is itself in an order
pub Reordered-refl : {X : Type 0} (xs : List X) → Reordered xs xs
Reordered-refl [] = none
Reordered-refl (x ∷ xs) = next (Reordered-refl xs)

-- an element from further back and the one before the list change places
Reordered-set : {X : Type 0} (x : X) (xs : List X) (j : ℕ) (d : X) → j < length xs →
    Reordered (x ∷ xs) (get_or xs j d ∷ set xs j x)
Reordered-set x [] j d h = absurd (omega arith)
Reordered-set x (y ∷ ys) zero d h = exchange
Reordered-set x (y ∷ ys) (suc j) d h = both exchange (both (next (Reordered-set x ys j d (omega arith))) exchange)

-- two elements change places
Reordered-set_both : {X : Type 0} (xs : List X) (i j : ℕ) (d : X) → i < length xs → j < length xs →
    Reordered xs (set (set xs i (get_or xs j d)) j (get_or xs i d))
Reordered-set_both [] i j d h k = absurd (omega arith)
Reordered-set_both (x ∷ xs) zero zero d h k = Reordered-refl (x ∷ xs)
Reordered-set_both (x ∷ xs) zero (suc j) d h k = Reordered-set x xs j d (omega arith)
Reordered-set_both (x ∷ xs) (suc i) zero d h k = Reordered-set x xs i d (omega arith)
Reordered-set_both (x ∷ xs) (suc i) (suc j) d h k = next (Reordered-set_both xs i j d (omega arith) (omega arith))

Reordered-swap : {X : Type 0} (xs : List X) (i j : ℕ) → i < length xs → j < length xs → Reordered xs (swap xs i j)
Reordered-swap [] i j h k = none
Reordered-swap (x ∷ xs) i j h k = Reordered-set_both (x ∷ xs) i j x h k

-- the steps lead back too
pub Reordered-sym : {X : Type 0} {xs ys : List X} → Reordered xs ys → Reordered ys xs
Reordered-sym none = none
Reordered-sym (next r) = next (Reordered-sym r)
Reordered-sym exchange = exchange
Reordered-sym (both r t) = both (Reordered-sym t) (Reordered-sym r)

-- a permutation is a list in another order, by such steps
pub IsPermutation-Reordered : {X : Type 0} (xs ys : List X) → IsPermutation xs ys → Reordered xs ys
IsPermutation-Reordered xs ys h =
    IsPermutation-keeps xs (Reordered xs) (Reordered-refl xs)
    (λ l i j below_i below_j so_far. both so_far (Reordered-swap l i j below_i below_j)) ys h

-- and such steps make a permutation
pub Reordered-IsPermutation : {X : Type 0} {xs ys : List X} → Reordered xs ys → IsPermutation xs ys
Reordered-IsPermutation none = IsPermutation-refl []
Reordered-IsPermutation (next {x} {xs} {ys} r) = IsPermutation-cons x xs ys (Reordered-IsPermutation r)
Reordered-IsPermutation (exchange {x} {y} {xs}) = IsPermutation-middle (x ∷ []) y xs
Reordered-IsPermutation (both {xs} {ys} {zs} r t) =
    IsPermutation-trans xs ys zs (Reordered-IsPermutation r) (Reordered-IsPermutation t)

-- an element that is kept or left out in both lists
Reordered-cond : {X : Type 0} (b : Bool) (x : X) (xs ys : List X) → Reordered xs ys →
    Reordered (cond b (x ∷ xs) xs) (cond b (x ∷ ys) ys)
Reordered-cond true x xs ys r = next r
Reordered-cond false x xs ys r = r

Reordered-cond_both : {X : Type 0} (b c : Bool) (x y : X) (xs : List X) →
    Reordered (cond b (x ∷ cond c (y ∷ xs) xs) (cond c (y ∷ xs) xs))
    (cond c (y ∷ cond b (x ∷ xs) xs) (cond b (x ∷ xs) xs))
Reordered-cond_both true true x y xs = exchange
Reordered-cond_both true false x y xs = Reordered-refl (x ∷ xs)
Reordered-cond_both false true x y xs = Reordered-refl (y ∷ xs)
Reordered-cond_both false false x y xs = Reordered-refl xs

-- what passes a test is the same up to order
pub filter-Reordered : {X : Type 0} (p : X → Bool) {xs ys : List X} → Reordered xs ys →
    Reordered (filter p xs) (filter p ys)
filter-Reordered p none = none
filter-Reordered p (next {x} {xs} {ys} r) = Reordered-cond (p x) x (filter p xs) (filter p ys) (filter-Reordered p r)
filter-Reordered p (exchange {x} {y} {xs}) = Reordered-cond_both (p x) (p y) x y (filter p xs)
filter-Reordered p (both r t) = both (filter-Reordered p r) (filter-Reordered p t)

-- so what passes a test of a permutation is a permutation of what passes it
pub filter-IsPermutation : {X : Type 0} (p : X → Bool) (xs ys : List X) → IsPermutation xs ys
    → IsPermutation (filter p xs) (filter p ys)
filter-IsPermutation p xs ys same = Reordered-IsPermutation (filter-Reordered p (IsPermutation-Reordered xs ys same))
