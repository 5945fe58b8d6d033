-- Lists that are changed place by place.
use Rattle.std.proofs.Common.{◌≡◌, ◌<◌, ◌+◌, ◌++◌, ℕ, zero, suc, List, [], ◌∷◌, length, take}
use Rattle.std.proofs.Common.{get_or, set, map, refl}
use Rattle.std.proofs.Common.{ap, arith, ◌∙◌, ◌⊎◌}
use Rattle.std.proofs.lemmas.Grind.{common_steps}
use Rattle.std.proofs.lemmas.List.{get_or_append_left, length-append}
use Rattle.std.proofs.Math.Seq.{get_or-append_seam, take-append_seam}
use Rattle.std.specs.List.{All, AllZip}

-- the first places changed by f, the others as they were
abbrev pub first_mapped : {A : Type 0} → (A → A) → ℕ → List A → List A
first_mapped f zero xs = xs
first_mapped f (suc n) [] = []
first_mapped f (suc n) (x ∷ xs) = f x ∷ first_mapped f n xs

first_mapped-next : {A : Type 0} (f : A → A) (n : ℕ) (xs : List A) (d : A) → n < length xs
    → get_or (first_mapped f n xs) n d ≡ get_or xs n d
first_mapped-next f zero xs d below = refl
first_mapped-next f (suc n) [] d below = refl
first_mapped-next f (suc n) (x ∷ xs) d below = first_mapped-next f n xs d (omega arith)

set-first_mapped : {A : Type 0} (f : A → A) (n : ℕ) (xs : List A) (d y : A) → n < length xs → y ≡ f (get_or xs n d)
    → set (first_mapped f n xs) n y ≡ first_mapped f (suc n) xs
set-first_mapped f zero [] d y below is = absurd (omega arith)
set-first_mapped f zero (x ∷ xs) d y below is = ap (λ z. z ∷ xs) is
set-first_mapped f (suc n) [] d y below is = absurd (omega arith)
set-first_mapped f (suc n) (x ∷ xs) d y below is = ap (λ ys. f x ∷ ys) (set-first_mapped f n xs d y (omega arith) is)

pub length-first_mapped : {A : Type 0} (f : A → A) (n : ℕ) (xs : List A) → length (first_mapped f n xs) ≡ length xs
length-first_mapped f zero xs = refl
length-first_mapped f (suc n) [] = refl
length-first_mapped f (suc n) (x ∷ xs) = ap suc (length-first_mapped f n xs)

-- the next place is changed
pub first_mapped-more : {A : Type 0} (f : A → A) (n : ℕ) (xs now : List A) (d y : A) → now ≡ first_mapped f n xs
    → n < length now → y ≡ f (get_or now n d) → set now n y ≡ first_mapped f (n + 1) xs
first_mapped-more f n xs now d y are below is =
    let within : n < length xs = omega (arith, below, ap length are, length-first_mapped f n xs) in
    let here : get_or now n d ≡ get_or xs n d = ap (λ ys. get_or ys n d) are ∙ first_mapped-next f n xs d within in
    let next : suc n ≡ n + 1 = omega arith in
    ap (λ ys. set ys n y) are ∙ set-first_mapped f n xs d y within (is ∙ ap f here) ∙ ap (λ m. first_mapped f m xs) next

-- the next place is changed where it lies
pub first_mapped-set : {A : Type 0} (f : A → A) (n : ℕ) (xs now next : List A) → now ≡ first_mapped f n xs
    → n < length now
    → ((d : A) → next ≡ set now n (f (get_or now n d))) → next ≡ first_mapped f (n + 1) xs
first_mapped-set f n xs [] next are below is = absurd (omega (arith, below))
first_mapped-set f n xs (d ∷ now) next are below is =
    is d ∙ first_mapped-more f n xs (d ∷ now) d (f (get_or (d ∷ now) n d)) are below refl

-- all places are changed
pub first_mapped-all : {A : Type 0} (f : A → A) (n : ℕ) (xs : List A) → n ≡ length xs → first_mapped f n xs ≡ map f xs
first_mapped-all f zero [] all = refl
first_mapped-all f zero (x ∷ xs) all = absurd (omega (arith, all))
first_mapped-all f (suc n) [] all = refl
first_mapped-all f (suc n) (x ∷ xs) all = ap (λ ys. f x ∷ ys) (first_mapped-all f n xs (omega (arith, all)))

-- what holds of all of a list holds of its front
pub All-append_front : {A : Type 0} (xs ys : List A) (P : A → Type 0) → All P (xs ++ ys) → All P xs
All-append_front xs ys P all k d below =
    let further : k < length (xs ++ ys) = grind (arith, common_steps, below) in
    rw (get_or_append_left xs ys d k below) at (all k d further)

-- and of its last
pub All-append_last : {A : Type 0} (P : A → Type 0) (xs : List A) (x : A) → All P (xs ++ x ∷ []) → P x
All-append_last P xs x all =
    let further : length xs < length (xs ++ x ∷ []) = grind (arith, common_steps) in
    rw (get_or-append_seam xs x [] x) at (all (length xs) x further)

pub AllZip-nil : {A B : Type 0} (R : A → B → Type 0) (xs : List A) (ys : List B) → length xs ≡ 0 → length ys ≡ 0
    → AllZip R xs ys
AllZip-nil R [] [] a b = record {}
AllZip-nil R [] (y ∷ ys) a b = absurd (omega (arith, b))
AllZip-nil R (x ∷ xs) ys a b = absurd (omega (arith, a))

-- what a lent slice wrote back into a list of its length
pub take-written_back : {A : Type 0} (xs ys : List A) (n : _) → length xs ≡ n → take n (xs ++ ys) ≡ xs
take-written_back xs ys n e = rw (← e) (take-append_seam xs ys)

-- how many are left of a list whose last was taken
pub length-last : {A : Type 0} (all rest : List A) (last : A) → all ≡ rest ++ last ∷ [] → length all ≡ length rest + 1
length-last all rest last split = ap length split ∙ length-append rest (last ∷ [])

-- ---- a list with one element more
pub lt-cases : (i n : ℕ) → i < n + 1 → (i < n) ⊎ (i ≡ n)
lt-cases i n below = grind arith

pub get_or-last : {A : Type 0} (xs : List A) (x d : A) (i : ℕ) → i ≡ length xs → get_or (xs ++ x ∷ []) i d ≡ x
get_or-last xs x d i e = rw e (get_or-append_seam xs x [] d)

pub length-one_more : {A : Type 0} (xs : List A) (x : A) → length (xs ++ x ∷ []) ≡ length xs + 1
length-one_more xs x = grind (arith, common_steps)

pub some_of : {A : Type 0} (xs : List A) (j : ℕ) → j < length xs → A
some_of [] j below = absurd (omega arith)
some_of (x ∷ xs) j below = x
