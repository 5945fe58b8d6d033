-- Lemmas for the keys that cover a fact: each grouping set has exactly one.
use Rattle.std.proofs.Common.{suc, ◌≡◌, ◌+◌, ◌*◌, ◌^◌, ◌<◌, ◌≤◌, ◌%◌, ◌/◌, ◌==◌, ℕ, Bool, true, false, cond, not, List}
use Rattle.std.proofs.Common.{[], ◌∷◌, length, Option, Some, None, refl, sym, ap, ◌∙◌, arith}
use Rattle.std.specs.List.{list_all}
use Rattle.std.proofs.Math.Bool.{not-not}
use Rattle.std.proofs.lemmas.Slice.Eq.{bytes_eq-Decides}
use Rattle.std.proofs.lemmas.Bool.Decides.{nat_tests}
use Rattle.std.proofs.lemmas.Bool.{and_parts}
use Rattle.std.proofs.Math.Nat.{pow-succ', pow-le-pow_right}
use Rattle.cube_core.specs.Covers.{stands_for, all_stand_for}
use Rattle.cube_core.specs.GroupingSet.{is_all_coord, mask_of_coords}
use Rattle.cube_core.specs.declared.key.Coord.{Coord}
use Rattle.cube_core.specs.declared.key.Coord.TheVariants as coord

-- what stands for a value: the value itself where its dimension is grouped by, else ALL
abbrev pub coord_of : Option (List ℕ) → Bool → Coord
coord_of value false = coord.All
coord_of None true = coord.Null
coord_of (Some text) true = coord.Text text

-- what stands for values, each grouped by where the mask has a bit
unfoldable pub ancestor_of : List (Option (List ℕ)) → ℕ → List Coord
ancestor_of [] mask = []
ancestor_of (value ∷ values) mask = coord_of value (mask % 2 == 1) ∷ ancestor_of values (mask / 2)

pub coord_of-stands_for : (c : Coord) (value : Option (List ℕ)) (is_grouped : Bool) → stands_for c value ≡ true
    → is_all_coord c ≡ not is_grouped → c ≡ coord_of value is_grouped
coord_of-stands_for coord.All value false s g = refl
coord_of-stands_for coord.All value true s g = cc
coord_of-stands_for coord.Null value false s g = cc
coord_of-stands_for coord.Null None true s g = refl
coord_of-stands_for coord.Null (Some text) true s g = cc
coord_of-stands_for (coord.Text name) value false s g = cc
coord_of-stands_for (coord.Text name) None true s g = cc
coord_of-stands_for (coord.Text name) (Some text) true s g = ap coord.Text ((bytes_eq-Decides name text).0 s)

bit-below : (x : Bool) (m n : ℕ) → m < 2 ^ n → cond x 0 1 + 2 * m < 2 ^ suc n
bit-below true m n below = omega (arith, pow-succ' 2 n)
bit-below false m n below = omega (arith, pow-succ' 2 n)

-- what stands for a value does
pub stands_for-coord_of : (value : Option (List ℕ)) (is_grouped : Bool)
    → stands_for (coord_of value is_grouped) value ≡ true
stands_for-coord_of None false = refl
stands_for-coord_of None true = refl
stands_for-coord_of (Some text) false = refl
stands_for-coord_of (Some text) true = (bytes_eq-Decides text text).1 refl

-- and is ALL where its dimension is not grouped by
pub is_all_coord-coord_of : (value : Option (List ℕ)) (is_grouped : Bool)
    → is_all_coord (coord_of value is_grouped) ≡ not is_grouped
is_all_coord-coord_of None false = refl
is_all_coord-coord_of None true = refl
is_all_coord-coord_of (Some text) false = refl
is_all_coord-coord_of (Some text) true = refl

pub all_stand_for-ancestor_of : (values : List (Option (List ℕ))) (mask : ℕ)
    → all_stand_for (ancestor_of values mask) values ≡ true
unfolding ancestor_of
all_stand_for-ancestor_of [] mask = refl
all_stand_for-ancestor_of (value ∷ values) mask =
    rw (stands_for-coord_of value (mask % 2 == 1)) (all_stand_for-ancestor_of values (mask / 2))

-- a number's last bit and the others make it up
bit-half : (mask : ℕ) → cond (not (mask % 2 == 1)) 0 1 + 2 * (mask / 2) ≡ mask
bit-half mask = grind (arith, nat_tests)

pub mask_of_coords-ancestor_of : (values : List (Option (List ℕ))) (mask : ℕ) → mask < 2 ^ length values
    → mask_of_coords (ancestor_of values mask) ≡ mask
unfolding ancestor_of
mask_of_coords-ancestor_of [] mask below = omega arith
mask_of_coords-ancestor_of (value ∷ values) mask below =
    let half : mask / 2 < 2 ^ length values = omega (arith, pow-succ' 2 (length values)) in
    let rest : mask_of_coords (ancestor_of values (mask / 2)) ≡ mask / 2 =
    mask_of_coords-ancestor_of values (mask / 2) half in
    rw (rest, is_all_coord-coord_of value (mask % 2 == 1)) (bit-half mask)

-- two coordinates that stand for a value are one, if both or neither are ALL
stands_for-coord : (a b : Coord) (value : Option (List ℕ)) → stands_for a value ≡ true → stands_for b value ≡ true
    → is_all_coord a ≡ is_all_coord b → a ≡ b
stands_for-coord a b value s t e =
    coord_of-stands_for a value (not (is_all_coord a)) s (sym (not-not (is_all_coord a)))
    ∙ sym (coord_of-stands_for b value (not (is_all_coord a)) t (sym e ∙ sym (not-not (is_all_coord a))))

-- the last bit of a mask, and the other bits
bit-same : (x y : Bool) (m n : ℕ) → cond x 0 1 + 2 * m ≡ cond y 0 1 + 2 * n → (x ≡ y) × (m ≡ n)
bit-same true true m n e = (refl, omega arith)
bit-same false false m n e = (refl, omega arith)
bit-same true false m n e = absurd (omega arith)
bit-same false true m n e = absurd (omega arith)

-- coordinates that stand for the same values are the same, if their masks are
pub all_stand_for-mask_of_coords : (xs ys : List Coord) (values : List (Option (List ℕ)))
    → all_stand_for xs values ≡ true → all_stand_for ys values ≡ true → mask_of_coords xs ≡ mask_of_coords ys → xs ≡ ys
all_stand_for-mask_of_coords [] [] values s t e = refl
all_stand_for-mask_of_coords [] (y ∷ ys) [] s t e = cc
all_stand_for-mask_of_coords [] (y ∷ ys) (value ∷ values) s t e = cc
all_stand_for-mask_of_coords (x ∷ xs) [] [] s t e = cc
all_stand_for-mask_of_coords (x ∷ xs) [] (value ∷ values) s t e = cc
all_stand_for-mask_of_coords (x ∷ xs) (y ∷ ys) [] s t e = cc
all_stand_for-mask_of_coords (x ∷ xs) (y ∷ ys) (value ∷ values) s t e =
    let bits = bit-same (is_all_coord x) (is_all_coord y) (mask_of_coords xs) (mask_of_coords ys) e in
    let hs = and_parts (stands_for x value) (all_stand_for xs values) s in
    let ht = and_parts (stands_for y value) (all_stand_for ys values) t in
    let head : x ≡ y = stands_for-coord x y value hs.0 ht.0 bits.0 in
    let tail : xs ≡ ys = all_stand_for-mask_of_coords xs ys values hs.1 ht.1 bits.1 in
    cc

-- ALL in each dimension is the empty set
pub mask_of_coords-All : (coords : List Coord) → list_all is_all_coord coords ≡ true → mask_of_coords coords ≡ 0
mask_of_coords-All [] all = refl
mask_of_coords-All (c ∷ coords) all =
    let parts = and_parts (is_all_coord c) (list_all is_all_coord coords) all in
    rw (parts.0, mask_of_coords-All coords parts.1) refl

pub mask_of_coords-length : (coords : List Coord) → mask_of_coords coords < 2 ^ length coords
mask_of_coords-length [] = omega arith
mask_of_coords-length (c ∷ coords) =
    bit-below (is_all_coord c) (mask_of_coords coords) (length coords) (mask_of_coords-length coords)

-- the mask of at most 8 coordinates has 8 bits
pub mask_of_coords_byte : (coords : List Coord) → length coords ≤ 8 → mask_of_coords coords < 256
mask_of_coords_byte coords few =
    let two : 0 < 2 = omega arith in
    let bound : 2 ^ length coords ≤ 2 ^ 8 = pow-le-pow_right two few in
    omega (arith, mask_of_coords-length coords, bound)

-- coordinates that stand for values are as many
pub all_stand_for-length : (coords : List Coord) (values : List (Option (List ℕ))) → all_stand_for coords values ≡ true
    → length coords ≡ length values
all_stand_for-length [] [] s = refl
all_stand_for-length [] (value ∷ values) s = cc
all_stand_for-length (c ∷ coords) [] s = cc
all_stand_for-length (c ∷ coords) (value ∷ values) s =
    let rest : length coords ≡ length values =
    all_stand_for-length coords values (and_parts (stands_for c value) (all_stand_for coords values) s).1 in
    cc
