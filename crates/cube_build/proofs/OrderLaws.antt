-- The rows of cells that are put in another order.
use Rattle.std.proofs.Common.{◌≡◌, ◌<◌, ◌+◌, ℕ, zero, suc, List, [], ◌∷◌, ◌++◌, length, get_or, set, swap, refl, ap}
use Rattle.std.proofs.Common.{arith, IsPermutation}
use Rattle.std.specs.List.{AllZip}
use Rattle.std.specs.List.Sorted.{IsSortedBy}
use Rattle.std.specs.Ordering.{is_lt}
use Rattle.std.proofs.lemmas.List.Sorted.{IsPermutation-keeps, IsPermutation-refl, IsPermutation-sym}
use Rattle.std.proofs.lemmas.List.Sorted.{IsPermutation-swap, IsPermutation-trans}
use Rattle.cube_core.specs.Order.{key_cmp}
use Rattle.cube_core.specs.declared.aggregate.Agg.{Agg}
use Rattle.cube_core.specs.declared.key.Key.{Key}
use Rattle.cube_core.specs.declared.key.Row.{Row}
use Rattle.cube_core.proofs.ListLaws.{AllZip-length}
use Rattle.cube_cells.specs.Cube.{Cells}
use Rattle.cube_cells.specs.Rows.{IsRowOf}
use Rattle.cube_cells.specs.Tally.{Tally}

-- ---- lists whose elements are related in turn
-- the elements at a place
AllZip-get_or : {X Y : Type 0} (R : X → Y → Type 0) (xs : List X) (ys : List Y) (i : ℕ) (d : X) (e : Y) → i < length xs
    → AllZip R xs ys → R (get_or xs i d) (get_or ys i e)
AllZip-get_or R [] ys i d e inside all = absurd (omega (arith, inside))
AllZip-get_or R (x ∷ xs) [] i d e inside all = absurd all
AllZip-get_or R (x ∷ xs) (y ∷ ys) zero d e inside all = all.0
AllZip-get_or R (x ∷ xs) (y ∷ ys) (suc i) d e inside all = AllZip-get_or R xs ys i d e (omega (arith, inside)) all.1

-- two others in their stead
AllZip-set : {X Y : Type 0} (R : X → Y → Type 0) (xs : List X) (ys : List Y) (i : ℕ) (x : X) (y : Y) → AllZip R xs ys
    → R x y → AllZip R (set xs i x) (set ys i y)
AllZip-set R [] [] i x y all related = all
AllZip-set R [] (b ∷ ys) i x y all related = absurd all
AllZip-set R (a ∷ xs) [] i x y all related = absurd all
AllZip-set R (a ∷ xs) (b ∷ ys) zero x y all related = (related, all.1)
AllZip-set R (a ∷ xs) (b ∷ ys) (suc i) x y all related = (all.0, AllZip-set R xs ys i x y all.1 related)

-- the elements at two places, each in the other's place
AllZip-swap : {X Y : Type 0} (R : X → Y → Type 0) (xs : List X) (ys : List Y) (i j : ℕ) → i < length xs → j < length xs
    → AllZip R xs ys → AllZip R (swap xs i j) (swap ys i j)
AllZip-swap R [] [] i j below_i below_j all = all
AllZip-swap R [] (y ∷ ys) i j below_i below_j all = absurd all
AllZip-swap R (x ∷ xs) [] i j below_i below_j all = absurd all
AllZip-swap R (x ∷ xs) (y ∷ ys) i j below_i below_j all =
    AllZip-set R (set (x ∷ xs) i (get_or (x ∷ xs) j x)) (set (y ∷ ys) i (get_or (y ∷ ys) j y)) j (get_or (x ∷ xs) i x)
    (get_or (y ∷ ys) i y)
    (AllZip-set R (x ∷ xs) (y ∷ ys) i (get_or (x ∷ xs) j x) (get_or (y ∷ ys) j y) all
    (AllZip-get_or R (x ∷ xs) (y ∷ ys) j x y below_j all))
    (AllZip-get_or R (x ∷ xs) (y ∷ ys) i x y below_i all)

-- elements in another order are related to some of the others in another order
pub AllZip-IsPermutation : {X Y : Type 0} (R : X → Y → Type 0) (xs sorted : List X) (ys : List Y)
    → IsPermutation xs sorted → AllZip R sorted ys →
    (zs : List Y) × AllZip R xs zs × IsPermutation zs ys
AllZip-IsPermutation {Y = Y} R xs sorted ys moved all =
    let back = IsPermutation-keeps sorted (λ l. (zs : List Y) × AllZip R l zs × IsPermutation ys zs)
    (ys, all, IsPermutation-refl ys) (λ l i j below_i below_j so_far.
    let zs = so_far.0 in
    let long = AllZip-length R l zs so_far.1 in (
      swap zs i j,
      AllZip-swap R l zs i j below_i below_j so_far.1,
      IsPermutation-trans ys zs (swap zs i j) so_far.2
          (IsPermutation-swap zs (swap zs i j) i j (omega (arith, long, below_i)) (omega (arith, long, below_j)) refl),
    ))
    xs (IsPermutation-sym xs sorted moved) in
    (back.0, back.1, IsPermutation-sym ys back.0 back.2)

-- what is related to a list and another after it is related to each
pub AllZip-split : {X Y : Type 0} (R : X → Y → Type 0) (xs more : List X) (ys : List Y) → AllZip R (xs ++ more) ys →
    (front : List Y) × (back : List Y) × (ys ≡ front ++ back) × AllZip R xs front × AllZip R more back
AllZip-split R [] more ys all = ([], ys, refl, tt, all)
AllZip-split R (x ∷ xs) more [] all = absurd all
AllZip-split R (x ∷ xs) more (y ∷ ys) all =
    let rest = AllZip-split R xs more ys all.1 in
    (y ∷ rest.0, rest.1, ap (λ l. y ∷ l) rest.2, (all.0, rest.3), rest.4)

-- ---- cells and their rows
-- the rows of cells in key order are in key order
pub IsSortedBy-IsRowOf : (aggregates : List Agg) (cells : Cells) (rows : List Row)
    → IsSortedBy (λ a b. is_lt (key_cmp a.0 b.0)) cells → AllZip (IsRowOf aggregates) cells rows →
    IsSortedBy (λ a b. is_lt (key_cmp a.key b.key)) rows
IsSortedBy-IsRowOf aggregates cells rows sorted all = λ k d low inside.
    let long = AllZip-length (IsRowOf aggregates) cells rows all in
    let unused : Key × Tally = (record { coords = [] }, record { facts = 0; bags = [] }) in
    let this = AllZip-get_or (IsRowOf aggregates) cells rows k unused d (omega (arith, long, inside)) all in
    let next = AllZip-get_or (IsRowOf aggregates) cells rows (k + 1) unused d (omega (arith, long, inside)) all in
    rw (this.key, next.key) (sorted k unused low (omega (arith, long, inside)))
