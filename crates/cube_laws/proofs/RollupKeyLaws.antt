-- The keys that drill down from a key along a dimension share its facts out among them.
use Rattle.std.proofs.Common.{◌≡◌, ℕ, zero, suc, ◌+◌, ◌*◌, ◌^◌, Bool, true, false, cond, not, List, [], ◌∷◌, map}
use Rattle.std.proofs.Common.{filter, get_or, set, slice_get, count_by, Contains, Option, None, refl, sym, ap, ◌∙◌}
use Rattle.std.proofs.Common.{subst, arith, Ordering, Less, Equal, Greater}
use Rattle.std.specs.Option.{option_map_or}
use Rattle.std.specs.Ordering.{eq_by_cmp}
use Rattle.std.proofs.Math.Nat.{pow-succ'}
use Rattle.std.proofs.lemmas.Bool.{and_parts, and_from, not-true, false_from_ne_true}
use Rattle.std.proofs.lemmas.Cmp.{tied_itself}
use Rattle.std.proofs.lemmas.List.Kept.{IsStrictlySortedBy-filter}
use Rattle.cube_core.specs.Layout.{Layout}
use Rattle.cube_core.specs.Covers.{covers, all_stand_for, stands_for}
use Rattle.cube_core.specs.Cube.{key_of}
use Rattle.cube_core.specs.Group.{group_of}
use Rattle.cube_core.specs.GroupingSet.{is_all_coord, is_all_at, mask_of, is_among, mask_of_coords}
use Rattle.cube_core.specs.Query.{rolled_up, drills_down, rows_below}
use Rattle.cube_core.specs.Order.{key_cmp}
use Rattle.cube_core.specs.declared.fact.Fact.{Fact}
use Rattle.cube_core.specs.declared.key.Coord.{Coord}
use Rattle.cube_core.specs.declared.key.Coord.TheVariants as coord
use Rattle.cube_core.specs.declared.key.Key.{Key}
use Rattle.cube_core.specs.declared.key.Row.{Row}
use Rattle.cube_core.proofs.ReorderedLaws.{Reordered}
use Rattle.cube_laws.specs.Cells.{AreCountedRows}
use Rattle.cube_laws.proofs.CountLaws.{AreRows-covers}
use Rattle.cube_laws.proofs.GroupCountLaws.{count_by-one, SharedOut, joined_groups, joined_groups-filter}
use Rattle.cube_core.proofs.AncestorLaws.{coord_of, coord_of-stands_for, stands_for-coord_of, is_all_coord-coord_of}
use Rattle.cube_core.proofs.KeyOrderLaws.{key_cmp-IsTotalOrder, key_cmp-exact}
use Rattle.cube_core.proofs.ListLaws.{Contains-AllByRecursion, Contains-filter, count_by-none, filter-Contains}
use Rattle.cube_core.proofs.ListLaws.{map-filter}
use Rattle.cube_core.proofs.CellKeyLaws.{Key-coords}

-- coordinates with a fact's own value in a dimension
abbrev pub drilled : List Coord → ℕ → List (Option (List ℕ)) → List Coord
drilled coords dimension values = set coords dimension (coord_of (get_or values dimension None) true)

-- what stands for values does so with the value itself in a dimension
all_stand_for-drilled : (coords : List Coord) (dimension : ℕ) (values : List (Option (List ℕ))) →
    all_stand_for coords values ≡ true → all_stand_for (drilled coords dimension values) values ≡ true
all_stand_for-drilled [] dimension [] stand = refl
all_stand_for-drilled [] dimension (v ∷ values) stand = cc
all_stand_for-drilled (c ∷ coords) dimension [] stand = cc
all_stand_for-drilled (c ∷ coords) zero (v ∷ values) stand =
    and_from (stands_for (coord_of v true) v) (all_stand_for coords values) (stands_for-coord_of v true)
    (and_parts (stands_for c v) (all_stand_for coords values) stand).1
all_stand_for-drilled (c ∷ coords) (suc dimension) (v ∷ values) stand =
    let parts = and_parts (stands_for c v) (all_stand_for coords values) stand in
    and_from (stands_for c v) (all_stand_for (drilled coords dimension values) values) parts.0
    (all_stand_for-drilled coords dimension values parts.1)

-- and with ALL in it
all_stand_for-All : (coords : List Coord) (dimension : ℕ) (values : List (Option (List ℕ))) →
    all_stand_for coords values ≡ true → all_stand_for (set coords dimension coord.All) values ≡ true
all_stand_for-All [] dimension values stand = stand
all_stand_for-All (c ∷ coords) dimension [] stand = cc
all_stand_for-All (c ∷ coords) zero (v ∷ values) stand =
    (and_parts (stands_for c v) (all_stand_for coords values) stand).1
all_stand_for-All (c ∷ coords) (suc dimension) (v ∷ values) stand =
    let parts = and_parts (stands_for c v) (all_stand_for coords values) stand in
    and_from (stands_for c v) (all_stand_for (set coords dimension coord.All) values) parts.0
    (all_stand_for-All coords dimension values parts.1)

-- the coordinate that is ALL, set to ALL
abbrev all_at : List Coord → ℕ → Bool
all_at coords dimension = option_map_or is_all_coord (slice_get coords dimension) false

-- what was ALL and got a value is what it was when it is ALL again
set-all_at : (coords : List Coord) (dimension : ℕ) (c : Coord) → all_at coords dimension ≡ true →
    set (set coords dimension c) dimension coord.All ≡ coords
set-all_at [] dimension c all = refl
set-all_at (coord.All ∷ coords) zero c all = refl
set-all_at (coord.Null ∷ coords) zero c all = cc
set-all_at (coord.Text name ∷ coords) zero c all = cc
set-all_at (d ∷ coords) (suc dimension) c all = ap (λ ds. d ∷ ds) (set-all_at coords dimension c all)

-- a coordinate that got a value is not ALL
all_at-coord_of : (coords : List Coord) (dimension : ℕ) (value : Option (List ℕ)) →
    all_at (set coords dimension (coord_of value true)) dimension ≡ false
all_at-coord_of [] dimension value = refl
all_at-coord_of (c ∷ coords) zero value = is_all_coord-coord_of value true
all_at-coord_of (c ∷ coords) (suc dimension) value = all_at-coord_of coords dimension value

-- a mask with one more dimension above its last
mask-bit : (bit mask rest d : ℕ) → rest ≡ mask + 2 ^ d → bit + 2 * rest ≡ (bit + 2 * mask) + 2 ^ suc d
mask-bit bit mask rest d is = omega (arith, pow-succ' 2 d, is)

-- a value in place of ALL adds its dimension to the mask
mask_of_coords-set : (coords : List Coord) (dimension : ℕ) (value : Option (List ℕ)) → all_at coords dimension ≡ true →
    mask_of_coords (set coords dimension (coord_of value true)) ≡ mask_of_coords coords + 2 ^ dimension
mask_of_coords-set [] dimension value all = cc
mask_of_coords-set (coord.All ∷ coords) zero value all = rw (is_all_coord-coord_of value true) (omega arith)
mask_of_coords-set (coord.Null ∷ coords) zero value all = cc
mask_of_coords-set (coord.Text name ∷ coords) zero value all = cc
mask_of_coords-set (c ∷ coords) (suc dimension) value all =
    mask-bit (cond (is_all_coord c) 0 1) (mask_of_coords coords) _ dimension
    (mask_of_coords-set coords dimension value all)

-- coordinates that stand for values and are not ALL in a dimension have the value itself there
drilled-All : (coords : List Coord) (dimension : ℕ) (values : List (Option (List ℕ))) →
    all_stand_for coords values ≡ true → all_at coords dimension ≡ false →
    drilled (set coords dimension coord.All) dimension values ≡ coords
drilled-All [] dimension values stand other = refl
drilled-All (c ∷ coords) dimension [] stand other = cc
drilled-All (c ∷ coords) zero (v ∷ values) stand other =
    ap (λ d. d ∷ coords)
    (sym (coord_of-stands_for c v true (and_parts (stands_for c v) (all_stand_for coords values) stand).0 other))
drilled-All (c ∷ coords) (suc dimension) (v ∷ values) stand other =
    ap (λ ds. c ∷ ds)
    (drilled-All coords dimension values (and_parts (stands_for c v) (all_stand_for coords values) stand).1 other)

eq_by_cmp-Equal : (o : Ordering) → eq_by_cmp (λ (x y : ℕ). o) 0 0 ≡ true → o ≡ Equal
eq_by_cmp-Equal Less h = cc
eq_by_cmp-Equal Equal h = refl
eq_by_cmp-Equal Greater h = cc

-- the parts of a drill-down
drills_down-rolled_up : (dimension : ℕ) (above key : Key) → drills_down dimension above key ≡ true →
    (is_all_at key dimension ≡ false) × (rolled_up dimension key ≡ above)
drills_down-rolled_up dimension above key h =
    let parts = and_parts (not (is_all_at key dimension)) (eq_by_cmp key_cmp (rolled_up dimension key) above) h in (
      not-true (is_all_at key dimension) parts.0,
      key_cmp-exact (rolled_up dimension key) above (eq_by_cmp-Equal (key_cmp (rolled_up dimension key) above) parts.1),
    )

-- a key equals itself
eq_by_cmp-refl : (key : Key) → eq_by_cmp key_cmp key key ≡ true
eq_by_cmp-refl key = ap (λ o. eq_by_cmp (λ (x y : ℕ). o) 0 0) (tied_itself key_cmp-IsTotalOrder key)

module _ (s : Layout) (facts : List Fact) (rows : List Row) (are : AreCountedRows s facts rows) (above : Key) (dimension : ℕ)
    (all : is_all_at above dimension ≡ true) (kept : is_among (mask_of above + 2 ^ dimension) s.grouping_sets ≡ true)
  where
    -- the key that drills down to a fact
    abbrev drilled_key : Fact → Key
    drilled_key fact = record { coords = drilled above.coords dimension fact.dims }

    -- it does drill down
    drills_down-drilled_key : (fact : Fact) → drills_down dimension above (drilled_key fact) ≡ true
    drills_down-drilled_key fact =
        let back : rolled_up dimension (drilled_key fact) ≡ above
        = Key-coords (rolled_up dimension (drilled_key fact)) above
        (set-all_at above.coords dimension (coord_of (get_or fact.dims dimension None) true) all) in
        and_from (not (is_all_at (drilled_key fact) dimension))
        (eq_by_cmp key_cmp (rolled_up dimension (drilled_key fact)) above)
        (ap not (all_at-coord_of above.coords dimension (get_or fact.dims dimension None)))
        (subst (λ key. eq_by_cmp key_cmp key above ≡ true) (sym back) (eq_by_cmp-refl above))

    -- the keys of the rows below
    abbrev keys_below : List Key
    keys_below = filter (drills_down dimension above) (map key_of rows)

    -- one key below covers a fact that the key above does
    keys_below-one : (fact : Fact) → Contains facts fact → covers above fact ≡ true
        → count_by (λ key. covers key fact) keys_below ≡ 1
    keys_below-one fact among covered =
        let one = drilled_key fact in
        let drilled_covers : covers one fact ≡ true = all_stand_for-drilled above.coords dimension fact.dims covered in
        let is_kept : is_among (mask_of one) s.grouping_sets ≡ true
        = ap (λ set. is_among set s.grouping_sets)
        (mask_of_coords-set above.coords dimension (get_or fact.dims dimension None) all) ∙ kept in
        let is_cell : Contains (map key_of rows) one =
        AreRows-covers s facts rows are one fact among drilled_covers is_kept in
        count_by-one key_cmp-IsTotalOrder (λ key. covers key fact) one keys_below
        (IsStrictlySortedBy-filter key_cmp (drills_down dimension above) (map key_of rows) are.ordered)
        (filter-Contains (drills_down dimension above) (map key_of rows) one is_cell (drills_down-drilled_key fact))
        drilled_covers
        (λ key key_among key_covers.
        let rolled = drills_down-rolled_up dimension above key
        (Contains-filter (drills_down dimension above) (map key_of rows) key key_among).1 in
        Key-coords key one
        (sym (drilled-All key.coords dimension fact.dims key_covers rolled.0)
        ∙ ap (λ (key : Key). drilled key.coords dimension fact.dims) rolled.1))

    -- no key below covers another fact
    keys_below-none : (fact : Fact) → covers above fact ≡ false → count_by (λ key. covers key fact) keys_below ≡ 0
    keys_below-none fact other = count_by-none (λ key. covers key fact) keys_below (λ key key_among.
        false_from_ne_true (covers key fact) (λ key_covers.
        let rolled = drills_down-rolled_up dimension above key
        (Contains-filter (drills_down dimension above) (map key_of rows) key key_among).1 in
        let covered : covers above fact ≡ true = subst (λ (key : Key). covers key fact ≡ true) rolled.1
        (all_stand_for-All key.coords dimension fact.dims key_covers) in
        absurd (let both : true ≡ false = sym covered ∙ other in cc)))

    -- the groups of the rows below, joined, are the group above up to order
    pub joined_groups-rows_below :
        Reordered (joined_groups (map key_of (rows_below dimension above rows)) facts) (group_of above facts)
    joined_groups-rows_below =
        subst (λ keys. Reordered (joined_groups keys facts) (group_of above facts))
        (sym (map-filter key_of (drills_down dimension above) rows))
        (joined_groups-filter keys_below
        (covers above) facts (Contains-AllByRecursion (SharedOut keys_below (covers above))
        facts (λ fact among. record {
          one = keys_below-one fact among;
          no_other = keys_below-none fact;
        })))
