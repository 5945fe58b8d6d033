-- How many keys cover a fact, and how many cells a cube has at most.
use Rattle.std.proofs.Common.{◌≡◌, ℕ, ◌*◌, ◌^◌, ◌<◌, ◌≤◌, ◌==◌, ◌||◌, IsTrue, true, List, [], ◌∷◌, length, map, sum_by}
use Rattle.std.proofs.Common.{flat_map, Contains, Option, refl, sym, ap, ap₂, ◌∙◌, subst, inl, inr, arith, zero-add}
use Rattle.std.proofs.Common.{eqb-true}
use Rattle.std.specs.List.{AllByRecursion, AllZip, list_any, list_all, range_with_len}
use Rattle.std.specs.Ordering.{eq_by_cmp}
use Rattle.std.proofs.lemmas.Bool.{and_parts, or_cases}
use Rattle.std.proofs.lemmas.Cmp.{eq_by_cmp_equiv}
use Rattle.std.proofs.lemmas.List.{length-map}
use Rattle.std.proofs.lemmas.List.Concat.{length-flat_map}
use Rattle.std.proofs.lemmas.List.FromFn.{length-range_with_len, get_or-range_with_len}
use Rattle.std.proofs.lemmas.List.Sums.{sum_by-cons}
use Rattle.std.proofs.lemmas.Map.Keys.{IsDistinct-from_sorted}
use Rattle.std.proofs.lemmas.Map.Made.{length-le_from_is_member}
use Rattle.cube_core.specs.Layout.{Layout, number_of_dimensions}
use Rattle.cube_core.specs.Covers.{covers, all_stand_for, stands_for}
use Rattle.cube_core.specs.Cube.{key_of, is_total}
use Rattle.cube_core.specs.GroupingSet.{is_all_coord, is_among, mask_of, all_sets}
use Rattle.cube_laws.specs.Cells.{AreCountedRows, CoveringKeys, HaveValuesAmong, most_cells}
use Rattle.cube_core.specs.Order.{key_cmp}
use Rattle.cube_core.specs.declared.fact.Fact.{Fact}
use Rattle.cube_core.specs.declared.key.Coord.{Coord}
use Rattle.cube_core.specs.declared.key.Coord.TheVariants as coord
use Rattle.cube_core.specs.declared.key.Key.{Key}
use Rattle.cube_core.specs.declared.key.Row.{Row}
use Rattle.cube_laws.proofs.CountLaws.{key_in_set}
use Rattle.cube_core.proofs.KeyOrderLaws.{key_cmp-IsTotalOrder}
use Rattle.cube_core.proofs.AncestorLaws.{coord_of, coord_of-stands_for, ancestor_of, all_stand_for-ancestor_of}
use Rattle.cube_core.proofs.AncestorLaws.{mask_of_coords-ancestor_of, all_stand_for-mask_of_coords}
use Rattle.cube_core.proofs.AncestorLaws.{mask_of_coords-length, all_stand_for-length}
use Rattle.cube_core.proofs.ListLaws.{AllByRecursion-Contains, Contains-AllByRecursion, Contains-head}
use Rattle.cube_core.proofs.ListLaws.{Contains-list_any, Contains-map, Contains-tail, flat_map-Contains}
use Rattle.cube_core.proofs.ListLaws.{list_any-Contains, map-Contains}
use Rattle.cube_core.proofs.CellKeyLaws.{Key-coords}

-- what g takes back is as it was
map-inverse : {X Y : Type 0} (f : X → Y) (g : Y → X) (xs : List X) → AllByRecursion (λ x. g (f x) ≡ x) xs →
    map g (map f xs) ≡ xs
map-inverse f g [] back = refl
map-inverse f g (x ∷ xs) back = ap₂ (λ y ys. y ∷ ys) back.0 (map-inverse f g xs back.1)

-- the numbers below n
range_with_len-Contains : (n set : ℕ) → set < n → Contains (range_with_len 0 n) set
range_with_len-Contains n set below =
    (set, omega (arith, length-range_with_len 0 n), get_or-range_with_len 0 n set set below ∙ zero-add set)

Contains-range_with_len : (n set : ℕ) → Contains (range_with_len 0 n) set → set < n
Contains-range_with_len n set among =
    let place : among.0 < n = omega (arith, among.1, length-range_with_len 0 n) in
    omega (arith, place, get_or-range_with_len 0 n among.0 set place, among.2)

-- the keys that cover a fact, by their grouping sets
abbrev covering : Fact → List Key
covering fact = map (λ set. key_in_set set fact) (all_sets (length fact.dims))

-- a fact is covered by one key of each grouping set, and by no other keys
pub CoveringKeys-all_sets : (fact : Fact) → CoveringKeys fact
CoveringKeys-all_sets fact = record {
  keys = covering fact;
  cover = λ key. (covers_if_contained key, contained_if_covers key);
  count = length-map (all_sets (length fact.dims)) (λ set. key_in_set set fact)
      ∙ length-range_with_len 0 (2 ^ length fact.dims);
  sets = map-inverse (λ set. key_in_set set fact) mask_of (all_sets (length fact.dims))
      (Contains-AllByRecursion (λ set. mask_of (key_in_set set fact) ≡ set) (all_sets (length fact.dims))
      (λ set among.
      mask_of_coords-ancestor_of fact.dims set (Contains-range_with_len (2 ^ length fact.dims) set among)));
}
  where
    covers_if_contained : (key : Key) → Contains (covering fact) key → IsTrue (covers key fact)
    covers_if_contained key among =
        let found = Contains-map (λ set. key_in_set set fact) (all_sets (length fact.dims)) key among in
        subst (λ (key : Key). covers key fact ≡ true) found.2 (all_stand_for-ancestor_of fact.dims found.0)

    contained_if_covers : (key : Key) → IsTrue (covers key fact) → Contains (covering fact) key
    contained_if_covers key covered =
        let set = mask_of key in
        let below : set < 2 ^ length fact.dims
        = subst (λ n. set < 2 ^ n) (all_stand_for-length key.coords fact.dims covered)
        (mask_of_coords-length key.coords) in
        let same : ancestor_of fact.dims set ≡ key.coords
        = all_stand_for-mask_of_coords (ancestor_of fact.dims set) key.coords fact.dims
        (all_stand_for-ancestor_of fact.dims set) covered
        (mask_of_coords-ancestor_of fact.dims set below) in
        subst (Contains (covering fact)) (Key-coords (key_in_set set fact) key same)
        (map-Contains (λ set. key_in_set set fact) (all_sets (length fact.dims)) set
        (range_with_len-Contains (2 ^ length fact.dims) set below))

-- values and null, as coordinates
abbrev pub as_coords : List (Option (List ℕ)) → List Coord
as_coords values = map (λ value. coord_of value true) values

-- what may stand in a key for a dimension with these values
abbrev pub coords_for : List (Option (List ℕ)) → List Coord
coords_for values = coord.All ∷ as_coords values

-- the coordinates of all keys over dimensions with these values
pub coords_over : List (List (Option (List ℕ))) → List (List Coord)
coords_over [] = [] ∷ []
coords_over (values ∷ other_values) =
    flat_map (λ c. map (λ coords. c ∷ coords) (coords_over other_values)) (coords_for values)

-- a sum of the same number
sum_by-constant : {X : Type 0} (f : X → ℕ) (n : ℕ) (xs : List X) → ((x : X) → f x ≡ n) → sum_by f xs ≡ length xs * n
sum_by-constant f n [] same = omega arith
sum_by-constant f n (x ∷ xs) same = omega (arith, sum_by-cons f x xs, same x, sum_by-constant f n xs same)

-- there are as many as the product
length-coords_over : (values : List (List (Option (List ℕ)))) → length (coords_over values) ≡ most_cells values
unfolding coords_over
length-coords_over [] = refl
length-coords_over (values ∷ other_values) =
    length-flat_map (λ c. map (λ coords. c ∷ coords) (coords_over other_values)) (coords_for values)
    ∙ sum_by-constant (λ c. length (map (λ coords. c ∷ coords) (coords_over other_values))) (most_cells other_values)
    (coords_for values)
    (λ c. length-map (coords_over other_values) (λ coords. c ∷ coords) ∙ length-coords_over other_values)
    ∙ ap (λ n. n * most_cells other_values) (omega (arith, length-map values (λ value. coord_of value true)))

-- each coordinate is ALL or stands for a value of its dimension
abbrev StandAmong : List (List (Option (List ℕ))) → List Coord → Type 0
StandAmong values coords = AllZip (λ among c. Contains (coords_for among) c) values coords

-- such coordinates are those of a key over the dimensions
coords_over-Contains : (values : List (List (Option (List ℕ)))) (coords : List Coord) → StandAmong values coords →
    Contains (coords_over values) coords
unfolding coords_over
coords_over-Contains [] [] h = Contains-head [] []
coords_over-Contains [] (c ∷ coords) h = elim h [ ]
coords_over-Contains (values ∷ other_values) [] h = elim h [ ]
coords_over-Contains (values ∷ other_values) (c ∷ coords) h =
    flat_map-Contains (λ c. map (λ coords. c ∷ coords) (coords_over other_values)) (coords_for values) c
    (c ∷ coords) h.0
    (map-Contains (λ coords. c ∷ coords) (coords_over other_values) coords
    (coords_over-Contains other_values coords h.1))

-- a listed value is listed as a coordinate
coords_for-coord_of : (c : Coord) (value : Option (List ℕ)) (values : List (Option (List ℕ)))
    → c ≡ coord_of value true →
    Contains values value → Contains (coords_for values) c
coords_for-coord_of c value values is among =
    Contains-tail coord.All (as_coords values) c
    (subst (Contains (as_coords values)) (sym is) (map-Contains (λ value. coord_of value true) values value among))

-- what stands for a listed value is listed
coords_for-stands_for : (c : Coord) (value : Option (List ℕ)) (values : List (Option (List ℕ)))
    → stands_for c value ≡ true →
    Contains values value → Contains (coords_for values) c
coords_for-stands_for coord.All value values stands among = Contains-head coord.All (as_coords values)
coords_for-stands_for coord.Null value values stands among =
    coords_for-coord_of coord.Null value values (coord_of-stands_for coord.Null value true stands refl) among
coords_for-stands_for (coord.Text name) value values stands among =
    coords_for-coord_of (coord.Text name) value values
    (coord_of-stands_for (coord.Text name) value true stands refl) among

-- a key that covers a fact with listed values
StandAmong-all_stand_for : (values : List (List (Option (List ℕ)))) (coords : List Coord)
    (dims : List (Option (List ℕ))) →
    AllZip Contains values dims → all_stand_for coords dims ≡ true → StandAmong values coords
StandAmong-all_stand_for [] [] dims among stand = tt
StandAmong-all_stand_for [] (c ∷ coords) [] among stand = cc
StandAmong-all_stand_for [] (c ∷ coords) (v ∷ dims) among stand = elim among [ ]
StandAmong-all_stand_for (values ∷ other_values) coords [] among stand = elim among [ ]
StandAmong-all_stand_for (values ∷ other_values) [] (v ∷ dims) among stand = cc
StandAmong-all_stand_for (values ∷ other_values) (c ∷ coords) (v ∷ dims) among stand =
    let parts = and_parts (stands_for c v) (all_stand_for coords dims) stand in (
      coords_for-stands_for c v values parts.0 among.0,
      StandAmong-all_stand_for other_values coords dims among.1 parts.1,
    )

-- the key of the grand total
StandAmong-is_all_coord : (values : List (List (Option (List ℕ)))) (coords : List Coord)
    → length coords ≡ length values →
    list_all is_all_coord coords ≡ true → StandAmong values coords
StandAmong-is_all_coord [] [] long all = tt
StandAmong-is_all_coord [] (c ∷ coords) long all = absurd (omega (arith, long))
StandAmong-is_all_coord (values ∷ other_values) [] long all = absurd (omega (arith, long))
StandAmong-is_all_coord (values ∷ other_values) (coord.All ∷ coords) long all =
    (Contains-head coord.All (as_coords values), StandAmong-is_all_coord other_values coords (omega (arith, long)) all)
StandAmong-is_all_coord (values ∷ other_values) (coord.Null ∷ coords) long all = cc
StandAmong-is_all_coord (values ∷ other_values) (coord.Text name ∷ coords) long all = cc

-- the cells are no more than the product
pub AreRows-most_cells : (s : Layout) (facts : List Fact) (rows : List Row) (values : List (List (Option (List ℕ)))) →
    AreCountedRows s facts rows → length values ≡ number_of_dimensions s → HaveValuesAmong values facts →
    length rows ≤ most_cells values
AreRows-most_cells s facts rows values are long among =
    let at_most : length (map key_of rows) ≤ length (map key_with (coords_over values))
    = length-le_from_is_member (eq_by_cmp_equiv key_cmp-IsTotalOrder) (map key_of rows)
    (map key_with (coords_over values))
    (IsDistinct-from_sorted key_cmp (map key_of rows) are.ordered) member in
    omega (arith, at_most, length-map rows key_of, length-map (coords_over values) key_with, length-coords_over values)
  where
    key_with : List Coord → Key
    key_with coords = record { coords = coords }

    in_cells : (key : Key) → Contains (map key_of rows) key → StandAmong values key.coords
    in_cells key key_among =
        let dimensions = number_of_dimensions s in
        let is_in_set = is_among (mask_of key) s.grouping_sets in
        let cell =
        and_parts is_in_set (is_total dimensions key || list_any (covers key) facts) ((are.cells key).0 key_among) in
        elim (or_cases (is_total dimensions key) (list_any (covers key) facts) cell.1) [
          | inl total ↦
              let parts = and_parts (length key.coords == dimensions) (list_all is_all_coord key.coords) total in
              StandAmong-is_all_coord values key.coords
              (eqb-true (length key.coords) dimensions parts.0 ∙ sym long) parts.1
          | inr covered ↦
              let found = list_any-Contains (covers key) facts covered in
              StandAmong-all_stand_for values key.coords found.0.dims
              (AllByRecursion-Contains (λ (fact : Fact). AllZip Contains values fact.dims) facts found.0 among found.1)
              found.2
        ]

    member : (key : Key) → list_any (eq_by_cmp key_cmp key) (map key_of rows) ≡ true →
        list_any (eq_by_cmp key_cmp key) (map key_with (coords_over values)) ≡ true
    member key h =
        let found = list_any-Contains (eq_by_cmp key_cmp key) (map key_of rows) h in
        Contains-list_any (eq_by_cmp key_cmp key) (map key_with (coords_over values)) found.0
        (map-Contains key_with (coords_over values) found.0.coords
        (coords_over-Contains values found.0.coords (in_cells found.0 found.1)))
        found.2
