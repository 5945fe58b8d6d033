-- Keys of cells: which are one, and how many coordinates they have.
use Rattle.std.proofs.Common.{◌≡◌, ◌==◌, ℕ, true, ◌&&◌, ◌||◌, List, [], ◌∷◌, length, Decides, refl, sym, ap, ◌∙◌, subst}
use Rattle.std.proofs.Common.{inl, inr}
use Rattle.std.specs.List.{list_any, list_all}
use Rattle.std.specs.Ordering.{eq_by_cmp, is_eq}
use Rattle.std.proofs.lemmas.Bool.Decides.{same_from_decides}
use Rattle.std.proofs.lemmas.Bool.{and_parts, or_cases}
use Rattle.std.proofs.lemmas.Cmp.{tied_itself}
use Rattle.std.proofs.lemmas.Map.Views.{exact_unsigned_eq, tells_apart}
use Rattle.cube_core.specs.Covers.{covers}
use Rattle.cube_core.specs.Cube.{is_total}
use Rattle.cube_core.specs.GroupingSet.{is_all_coord}
use Rattle.cube_core.specs.Layout.{Layout}
use Rattle.cube_core.specs.Order.{key_cmp}
use Rattle.cube_core.specs.Takes.{fits, is_dimension_value}
use Rattle.cube_core.specs.declared.fact.Fact.{Fact}
use Rattle.cube_core.specs.declared.key.Coord.{Coord}
use Rattle.cube_core.specs.declared.key.Key.{Key}
use Rattle.cube_core.specs.declared.key.Coord.TheVariants as coord
use Rattle.cube_core.proofs.ListLaws.{list_any-Contains, list_all-Contains}
use Rattle.cube_core.proofs.AncestorLaws.{all_stand_for-length}
use Rattle.cube_core.proofs.KeyOrderLaws.{key_cmp-exact, key_cmp-IsTotalOrder}

-- keys with the same coordinates are one
pub Key-coords : (x y : Key) → x.coords ≡ y.coords → x ≡ y
Key-coords x y e = ap (λ (coords : List Coord). let key : Key = record { coords = coords } in key) e

-- whether a key is another, by key order
pub key_cmp-Decides : (x y : Key) → Decides (eq_by_cmp key_cmp x y) (x ≡ y)
key_cmp-Decides x y = (
  λ e. tells_apart key_cmp-exact x y e,
  λ e. let P : Key → Type 0 = λ k. eq_by_cmp key_cmp x k ≡ true in
      subst P e (ap is_eq (tied_itself key_cmp-IsTotalOrder x)),
)

is_all_coord-All : (c : Coord) → is_all_coord c ≡ true → c ≡ coord.All
is_all_coord-All (coord.Text name) e = cc
is_all_coord-All coord.Null e = cc
is_all_coord-All coord.All e = refl

-- the key of the grand total is one
is_all_coord-length : (xs ys : List Coord) → length xs ≡ length ys → list_all is_all_coord xs ≡ true
    → list_all is_all_coord ys ≡ true → xs ≡ ys
is_all_coord-length [] [] l s t = refl
is_all_coord-length [] (y ∷ ys) l s t = cc
is_all_coord-length (x ∷ xs) [] l s t = cc
is_all_coord-length (x ∷ xs) (y ∷ ys) l s t =
    let hs = and_parts (is_all_coord x) (list_all is_all_coord xs) s in
    let ht = and_parts (is_all_coord y) (list_all is_all_coord ys) t in
    let head : x ≡ y = is_all_coord-All x hs.0 ∙ sym (is_all_coord-All y ht.0) in
    let tail : xs ≡ ys = is_all_coord-length xs ys (cc) hs.1 ht.1 in
    cc

-- whether a key is that of the grand total
pub key_cmp-is_total : (total key : Key) (dimensions : ℕ) → is_total dimensions total ≡ true
    → eq_by_cmp key_cmp total key ≡ is_total dimensions key
key_cmp-is_total total key dimensions t =
    let P : Key → Type 0 = λ k. is_total dimensions k ≡ true in
    let parts = and_parts (length total.coords == dimensions) (list_all is_all_coord total.coords) t in
    let by_total : Decides (is_total dimensions key) (total ≡ key) = (
      λ e.
          let others = and_parts (length key.coords == dimensions) (list_all is_all_coord key.coords) e in
          Key-coords total key (is_all_coord-length total.coords key.coords
          (exact_unsigned_eq _ _ parts.0 ∙ sym (exact_unsigned_eq _ _ others.0)) parts.1 others.1),
      λ e. subst P e t,
    ) in
    same_from_decides _ _ (key_cmp-Decides total key) by_total

-- a fact that fits has a value for each dimension
pub fits-length : (s : Layout) (fact : Fact) → fits s fact ≡ true → length fact.dims ≡ length s.dimensions
fits-length s fact e =
    let parts = and_parts ((length fact.dims == length s.dimensions) && (length fact.measures == length s.measures))
    (list_all is_dimension_value fact.dims) e in
    exact_unsigned_eq _ _
    (and_parts (length fact.dims == length s.dimensions) (length fact.measures == length s.measures) parts.0).0

-- a key that covers one of some facts that fit has a coordinate for each dimension
pub covers-length : (s : Layout) (key : Key) (facts : List Fact) → list_all (fits s) facts ≡ true
    → list_any (covers key) facts ≡ true → length key.coords ≡ length s.dimensions
covers-length s key facts all any =
    let found = list_any-Contains (covers key) facts any in
    all_stand_for-length key.coords found.0.dims found.2
    ∙ fits-length s found.0 (list_all-Contains (fits s) facts found.0 all found.1)

-- a cell has a coordinate for each dimension
pub is_cell-length : (s : Layout) (facts : List Fact) (key : Key) → list_all (fits s) facts ≡ true
    → is_total (length s.dimensions) key || list_any (covers key) facts ≡ true → length key.coords ≡ length s.dimensions
is_cell-length s facts key all cell =
    elim (or_cases (is_total (length s.dimensions) key) (list_any (covers key) facts) cell) [
      | inl total ↦ exact_unsigned_eq _ _
          (and_parts (length key.coords == length s.dimensions) (list_all is_all_coord key.coords) total).0
      | inr any ↦ covers-length s key facts all any
    ]
