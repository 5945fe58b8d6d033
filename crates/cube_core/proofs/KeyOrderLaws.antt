-- Key order is a total order, and tells keys apart.
use Rattle.std.proofs.Common.{◌≡◌, List, [], ◌∷◌, refl, ap, rules, subst}
use Rattle.std.specs.declared.cmp.Ordering.{Ordering}
use Rattle.std.specs.declared.cmp.Ordering.TheVariants.{Less, Equal, Greater}
use Rattle.std.specs.Ordering.{ordering_then}
use Rattle.std.specs.Cmp.{IsTotalOrder}
use Rattle.std.specs.Cmp.Lexicographic.{slice_cmp}
use Rattle.std.proofs.lemmas.Map.Lookups.{CmpEqualImpliesEq, exact_bytes}
use Rattle.cube_core.specs.Order.{coord_cmp, key_cmp}
use Rattle.cube_core.specs.contracts.key.KeyOrd.TheImpl as KeyOrd
use Rattle.cube_core.specs.declared.key.Coord.{Coord}
use Rattle.cube_core.specs.declared.key.Coord.TheVariants as coord
use Rattle.cube_core.specs.declared.key.Key.{Key}

-- the order of a set of keys is key order
cmp-key_cmp_at : (x y : Key) → (KeyOrd.cmp-value).it x y ≡ key_cmp x y
cmp-key_cmp_at x y = search rules

pub cmp-key_cmp : (KeyOrd.cmp-value).it ≡ key_cmp
cmp-key_cmp = λ i x y. cmp-key_cmp_at x y i

ordering_then-Equal : (a b : Ordering) → ordering_then a b ≡ Equal → (a ≡ Equal) × (b ≡ Equal)
ordering_then-Equal Less b e = absurd (cc)
ordering_then-Equal Equal b e = (refl, e)
ordering_then-Equal Greater b e = absurd (cc)

coord_cmp-exact : CmpEqualImpliesEq coord_cmp
coord_cmp-exact (coord.Text a) (coord.Text b) e = ap coord.Text (exact_bytes a b e)
coord_cmp-exact (coord.Text a) coord.Null e = cc
coord_cmp-exact (coord.Text a) coord.All e = cc
coord_cmp-exact coord.Null (coord.Text b) e = cc
coord_cmp-exact coord.Null coord.Null e = refl
coord_cmp-exact coord.Null coord.All e = cc
coord_cmp-exact coord.All (coord.Text b) e = cc
coord_cmp-exact coord.All coord.Null e = cc
coord_cmp-exact coord.All coord.All e = refl

coords-exact : (xs ys : List Coord) → slice_cmp coord_cmp xs ys ≡ Equal → xs ≡ ys
coords-exact [] [] e = refl
coords-exact [] (y ∷ ys) e = cc
coords-exact (x ∷ xs) [] e = cc
coords-exact (x ∷ xs) (y ∷ ys) e =
    let parts = ordering_then-Equal (coord_cmp x y) (slice_cmp coord_cmp xs ys) e in
    let head : x ≡ y = coord_cmp-exact x y parts.0 in
    let tail : xs ≡ ys = coords-exact xs ys parts.1 in
    cc

-- keys that compare equal are the same
pub key_cmp-exact : CmpEqualImpliesEq key_cmp
key_cmp-exact x y e =
    ap (λ (coords : List Coord). let key : Key = record { coords = coords } in key) (coords-exact x.coords y.coords e)

-- key order is a total order
pub key_cmp-IsTotalOrder : IsTotalOrder key_cmp
key_cmp-IsTotalOrder =
    let P : (Key → Key → Ordering) → Type 0 = λ R. IsTotalOrder R in
    subst P cmp-key_cmp (KeyOrd.Laws.total-law)
