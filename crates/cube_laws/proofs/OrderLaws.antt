-- The order of keys, by what their first coordinates show.
use Rattle.std.specs.Prelude.{◌≡◌, ◌<◌, ℕ, List, [], ◌∷◌, ◌++◌}
use Rattle.std.specs.declared.cmp.Ordering.TheVariants.{Less, Equal}
use Rattle.std.specs.Cmp.{nat_cmp_is}
use Rattle.std.specs.Cmp.Lexicographic.{slice_cmp}
use Rattle.std.specs.Ordering.{nat_cmp, ordering_then}
use Rattle.std.proofs.Common.{refl, sym, ap, ◌∙◌}
use Rattle.cube_core.specs.Order.{coord_cmp, key_cmp}
use Rattle.cube_core.specs.declared.key.Coord.{Coord}
use Rattle.cube_core.specs.declared.key.Coord.TheVariants as coord
use Rattle.cube_laws.specs.KeyOrder.{key_with, ComeBefore}

-- texts with one front
text-front : (front xs ys : List ℕ) → slice_cmp nat_cmp (front ++ xs) (front ++ ys) ≡ slice_cmp nat_cmp xs ys
text-front [] xs ys = refl
text-front (byte ∷ front) xs ys =
    ap (λ o. ordering_then o (slice_cmp nat_cmp (front ++ xs) (front ++ ys))) (sym (nat_cmp_is byte byte Equal refl))
    ∙ text-front front xs ys

-- what compares as less decides
decided : (a b : Coord) (coords others : List Coord) → coord_cmp a b ≡ Less
    → ComeBefore (a ∷ coords) (b ∷ others)
decided a b coords others less = ap (λ o. ordering_then o (slice_cmp coord_cmp coords others)) less

pub key_cmp-byte : (front after other_after : List ℕ) (byte other : ℕ) (coords others : List Coord) → byte < other
    → ComeBefore (coord.Text (front ++ byte ∷ after) ∷ coords) (coord.Text (front ++ other ∷ other_after) ∷ others)
key_cmp-byte front after other_after byte other coords others below =
    decided (coord.Text (front ++ byte ∷ after)) (coord.Text (front ++ other ∷ other_after)) coords others
    (text-front front (byte ∷ after) (other ∷ other_after)
    ∙ ap (λ o. ordering_then o (slice_cmp nat_cmp after other_after)) (sym (nat_cmp_is byte other Less below)))

pub key_cmp-front : (front after : List ℕ) (byte : ℕ) (coords others : List Coord)
    → ComeBefore (coord.Text front ∷ coords) (coord.Text (front ++ byte ∷ after) ∷ others)
key_cmp-front front after byte coords others =
    decided (coord.Text front) (coord.Text (front ++ byte ∷ after)) coords others (shorter front)
  where
    shorter : (text : List ℕ) → slice_cmp nat_cmp text (text ++ byte ∷ after) ≡ Less
    shorter [] = refl
    shorter (first ∷ text) =
        ap (λ o. ordering_then o (slice_cmp nat_cmp text (text ++ byte ∷ after)))
        (sym (nat_cmp_is first first Equal refl))
        ∙ shorter text

-- one coordinate is as itself
coord_cmp-same : (c : Coord) → coord_cmp c c ≡ Equal
coord_cmp-same (coord.Text name) = same name
  where
    same : (text : List ℕ) → slice_cmp nat_cmp text text ≡ Equal
    same [] = refl
    same (first ∷ text) =
        ap (λ o. ordering_then o (slice_cmp nat_cmp text text)) (sym (nat_cmp_is first first Equal refl)) ∙ same text
coord_cmp-same coord.Null = refl
coord_cmp-same coord.All = refl

pub key_cmp-first : (first : Coord) (coords others : List Coord)
    → key_cmp (key_with (first ∷ coords)) (key_with (first ∷ others)) ≡ key_cmp (key_with coords) (key_with others)
key_cmp-first first coords others =
    ap (λ o. ordering_then o (slice_cmp coord_cmp coords others)) (coord_cmp-same first)
