use Rattle.std.proofs.Common.{rules, ◌≡◌, ◌∷◌, ◌∙◌, [], List, refl, ap}
use Rattle.std.specs.Prelude.{map}
use Rattle.std.proofs.lemmas.Map.Made.{map_same_pairs}
use Rattle.cube_cells.proofs.cube.fill.shrink_cells.Goals as goal

map-pairs : {K X : Type 0} (es : List (K × X)) → map (λ e. (e.0, e.1)) es ≡ es
map-pairs {K = K} {X = X} [] = refl
map-pairs {K = K} {X = X} (e ∷ es) = ap (λ (l : List (K × X)). e ∷ l) (map-pairs es)

pub returns : goal.returns
returns g c = map_same_pairs _ (λ v. v) _ (λ k v b w f' t. search rules) _ _ c.retain.ensures.filtered
    ∙ map-pairs c.args.cells.now.entries
