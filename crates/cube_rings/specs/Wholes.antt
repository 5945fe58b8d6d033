-- Several builders as one (this project's choice).
use Rattle.std.specs.Prelude.{◌≡◌, List, false, map, flat_map}
use Rattle.std.specs.Global.{Vec}
use Rattle.std.specs.List.{All}
use Rattle.cube_rings.specs.Link.{Receiving}
use Rattle.cube_rings.specs.declared.parcel.Parcel.{Parcel}
use Rattle.cube_rings.specs.declared.gatherer.Gatherer.{Gatherer}

-- the inlets of builders, one builder's after another's
abbrev pub inlets_of : {B : Type 0} → List (Gatherer B) → List (Receiving Parcel)
inlets_of gatherers = flat_map (λ gatherer. gatherer.inlets.items) gatherers

-- what builders are together: the list of them, with the inlets of all, and memory ran out where it was for one
pub record IsWholeOf {B : Type 0} (gatherers : List (Gatherer B)) (whole : Gatherer (Vec B)) : Type 0 where
  pub builders : map (λ gatherer. gatherer.builder) gatherers ≡ whole.builder.items
  pub inlets : inlets_of gatherers ≡ whole.inlets.items
  pub enough : whole.wanting ≡ false → All (λ gatherer. gatherer.wanting ≡ false) gatherers
