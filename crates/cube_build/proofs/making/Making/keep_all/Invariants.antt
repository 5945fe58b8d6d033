use Rattle.std.proofs.Common.{◌≡◌, map, Some}
use Rattle.std.specs.Prelude.{option_map}
use Rattle.cube_build.proofs.making.Making.keep_all.Given as goal

abbrev pub invariant-loop-one : goal.invariant-loop-one
invariant-loop-one l =
    (map (option_map (λ part. part.builder)) l.yielded ≡ map Some l.self.builders.items)
    × (map (option_map (λ part. part.inlets.items)) l.yielded
    ≡ map Some (map (λ links. links.inlets.items) l.self.links.items))
