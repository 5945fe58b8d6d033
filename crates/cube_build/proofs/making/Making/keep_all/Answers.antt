use Rattle.std.proofs.Common.{ap, map, Some}
use Rattle.std.specs.Prelude.{option_map}
use Rattle.cube_build.proofs.DraftLaws.{map-one_more}
use Rattle.cube_build.proofs.making.Making.keep_all.Goals as goal

pub loop-one-preserved : goal.loop-one-preserved
loop-one-preserved c =
    let loop = c.loop-one in
    let part = c.in-Some-one.part in
    let is = c.in-Some-one.is in
    let kept = c.in_ok-keep.ensures in (
      map-one_more (option_map (λ part. part.builder)) Some loop.yielded c.in-Some.one loop.self.builders.items
          part.builder c.keep.new.self.builders.items loop.invariant.0
          (ap (option_map (λ part. part.builder)) is) kept.builders,
      map-one_more (option_map (λ part. part.inlets.items)) Some loop.yielded c.in-Some.one
          (map (λ links. links.inlets.items) loop.self.links.items) part.inlets.items
          (map (λ links. links.inlets.items) c.keep.new.self.links.items) loop.invariant.1
          (ap (option_map (λ part. part.inlets.items)) is) kept.links,
    )
