use Rattle.std.proofs.Common.{◌≡◌, [], arith}
use Rattle.std.proofs.lemmas.List.{replicate_more}
use Rattle.cube_cells.proofs.cube.new_dictionaries.Goals as goal

pub loop-place-init : goal.loop-place-init
loop-place-init c = c.in_ok-dictionaries.ensures.items

pub loop-place-preserved : goal.loop-place-preserved
loop-place-preserved c =
    rw (c.in_ok-push.ensures.items, c.loop-place.invariant, c.new.ensures) (replicate_more c.loop-place.place [])

pub returns : goal.returns
returns c =
    let all : c.loop-place.place ≡ c.args.dimensions = omega arith in
    rw all at c.loop-place.invariant
