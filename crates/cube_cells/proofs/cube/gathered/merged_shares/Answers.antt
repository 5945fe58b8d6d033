use Rattle.std.proofs.Common.{rules, ◌≡◌, ◌==◌, ◌+◌, ◌∷◌, ◌++◌, ◌∙◌, [], filter, length, subst, sym}
use Rattle.std.proofs.lemmas.Iterator.Adapters.{YieldsList-from_vec}
use Rattle.std.proofs.lemmas.Iterator.Consumers.{YieldsList-end, YieldsList-turn}
use Rattle.std.proofs.lemmas.List.{length-append, map-id}
use Rattle.cube_core.specs.Layout.{cube_schema}
use Rattle.cube_cells.specs.Cube.{Lattice}
use Rattle.cube_cells.specs.Gathered.{HasGatheredShare, share_of_fact}
use Rattle.cube_cells.proofs.Filling.GatheredLaws.{HasGathered-all_shares, HasGathered-no_share, HasGathered-none}
use Rattle.cube_cells.proofs.Filling.GatheredLaws.{HasGathered-share, below}
use Rattle.cube_cells.proofs.cube.gathered.merged_shares.Goals as goal

pub loop-cube-init : goal.loop-cube-init
loop-cube-init g c = λ facts are.
    let schema = cube_schema c.args.schema.now in
    HasGathered-no_share schema facts (share_of_fact (length c.args.cubes.items)) c.in_ok-whole.whole
    (HasGathered-none c.args.schema.now c.in_ok-whole.whole c.in_ok-whole.ensures.new c.in_ok-whole.ensures.cube)

pub loop-cube-preserved : goal.loop-cube-preserved
loop-cube-preserved g c = λ facts are.
    let schema = cube_schema c.args.schema.now in
    let loop = c.loop-cube in
    let cubes = c.args.cubes.items in
    let k = length loop.yielded in
    let share = share_of_fact (length cubes) in
    let gives = c.into_iter-cube-iterator.ensures.into_iter_gives in
    let turn = YieldsList-turn (YieldsList-from_vec cubes (search (rules, gives)) (search (rules, gives)))
    loop.yielded loop.cube-iterator loop.yielded_by c.next.result c.next.new.self c.in-Some.cube c.in-Some.is
    c.next.ensures.steps in
    let here : HasGatheredShare schema facts (length cubes) k c.in-Some.cube =
    subst (λ (cube : Lattice). HasGatheredShare schema facts (length cubes) k cube) (sym turn.1)
    (are.each k c.in-Some.cube turn.0) in
    let both = c.in_ok-whole-2.ensures schema (below share k facts)
    (filter (λ fact. share fact == k) facts) (loop.invariant facts are) here in
    let more : length (loop.yielded ++ c.in-Some.cube ∷ []) ≡ k + 1 =
    length-append loop.yielded (c.in-Some.cube ∷ []) in
    rw more (HasGathered-share schema facts share k c.in_ok-whole-2.whole both)

pub returns : goal.returns
returns g c = λ facts are.
    let loop = c.loop-cube in
    let cubes = c.args.cubes.items in
    let gives = c.into_iter-cube-iterator.ensures.into_iter_gives in
    let ends = YieldsList-end (YieldsList-from_vec cubes (search (rules, gives)) (search (rules, gives)))
    loop.yielded loop.cube-iterator loop.yielded_by c.next.result c.next.new.self c.in-None.is c.next.ensures.steps in
    let all : loop.yielded ≡ cubes = sym (map-id loop.yielded) ∙ ends.0 in
    HasGathered-all_shares (cube_schema c.args.schema.now) facts (length cubes) loop.whole c.requires.some
    (rw all at (loop.invariant facts are))
