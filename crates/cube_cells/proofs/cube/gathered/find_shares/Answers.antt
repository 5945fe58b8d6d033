use Rattle.std.proofs.Common.{arith, rules, ◌≡◌, ◌<◌, List, length, map}
use Rattle.std.proofs.lemmas.List.{length-map}
use Rattle.cube_core.specs.declared.fact.Fact.{Fact}
use Rattle.cube_cells.proofs.Filling.GatheredLaws.{AreMarks-each}
use Rattle.cube_cells.proofs.cube.gathered.find_shares.Goals as goal

pub returns : goal.returns
returns g c =
    let refs = c.args.facts.now in
    let facts : List Fact = map (λ r. r.now) refs in
    let many : length facts ≡ length refs = length-map refs (λ r. r.now) in
    AreMarks-each c.args.shares facts c.for_each_mut.new.s (omega (arith, c.for_each_mut.auto.s, c.requires.long, many))
    (λ i unused inside.
    let here : i < length c.args.marks.now = omega (arith, inside, c.requires.long, many) in
    let at = (c.for_each_mut.ensures i 0 here).1 in
    search (rules, at))
