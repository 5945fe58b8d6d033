use Rattle.std.proofs.Common.{arith, ◌≡◌, ◌<◌, ◌==◌, ◌+◌, ◌∷◌, ◌++◌, ◌∙◌, [], Bool, List, ap, filter, length, map, take}
use Rattle.std.proofs.lemmas.List.Elements.{filter-append}
use Rattle.cube_core.specs.declared.fact.Fact.{Fact}
use Rattle.cube_cells.specs.Gathered.{share_of_fact}
use Rattle.cube_cells.proofs.Filling.GatheredLaws.{AreMarks-place, take_fact}
use Rattle.cube_cells.proofs.cube.gathered.pick.Goals as goal

pub loop-place-preserved : goal.loop-place-preserved
loop-place-preserved c = λ shares are.
    let i = c.loop-place.place in
    let refs = c.args.facts.now in
    let facts : List Fact = map (λ fact. fact.now) refs in
    let fact = c.index-facts-place.result in
    let inside : i < length refs = omega (arith, c.requires) in
    let is = c.index-facts-place.is in
    let p : Fact → Bool = λ f. share_of_fact shares f == c.args.share in
    let next : filter p (take (i + 1) facts) ≡ filter p (take i facts) ++ filter p (fact.now ∷ []) =
    ap (filter p) (take_fact refs i fact inside is) ∙ filter-append p (take i facts) (fact.now ∷ []) in
    let mark = c.from.ensures ∙ AreMarks-place shares refs c.args.marks.now i fact are inside is in
    rw next (rw (c.loop-place.invariant shares are, mark) at c.in_ok-push_if.ensures)
