use Rattle.std.proofs.Common.{ℤ, List, [], ◌∷◌, ◌++◌, ◌≡◌, ◌<◌, rules, FitsSigned, w32, w64}
use Rattle.std.specs.Bool.{OnTrue}
use Rattle.std.proofs.lemmas.Int.{to_z-of_z}
use Rattle.cube_values.specs.Bag.{Bag, held_of}
use Rattle.cube_values.specs.Log.{without_one}
use Rattle.cube_values.specs.Ordered.{KeepsEnds}
use Rattle.cube_values.proofs.OrderedLaws.{IsListed-owed, AddsOne-without_one, FitsSigned-among}
use Rattle.cube_values.proofs.ordered.Ordered.take.Goals as goal

pub overflow_cast-value : goal.overflow_cast-value
overflow_cast-value c =
    let fits : FitsSigned w64 c.args.value = c.ranges.value in
    let least : FitsSigned w32 c.self.inside.least = search rules in
    let greatest : FitsSigned w32 c.self.inside.greatest = search rules in
    let held : 0 < held_of c.self.inside.trace.bag c.args.value = rw (← c.self.view_is) at c.requires.held in
    rw (to_z-of_z w64 c.args.value fits) (FitsSigned-among c.self.inside.least c.self.inside.greatest c.args.value
    least greatest (c.self.invariant.ends.least.below c.args.value held)
    (c.self.invariant.ends.greatest.above c.args.value held))

pub invariant_of-self : goal.invariant_of-self
invariant_of-self c =
    let bag : Bag = c.self.inside.trace.bag in
    let taken : List ℤ = c.self.inside.taken.items in
    let fits : FitsSigned w64 c.args.value = c.ranges.value in
    let least : FitsSigned w32 c.self.inside.least = search rules in
    let greatest : FitsSigned w32 c.self.inside.greatest = search rules in
    let held : 0 < held_of bag c.args.value = rw (← c.self.view_is) at c.requires.held in
    let narrow : FitsSigned w32 c.args.value = FitsSigned-among c.self.inside.least c.self.inside.greatest c.args.value
    least greatest (c.self.invariant.ends.least.below c.args.value held)
    (c.self.invariant.ends.greatest.above c.args.value held) in
    let items : c.owe.new.taken.items ≡ taken ++ c.args.value ∷ [] = search (rules, to_z-of_z) in
    let trace : c.without-self-inside.result.bag ≡ without_one c.args.value bag = search (rules, to_z-of_z) in
    let keeps : OnTrue c.keeps_ends.result (KeepsEnds bag c.args.value) =
    rw (to_z-of_z w64 c.args.value fits, ← c.self.view_is) at c.keeps_ends.ensures in
    rw (items, trace) (IsListed-owed bag c.self.inside.numbers.items taken c.args.value c.self.inside.sorted
    c.self.inside.least c.self.inside.greatest c.self.invariant held (rw c.if-keeps_ends.true at keeps))

pub returns-then-owe : goal.returns-then-owe
returns-then-owe c =
    let bag : Bag = c.self.inside.trace.bag in
    let fits : FitsSigned w64 c.args.value = c.ranges.value in
    let held : 0 < held_of bag c.args.value = rw (← c.self.view_is) at c.requires.held in
    let trace : c.without-self-inside.result.bag ≡ without_one c.args.value bag = search (rules, to_z-of_z) in
    rw (trace, ← c.self.view_is) (AddsOne-without_one bag c.args.value held)
