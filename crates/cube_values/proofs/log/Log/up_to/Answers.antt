use Rattle.std.proofs.Common.{ℤ, List, ◌≡◌, arith, rules, FitsSigned, w64}
use Rattle.std.proofs.lemmas.Int.{to_z-of_z}
use Rattle.cube_values.specs.Bag.{Bag}
use Rattle.cube_values.specs.Narrow.{once_each}
use Rattle.cube_values.specs.Statistics.{one_up_to, size_up_to}
use Rattle.cube_values.proofs.OwedLaws.{weight_of-owed}
use Rattle.cube_values.proofs.log.Log.up_to.Goals as goal

pub overflow_sub-result : goal.overflow_sub-result
overflow_sub-result c =
    let fits : FitsSigned w64 c.args.value = c.ranges.value in
    let pairs : Bag = c.self.inside.pairs.items in
    let taken : List ℤ = c.self.inside.taken.items in
    let added : c.pairs_up_to.result ≡ size_up_to pairs c.args.value = search (rules, to_z-of_z) in
    let owed : c.numbers_up_to.result ≡ size_up_to (once_each taken) c.args.value = search (rules, to_z-of_z) in
    omega (arith, added, owed, weight_of-owed (one_up_to c.args.value) taken pairs c.self.invariant.0.covered)

pub returns : goal.returns
returns c =
    let fits : FitsSigned w64 c.args.value = c.ranges.value in
    let pairs : Bag = c.self.inside.pairs.items in
    let taken : List ℤ = c.self.inside.taken.items in
    let added : c.pairs_up_to.result ≡ size_up_to pairs c.args.value = search (rules, to_z-of_z) in
    let owed : c.numbers_up_to.result ≡ size_up_to (once_each taken) c.args.value = search (rules, to_z-of_z) in
    rw (← c.self.view_is)
    (omega (arith, added, owed, weight_of-owed (one_up_to c.args.value) taken pairs c.self.invariant.0.covered))
