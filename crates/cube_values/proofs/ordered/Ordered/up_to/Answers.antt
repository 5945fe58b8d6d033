use Rattle.std.proofs.Common.{ℤ, ℕ, List, ◌≡◌, ◌<◌, ◌^◌, take, drop, length, arith, rules}
use Rattle.std.proofs.lemmas.Int.{to_z-of_z}
use Rattle.cube_values.specs.Bag.{Bag}
use Rattle.cube_values.specs.Narrow.{once_each}
use Rattle.cube_values.specs.Statistics.{one_up_to, size_up_to}
use Rattle.cube_values.proofs.NarrowLaws.{size_of-once_each}
use Rattle.cube_values.proofs.OrderedLaws.{weight_of-listed, size_of-listed}
use Rattle.cube_values.proofs.StatisticsLaws.{size_up_to-size_of}
use Rattle.cube_values.proofs.ordered.Ordered.up_to.Goals as goal

pub overflow_add-result : goal.overflow_add-result
overflow_add-result c =
    let bag : Bag = c.self.inside.trace.bag in
    let numbers : List ℤ = c.self.inside.numbers.items in
    let taken : List ℤ = c.self.inside.taken.items in
    let n : ℕ = c.self.inside.sorted in
    let first : c.sorted_up_to.result ≡ size_up_to (once_each (take n numbers)) c.args.value =
    search (rules, to_z-of_z) in
    let others : c.narrow_up_to.result ≡ size_up_to (once_each (drop n numbers)) c.args.value =
    search (rules, to_z-of_z) in
    let fits : length numbers < 2 ^ 64 = search rules in
    omega (
      arith,
      first,
      others,
      fits,
      weight_of-listed (one_up_to c.args.value) bag numbers taken n c.self.invariant.same,
      size_up_to-size_of bag c.args.value,
      size_up_to-size_of (once_each taken) c.args.value,
      size_of-once_each taken,
      size_of-listed bag numbers taken c.self.invariant.same,
    )

pub overflow_sub-result : goal.overflow_sub-result
overflow_sub-result c =
    let bag : Bag = c.self.inside.trace.bag in
    let numbers : List ℤ = c.self.inside.numbers.items in
    let taken : List ℤ = c.self.inside.taken.items in
    let n : ℕ = c.self.inside.sorted in
    let first : c.sorted_up_to.result ≡ size_up_to (once_each (take n numbers)) c.args.value =
    search (rules, to_z-of_z) in
    let others : c.narrow_up_to.result ≡ size_up_to (once_each (drop n numbers)) c.args.value =
    search (rules, to_z-of_z) in
    let owed : c.narrow_up_to-2.result ≡ size_up_to (once_each taken) c.args.value = search (rules, to_z-of_z) in
    omega (
      arith,
      first,
      others,
      owed,
      weight_of-listed (one_up_to c.args.value) bag numbers taken n c.self.invariant.same,
    )

pub returns : goal.returns
returns c =
    let bag : Bag = c.self.inside.trace.bag in
    let numbers : List ℤ = c.self.inside.numbers.items in
    let taken : List ℤ = c.self.inside.taken.items in
    let n : ℕ = c.self.inside.sorted in
    let first : c.sorted_up_to.result ≡ size_up_to (once_each (take n numbers)) c.args.value =
    search (rules, to_z-of_z) in
    let others : c.narrow_up_to.result ≡ size_up_to (once_each (drop n numbers)) c.args.value =
    search (rules, to_z-of_z) in
    let owed : c.narrow_up_to-2.result ≡ size_up_to (once_each taken) c.args.value = search (rules, to_z-of_z) in
    rw (← c.self.view_is) (omega (
      arith,
      first,
      others,
      owed,
      weight_of-listed (one_up_to c.args.value) bag numbers taken n c.self.invariant.same,
    ))
