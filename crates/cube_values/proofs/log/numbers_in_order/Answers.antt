use Rattle.std.proofs.Common.{◌≡◌, ℤ, List, arith, rules, ◌∙◌}
use Rattle.std.specs.List.Sorted.{IsPermutation, IsSorted}
use Rattle.std.specs.Ordering.{int_cmp}
use Rattle.cube_values.specs.Bag.{Bag, SameHeld}
use Rattle.cube_values.specs.Narrow.{once_each}
use Rattle.cube_values.proofs.BagLaws.{size_of_same}
use Rattle.cube_values.proofs.NarrowLaws.{IsSorted-Rises, SameHeld-permuted}
use Rattle.cube_values.proofs.OwedLaws.{written_back}
use Rattle.cube_values.proofs.StatisticsLaws.{AreInOrder-SameHeld}
use Rattle.cube_values.proofs.log.numbers_in_order.Goals as goal

pub join_counts-requires-clause-rises : goal.join_counts-requires-clause-rises
join_counts-requires-clause-rises c =
    let sorted : List ℤ = c.sort.new.self.items in
    let up : IsSorted int_cmp sorted = search rules in
    let is : c.deref_mut.result.now ≡ once_each sorted = search rules in
    rw is (IsSorted-Rises sorted up)

pub join_counts-requires-clause-fits : goal.join_counts-requires-clause-fits
join_counts-requires-clause-fits c =
    let numbers : List ℤ = c.args.numbers.now in
    let sorted : List ℤ = c.sort.new.self.items in
    let moved : IsPermutation numbers sorted = search rules in
    let is : c.deref_mut.result.now ≡ once_each sorted = search rules in
    rw is (omega (
      arith,
      c.requires,
      size_of_same (once_each numbers) (once_each sorted) (SameHeld-permuted numbers sorted moved),
    ))

pub returns : goal.returns
returns c =
    let numbers : List ℤ = c.args.numbers.now in
    let sorted : List ℤ = c.sort.new.self.items in
    let joined : Bag = c.join_counts.new.pairs in
    let moved : IsPermutation numbers sorted = search rules in
    let same : SameHeld (once_each numbers) (once_each sorted) = SameHeld-permuted numbers sorted moved in
    let is : c.deref_mut.result.now ≡ once_each sorted = search rules in
    let counted : SameHeld (once_each sorted) joined = (rw is at c.join_counts.ensures.same) in
    let whole : SameHeld (once_each numbers) joined = record { held = λ x. same.held x ∙ counted.held x } in
    let items = written_back joined c.in_ok-pairs.pairs.items c.in_ok-pairs.pairs.len c.in_ok-pairs.pairs.ok.0
    (c.join_counts.auto.pairs ∙ c.deref_mut.ensures.len) in
    AreInOrder-SameHeld (once_each numbers) joined c.drop_uncounted.new.pairs.items whole
    ((rw items at c.drop_uncounted.ensures.ordered) c.join_counts.ensures.ordered)
