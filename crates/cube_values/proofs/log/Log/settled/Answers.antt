use Rattle.std.proofs.Common.{◌≡◌, ◌∙◌, ℤ, List, arith, rules}
use Rattle.cube_values.specs.Bag.{Bag, SameHeld}
use Rattle.cube_values.specs.Log.{without}
use Rattle.cube_values.proofs.BagLaws.{size_of_same}
use Rattle.cube_values.proofs.OwedLaws.{Owes-fits, Covers-SameHeld, SameHeld-without, SameHeld-both, written_back}
use Rattle.cube_values.proofs.log.Log.settled.Goals as goal

pub pay-requires-clause-covered : goal.pay-requires-clause-covered
pay-requires-clause-covered c =
    let pairs : Bag = c.self.inside.pairs.items in
    let owed : List ℤ = c.self.inside.taken.items in
    let sorted : Bag = c.in_ok-pairs.pairs.items in
    let same : SameHeld pairs sorted = search rules in
    let items : c.deref_mut.result.now ≡ sorted = search rules in
    let listed : c.deref-2.result.now ≡ owed = search rules in
    rw (items, listed) (Covers-SameHeld pairs sorted owed c.self.invariant.0.covered same)

pub pay-requires-clause-fits : goal.pay-requires-clause-fits
pay-requires-clause-fits c =
    let pairs : Bag = c.self.inside.pairs.items in
    let sorted : Bag = c.in_ok-pairs.pairs.items in
    let same : SameHeld pairs sorted = search rules in
    let items : c.deref_mut.result.now ≡ sorted = search rules in
    let fits = Owes-fits pairs c.self.inside.taken.items c.self.inside.total c.self.invariant.0
    (rw (← c.self.view_is) at c.requires) in
    rw items (omega (arith, fits, size_of_same pairs sorted same))

pub returns-clause-same : goal.returns-clause-same
returns-clause-same c =
    let pairs : Bag = c.self.inside.pairs.items in
    let owed : List ℤ = c.self.inside.taken.items in
    let sorted : Bag = c.in_ok-pairs.pairs.items in
    let paid : Bag = c.pay.new.pairs in
    let same : SameHeld pairs sorted = search rules in
    let items : c.deref_mut.result.now ≡ sorted = search rules in
    let listed : c.deref-2.result.now ≡ owed = search rules in
    let left : SameHeld (without owed sorted) paid = rw (items, listed) at c.pay.ensures.same in
    let back = written_back paid sorted c.in_ok-pairs.pairs.len c.in_ok-pairs.pairs.ok.0
    (c.pay.auto.pairs ∙ c.deref_mut.ensures.len) in
    rw (back, ← c.self.view_is) (SameHeld-both (without owed pairs) (without owed sorted) paid
    (SameHeld-without pairs sorted owed same) left)
