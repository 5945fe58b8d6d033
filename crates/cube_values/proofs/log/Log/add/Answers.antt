use Rattle.std.proofs.Common.{ℤ, List, ◌≡◌, ◌+◌, ◌^◌, ◌<◌, ◌++◌, ◌∷◌, [], Some, arith, rules, FitsSigned, w64}
use Rattle.std.proofs.lemmas.Int.{to_z-of_z}
use Rattle.cube_values.specs.Bag.{Bag, HasEnds}
use Rattle.cube_values.specs.Log.{Owes, without}
use Rattle.cube_values.proofs.BagLaws.{weight_of-cons}
use Rattle.cube_values.proofs.EndLaws.{HasEnds-pair, HasEnds-AddsBag}
use Rattle.cube_values.proofs.OwedLaws.{Owes-append, AddsBag-without, AddsTimes-AddsBag_pair}
use Rattle.cube_values.proofs.log.Log.add.Goals as goal

pub invariant_of-self-2 : goal.invariant_of-self-2
invariant_of-self-2 c =
    let fits : FitsSigned w64 c.args.value = c.ranges.value in
    let pairs : Bag = c.self.inside.pairs.items in
    let taken : List ℤ = c.self.inside.taken.items in
    let more : Bag = (c.args.value, c.args.times) ∷ [] in
    let owes : Owes pairs taken (Some c.in-Some-Some.total) = search rules in
    let old : HasEnds (without taken pairs) c.in-Some-Some.ends.least c.in-Some-Some.ends.greatest = search rules in
    let items : c.push.new.self.items ≡ pairs ++ more = search rules in
    let low = simp to_z-of_z at c.joined.ensures.least in
    let high = simp to_z-of_z at c.joined.ensures.greatest in
    let sum : c.in-Some.total ≡ c.in-Some-Some.total + c.args.times = search rules in
    let sum_fits : c.in-Some.total < 2 ^ 64 = search rules in
    let adds = AddsBag-without taken pairs more owes.covered in (
      rw items (Owes-append pairs more taken c.in-Some-Some.total c.args.times c.in-Some.total owes
          (omega (arith, weight_of-cons (λ _. 1) (c.args.value, c.args.times) [])) sum sum_fits),
      rw (items, low, high) (HasEnds-AddsBag (without taken pairs) (without taken (pairs ++ more))
          more c.in-Some-Some.ends.least c.in-Some-Some.ends.greatest c.args.value c.args.value adds old
          (HasEnds-pair c.args.value c.args.times c.requires)),
      tt,
    )

pub returns-clause-added : goal.returns-clause-added
returns-clause-added c =
    let pairs : Bag = c.self.inside.pairs.items in
    let taken : List ℤ = c.self.inside.taken.items in
    let more : Bag = (c.args.value, c.args.times) ∷ [] in
    let owes : Owes pairs taken (Some c.in-Some-Some.total) = search rules in
    let items : c.push.new.self.items ≡ pairs ++ more = search rules in
    λ h. rw (items, ← c.self.view_is) (AddsTimes-AddsBag_pair (without taken pairs)
    (without taken (pairs ++ more)) c.args.value c.args.times (AddsBag-without taken pairs more owes.covered))
