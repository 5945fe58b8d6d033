use Rattle.std.proofs.Common.{ℤ, List, ◌≡◌, ◌+◌, ◌^◌, ◌<◌, ◌++◌, Some, rules}
use Rattle.cube_values.specs.Bag.{Bag, HasEnds}
use Rattle.cube_values.specs.Log.{Owes, without}
use Rattle.cube_values.proofs.EndLaws.{HasEnds-AddsBag}
use Rattle.cube_values.proofs.OwedLaws.{Owes-append, AddsBag-without}
use Rattle.cube_values.proofs.log.Log.append_pairs.Goals as goal

pub invariant_of-self-2 : goal.invariant_of-self-2
invariant_of-self-2 c =
    let pairs : Bag = c.self.inside.pairs.items in
    let taken : List ℤ = c.self.inside.taken.items in
    let more : Bag = c.args.more.now in
    let owes : Owes pairs taken (Some c.in-Some-Some.total) = search rules in
    let old : HasEnds (without taken pairs) c.in-Some-Some.ends.least c.in-Some-Some.ends.greatest = search rules in
    let items : c.extend_from_slice.new.self.items ≡ pairs ++ more = search rules in
    let sum : c.in-Some.total ≡ c.in-Some-Some.total + c.args.more_total = search rules in
    let sum_fits : c.in-Some.total < 2 ^ 64 = search rules in
    let adds = AddsBag-without taken pairs more owes.covered in (
      rw items (Owes-append pairs more taken c.in-Some-Some.total c.args.more_total c.in-Some.total owes
          c.requires.total sum sum_fits),
      rw (items, c.joined.ensures.least, c.joined.ensures.greatest)
          (HasEnds-AddsBag (without taken pairs) (without taken (pairs ++ more)) more c.in-Some-Some.ends.least
          c.in-Some-Some.ends.greatest c.args.more_ends.least c.args.more_ends.greatest adds old c.requires.ends),
      tt,
    )

pub returns-clause-added : goal.returns-clause-added
returns-clause-added c =
    let pairs : Bag = c.self.inside.pairs.items in
    let taken : List ℤ = c.self.inside.taken.items in
    let owes : Owes pairs taken (Some c.in-Some-Some.total) = search rules in
    let items : c.extend_from_slice.new.self.items ≡ pairs ++ c.args.more.now = search rules in
    λ h. rw (items, ← c.self.view_is) (AddsBag-without taken pairs c.args.more.now owes.covered)
