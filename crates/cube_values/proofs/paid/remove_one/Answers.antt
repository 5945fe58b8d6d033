use Rattle.std.proofs.Common.{ℤ, List, ◌≡◌, ◌<◌, false, length, arith, rules}
use Rattle.std.specs.Prelude.{All}
use Rattle.std.specs.List.{HoldsAt}
use Rattle.std.specs.Ordering.{int_eq}
use Rattle.cube_values.proofs.NarrowLaws.{held_of-absent_once}
use Rattle.cube_values.proofs.OrderedLaws.{AddsOne-remove}
use Rattle.cube_values.proofs.paid.remove_one.Goals as goal

pub returns-in_default : goal.returns-in_default
returns-in_default c =
    let numbers : List ℤ = c.args.numbers.now.items in
    let none : All (λ x. int_eq c.args.value x ≡ false) numbers = search rules in
    absurd (omega (arith, c.requires, held_of-absent_once numbers c.args.value none))

pub returns : goal.returns
returns c =
    let numbers : List ℤ = c.args.numbers.now.items in
    let within : c.in-Some.place < length numbers = search rules in
    let found : HoldsAt (λ x. x ≡ c.args.value) numbers c.in-Some.place = search rules in
    rw c.remove.ensures.items
    (AddsOne-remove numbers c.in-Some.place c.remove.result c.args.value within c.remove.ensures.value found)
