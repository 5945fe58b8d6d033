use Rattle.std.proofs.Common.{ℤ, List, ◌≡◌, ◌<◌, false, length, arith, rules, FitsSigned, w32}
use Rattle.std.specs.Prelude.{All, Contains, ◌≤ℤ◌}
use Rattle.std.specs.List.{HoldsAt}
use Rattle.std.specs.Ordering.{int_eq}
use Rattle.std.proofs.lemmas.Int.{to_z-of_z}
use Rattle.cube_values.specs.Bag.{held_of}
use Rattle.cube_values.specs.Narrow.{once_each}
use Rattle.cube_values.proofs.NarrowLaws.{held_of-absent_once, takes_once, HasEnds-numbers}
use Rattle.cube_values.proofs.narrow.Narrow.take.Goals as goal

pub returns-in_default : goal.returns-in_default
returns-in_default c =
    let numbers : List ℤ = c.self.inside.numbers.items in
    let held : 0 < held_of (once_each numbers) c.args.value = rw (← c.self.view_is) at c.requires.held in
    let none : All (λ x. int_eq c.args.value x ≡ false) numbers = search rules in
    absurd (omega (arith, held, held_of-absent_once numbers c.args.value none))

pub invariant_of-self : goal.invariant_of-self
invariant_of-self c =
    let left : List ℤ = c.swap_remove.new.self.items in
    let low : Contains left c.in-Some-Some.least = search rules in
    let below : All (λ x. c.in-Some-Some.least ≤ℤ x) left = search rules in
    let high : Contains left c.in-Some-Some.greatest = search rules in
    let above : All (λ x. x ≤ℤ c.in-Some-Some.greatest) left = search rules in
    let low_fits : FitsSigned w32 c.in-Some-Some.least = search rules in
    let high_fits : FitsSigned w32 c.in-Some-Some.greatest = search rules in
    rw (
      to_z-of_z w32 c.in-Some-Some.least low_fits,
      to_z-of_z w32 c.in-Some-Some.greatest high_fits,
    ) (HasEnds-numbers left c.in-Some-Some.least c.in-Some-Some.greatest low below high above)

pub returns-in-Some-Some : goal.returns-in-Some-Some
returns-in-Some-Some c =
    let numbers : List ℤ = c.self.inside.numbers.items in
    let within : c.in-Some.place < length numbers = search rules in
    let found : HoldsAt (λ x. x ≡ c.args.value) numbers c.in-Some.place = search rules in
    rw (c.swap_remove.ensures.items, ← c.self.view_is)
    (takes_once numbers c.in-Some.place c.swap_remove.result c.args.value within c.swap_remove.ensures.value found)
