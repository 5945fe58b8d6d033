use Rattle.std.proofs.Common.{◌≡◌, ◌<◌, All, length, rules, false}
use Rattle.std.specs.Prelude.{IfSome, IfNone}
use Rattle.std.specs.List.{HoldsAt}
use Rattle.std.specs.Ordering.{int_eq}
use Rattle.cube_values.proofs.NarrowLaws.{held_by_place_once, absent_by_place_once}
use Rattle.cube_values.proofs.narrow.Narrow.holds.Goals as goal

pub returns-clause-held : goal.returns-clause-held
returns-clause-held c =
    let inside : IfSome c.place_of.result (λ i. i < length c.self.inside.numbers.items) =
    rw (← c.deref.ensures.value) c.place_of.ensures.within in
    let found : IfSome c.place_of.result (HoldsAt (λ x. x ≡ c.args.value) c.self.inside.numbers.items) = search rules in
    rw (c.is_some.ensures, ← c.self.view_is)
    (held_by_place_once c.self.inside.numbers.items c.args.value c.place_of.result inside found)

pub returns-clause-absent : goal.returns-clause-absent
returns-clause-absent c =
    let none : IfNone c.place_of.result (All (λ x. int_eq c.args.value x ≡ false) c.self.inside.numbers.items) =
    search rules in
    rw (c.is_some.ensures, ← c.self.view_is)
    (absent_by_place_once c.self.inside.numbers.items c.args.value c.place_of.result none)
