use Rattle.std.proofs.Common.{◌≡◌, ◌<◌, All, length, rules, false}
use Rattle.std.specs.Prelude.{IfSome, IfNone}
use Rattle.std.specs.List.{HoldsAt}
use Rattle.std.specs.Ordering.{int_eq}
use Rattle.cube_values.proofs.BagLaws.{held_by_place, absent_by_place}
use Rattle.cube_values.proofs.short.Short.holds.Goals as goal

pub returns-clause-held : goal.returns-clause-held
returns-clause-held c =
    let inside : IfSome c.place_of.result (λ i. i < length c.self.inside.pairs.items) =
    rw (← c.deref.ensures.value) c.place_of.ensures.within in
    let found : IfSome c.place_of.result (HoldsAt (λ e. e.0 ≡ c.args.value) c.self.inside.pairs.items) = search rules in
    rw (c.is_some.ensures, ← c.self.view_is)
    (held_by_place c.self.inside.pairs.items c.args.value c.place_of.result c.self.invariant inside found)

pub returns-clause-absent : goal.returns-clause-absent
returns-clause-absent c =
    let none : IfNone c.place_of.result (All (λ e. int_eq c.args.value e.0 ≡ false) c.self.inside.pairs.items) =
    search rules in
    rw (c.is_some.ensures, ← c.self.view_is)
    (absent_by_place c.self.inside.pairs.items c.args.value c.place_of.result none)
