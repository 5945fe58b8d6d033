use Rattle.std.proofs.Common.{◌≡◌, length, rules}
use Rattle.std.proofs.lemmas.List.{nil_from_length}
use Rattle.cube_build.proofs.PartedLaws.{ArePartsWith-behind}
use Rattle.cube_build.proofs.parted.Parted.parts.Goals as goal

pub returns-clause-parts : goal.returns-clause-parts
returns-clause-parts c =
    let come = c.self.inside.come.items in
    let gone = c.self.inside.gone.items in
    let none_come : length come ≡ 0 = search rules in
    let none_gone : length gone ≡ 0 = search rules in
    rw (← c.self.view_is, c.as_slice.ensures.value)
    (ArePartsWith-behind c.self.inside.ledger c.self.inside.parts.items come gone (nil_from_length come none_come)
    (nil_from_length gone none_gone) (c.self.invariant c.if-self.false))
