use Rattle.std.proofs.Common.{arith, rules, ◌≡◌}
use Rattle.cube_values.specs.Bag.{held_of}
use Rattle.cube_values.specs.Values.{bag_of}
use Rattle.cube_values.proofs.counted.Counted.remove.Goals as goal

pub returns-else-was_held-clause-found : goal.returns-else-was_held-clause-found
returns-else-was_held-clause-found c =
    let none : held_of (bag_of c.self.inside.values) c.args.value ≡ 0 = search rules in
    rw (← c.self.view_is) (λ h. cc, λ h. absurd (omega (arith, none, h)))
