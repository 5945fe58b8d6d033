use Rattle.std.proofs.Common.{arith, ap}
use Rattle.cube_values.specs.Bag.{size_of}
use Rattle.cube_values.proofs.BagLaws.{held_le_size}
use Rattle.cube_values.proofs.counted.Counted.len.Goals as goal

pub returns-clause-held : goal.returns-clause-held
returns-clause-held c = λ v. omega (arith, held_le_size c.args.self.now v, ap size_of c.self.view_is, c.self.invariant)
