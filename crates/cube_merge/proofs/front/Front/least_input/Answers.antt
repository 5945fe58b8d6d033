use Rattle.std.proofs.Common.{length}
use Rattle.cube_merge.proofs.LeastLaws.{AreAbove-none, IsInFront-none, IsLeastSoFar-in}
use Rattle.cube_merge.proofs.front.Front.least_input.Goals as goal

pub returns-clause-front : goal.returns-clause-front
returns-clause-front g c = IsInFront-none c.args.inputs.now c.clear.new.self.items c.least_in.result
    (length c.args.inputs.now) c.clear.ensures.items c.least_in.ensures

pub returns-clause-least : goal.returns-clause-least
returns-clause-least g c =
    IsLeastSoFar-in c.args.inputs.now c.least_in.result (length c.args.inputs.now) c.least_in.ensures

pub returns-clause-above : goal.returns-clause-above
returns-clause-above g c =
    AreAbove-none c.set_bound.new.self.bound c.clear.new.self.items c.args.inputs.now c.clear.ensures.items
