use Rattle.std.proofs.Common.{◌≡◌, [], ◌∷◌, ◌++◌, rules}
use Rattle.cube_feed.proofs.PlainFieldLaws.{zeros-more}
use Rattle.cube_feed.proofs.units.write_moved.Goals as goal

pub loop-done-preserved : goal.loop-done-preserved
loop-done-preserved c =
    let pushed : c.push.new.self.items ≡ c.loop-done.units.items ++ 48 ∷ [] = search rules in
    zeros-more c.loop-done.units.items c.push.new.self.items _ _ c.loop-done.done c.loop-done-test.true pushed
    c.loop-done.invariant
