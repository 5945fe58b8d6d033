use Rattle.std.proofs.Common.{refl}
use Rattle.cube_console.proofs.MakesLaws.{Makes-end, Makes-goes}
use Rattle.cube_console.proofs.views.lines.JsonLines.take_byte.Goals as goal

pub returns : goal.returns
returns c whole =
    let ended = c.in_ok-end_record.ensures in
    Makes-end c.args.self.now c.end_record.new.self c.take.new.self c.args.byte _ c.in_ok-take.ensures.ends c.if-not-branch.false
    (c.in_ok-take.ensures.reads whole) ended.dimensions ended.whole ended.reading ended.columns ended.ready
