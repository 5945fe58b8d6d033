use Rattle.std.proofs.Common.{◌≡◌, ◌+◌, length, rules}
use Rattle.cube_live.proofs.ServingLaws.{WritesNone-second}
use Rattle.cube_live.proofs.session.write_reply.Goals as goal

pub returns-in-Err-clause-err : goal.returns-in-Err-clause-err
returns-in-Err-clause-err g c =
    let is : c.in-Some.before ≡ c.args.sent + length c.args.line.now = search (rules, c.in-Some.ensures) in
    WritesNone-second c.args.line.now c.args.text.now c.args.sent c.in-Some.before c.in-Err.fault _
    (g.W.Write.contents c.write_part.new.out) _
    is c.in_ok-write_part.ensures.ok c.in-Err.ensures.err
