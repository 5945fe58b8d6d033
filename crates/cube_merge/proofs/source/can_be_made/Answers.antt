use Rattle.std.proofs.Common.{sym}
use Rattle.cube_merge.proofs.SourceLaws.{IsSourceOf-can}
use Rattle.cube_merge.proofs.source.can_be_made.Goals as goal

pub returns-in-Some : goal.returns-in-Some
returns-in-Some c = sym (IsSourceOf-can c.args.given.now c.args.wanted.now _ c.in-Some.ensures.some)
