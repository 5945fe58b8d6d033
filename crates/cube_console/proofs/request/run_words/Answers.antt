use Rattle.std.proofs.Common.{Some, arith}
use Rattle.std.proofs.lemmas.Grind.{common_steps}
use Rattle.clap.specs.Words.{found_of, rows_of}
use Rattle.cube_console.proofs.RequestLaws.{AreLiveWords-AreRunWords, LiveHasRoom-RunHasRoom, live_of}
use Rattle.cube_console.proofs.request.run_words.Goals as goal

pub returns-in_default-clause-none : goal.returns-in_default-clause-none
returns-in_default-clause-none c run are room =
    let live = c.live_words.ensures.none (live_of run)
    (AreLiveWords-AreRunWords (rows_of (found_of c.args.words.now)) run are) (LiveHasRoom-RunHasRoom run room) in
    let built = c.number_of.ensures.err (Some run.builders) are.builders (room.least_builders, room.most_builders) in
    let seen = c.view_words.ensures.none run.view are.view room.view in
    grind (arith, common_steps)
