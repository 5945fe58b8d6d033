use Rattle.std.proofs.Common.{◌∙◌, ap}
use Rattle.std.proofs.lemmas.Result.{IfOk-weaker}
use Rattle.clap.specs.Words.{App, app_of, with_subcommand}
use Rattle.cube_console.proofs.command_line.with_command.Goals as goal

pub returns : goal.returns
returns c =
    IfOk-weaker c.subcommand.result _ _
    (λ all adds. adds.shape c.in_ok-command.ensures.local
    ∙ ap (λ (sub : App). with_subcommand (app_of c.args.program) sub.top) c.in_ok-command.ensures.line)
    c.subcommand.ensures
