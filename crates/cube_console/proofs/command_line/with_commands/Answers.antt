use Rattle.std.proofs.Common.{◌∙◌, ◌+◌, ap, drop}
use Rattle.std.proofs.lemmas.List.{drop_more}
use Rattle.clap.specs.Words.{App}
use Rattle.cube_console.specs.CommandLine.{with_lines}
use Rattle.cube_console.proofs.command_line.with_commands.Goals as goal

pub loop-line-preserved : goal.loop-line-preserved
loop-line-preserved c =
    let rest = drop_more c.args.lines.now c.loop-line.line-index _ c.loop-line-test.true in
    ap (λ (app : App). with_lines app (drop (c.loop-line.line-index + 1) c.args.lines.now)) c.in_ok-all.ensures
    ∙ rw rest at c.loop-line.invariant
