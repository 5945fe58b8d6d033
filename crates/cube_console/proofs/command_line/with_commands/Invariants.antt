use Rattle.std.proofs.Common.{◌≡◌, drop}
use Rattle.clap.specs.Words.{app_of}
use Rattle.cube_console.specs.CommandLine.{with_lines}
use Rattle.cube_console.proofs.command_line.with_commands.Given as goal

abbrev pub invariant-loop-line : goal.invariant-loop-line
invariant-loop-line l =
    with_lines (app_of l.all) (drop l.line-index l.lines) ≡ with_lines (app_of l.initial.all) l.lines
