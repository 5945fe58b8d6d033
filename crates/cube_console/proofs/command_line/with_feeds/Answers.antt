use Rattle.std.proofs.Common.{◌≡◌, ◌∙◌, Bool, true, ap, sym, if◌then◌else◌}
use Rattle.std.proofs.lemmas.Result.{IfOk-weaker}
use Rattle.clap.specs.Words.{app_of}
use Rattle.cube_console.specs.CommandLine.{with_feeds}
use Rattle.cube_console.proofs.command_line.with_feeds.Goals as goal

pub returns-clause-line : goal.returns-clause-line
returns-clause-line c =
    let run : c.args.line.now.is_run ≡ true = c.if-not-line.false in
    let app = app_of c.args.command in
    IfOk-weaker c.with_words.result _ _
    (λ all made. made ∙ ap (λ (is_run : Bool). if is_run then with_feeds app else app) (sym run))
    c.with_words.ensures.line
