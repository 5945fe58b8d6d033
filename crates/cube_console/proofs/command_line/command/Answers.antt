use Rattle.std.proofs.Common.{◌∙◌, ap}
use Rattle.std.proofs.lemmas.Result.{IfOk-weaker}
use Rattle.clap.specs.Words.{App}
use Rattle.cube_console.specs.CommandLine.{with_feeds_of, with_words}
use Rattle.cube_console.proofs.command_line.command.Goals as goal

pub returns-clause-line : goal.returns-clause-line
returns-clause-line c =
    let line = c.args.line.now in
    let own = c.in_ok-own.ensures.line ∙ ap (λ (app : App). with_words app line.words.now) c.described.ensures.line in
    let fed = c.in_ok-fed.ensures.line ∙ ap (with_feeds_of line) own in
    IfOk-weaker c.with_words-2.result _ _
    (λ command made. made ∙ ap (λ (app : App). with_words app line.options.now) fed) c.with_words-2.ensures.line
