use Rattle.std.proofs.Common.{◌∙◌, ◌+◌, Bool, ap, ap₂, drop}
use Rattle.std.specs.Prelude.{◌||◌}
use Rattle.std.proofs.lemmas.List.{drop_all, drop_more}
use Rattle.clap.specs.Words.{App, app_of, with_rule}
use Rattle.cube_console.specs.CommandLine.{with_words}
use Rattle.cube_console.proofs.command_line.with_words.Goals as goal

pub loop-word-preserved : goal.loop-word-preserved
loop-word-preserved c =
    let added = c.in_ok-all.ensures.shape c.argument.ensures.own
    ∙ ap (λ rule. with_rule (app_of c.loop-word.all) rule) c.argument.ensures.rule in
    let rest = drop_more c.args.words.now c.loop-word.word-index _ c.loop-word-test.true in
    record {
      added = ap (λ (app : App). with_words app (drop (c.loop-word.word-index + 1) c.args.words.now)) added
          ∙ rw rest at c.loop-word.invariant.added;
      local = c.in_ok-all.ensures.globals
          ∙ ap₂ (λ (a b : Bool). a || b) c.loop-word.invariant.local c.argument.ensures.own;
    }

pub returns-clause-line : goal.returns-clause-line
returns-clause-line c =
    rw (drop_all c.loop-word.word-index c.args.words.now c.loop-word-test.false) at c.loop-word.invariant.added
