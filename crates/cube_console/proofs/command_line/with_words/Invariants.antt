use Rattle.std.proofs.Common.{◌≡◌, false, drop}
use Rattle.clap.specs.Words.{app_of}
use Rattle.clap.specs.declared.builder.command.Command.TheViews.{out-Command as fields_of}
use Rattle.cube_console.specs.CommandLine.{with_words}
use Rattle.cube_console.proofs.command_line.with_words.Given as goal

abbrev pub invariant-loop-word : goal.invariant-loop-word
invariant-loop-word l = record {
  added : with_words (app_of l.all) (drop l.word-index l.words) ≡ with_words (app_of l.initial.all) l.words;
  local : (fields_of l.all).has_globals ≡ false;
}
