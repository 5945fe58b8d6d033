use Rattle.std.proofs.Common.{◌∙◌, ap}
use Rattle.clap.specs.Words.{found_of}
use Rattle.clap.proofs.WalkLemmas.{one_text-rows}
use Rattle.cube_console.specs.CommandLine.{is_given}
use Rattle.cube_console.proofs.RequestLaws.{is_given-ReadsOne}
use Rattle.cube_console.proofs.request.has_flag.Goals as goal

pub returns : goal.returns
returns c =
    c.unwrap_or.ensures ∙ is_given-ReadsOne _ _ c.get_one.result c.get_one.ensures.none c.get_one.ensures.value
    ∙ ap is_given (one_text-rows (found_of c.args.words.now) c.args.option.now)
