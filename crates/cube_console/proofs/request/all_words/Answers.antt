use Rattle.std.proofs.Common.{◌∙◌, List, [], ap, arith}
use Rattle.std.specs.Prelude.{Option, unwrap_or}
use Rattle.std.proofs.lemmas.Grind.{common_steps}
use Rattle.clap.specs.Words.{Text, found_of}
use Rattle.clap.proofs.WalkLemmas.{raw_values-rows}
use Rattle.cube_console.proofs.request.all_words.Goals as goal

pub returns-in_default : goal.returns-in_default
returns-in_default c =
    let are = ap (λ (o : Option (List Text)). unwrap_or o [])
    (c.get_strs.ensures ∙ raw_values-rows (found_of c.args.words.now) c.args.name.now) in
    grind (arith, common_steps)

pub returns : goal.returns
returns c =
    let are = ap (λ (o : Option (List Text)). unwrap_or o [])
    (c.get_strs.ensures ∙ raw_values-rows (found_of c.args.words.now) c.args.name.now) in
    grind (arith, common_steps)
