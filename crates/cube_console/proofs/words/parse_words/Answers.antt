use Rattle.std.proofs.Common.{◌∙◌, ap, map}
use Rattle.std.proofs.lemmas.Result.{IfErr-weaker}
use Rattle.clap.specs.Words.{takes}
use Rattle.cube_console.proofs.words.parse_words.Goals as goal

pub returns-clause-err : goal.returns-clause-err
returns-clause-err g c =
    let same = ap (λ line. takes line (map g.S.AsStr.text c.args.words.now)) c.in_ok-program.ensures in
    IfErr-weaker c.try_get_matches_from.result _ _
    (λ error passes taken. passes (same ∙ taken)) c.try_get_matches_from.ensures.passes
