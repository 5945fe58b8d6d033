use Rattle.std.proofs.Common.{◌≤◌, arith, length}
use Rattle.std.proofs.lemmas.Result.{IfOk-weaker}
use Rattle.cube_text.proofs.BriefLaws.{AreNextTexts-made}
use Rattle.cube_text.proofs.kept.Making.texts.Goals as goal

pub returns : goal.returns
returns g c =
    let pieces = c.args.pieces.now in
    let count = c.min-count.result in
    let within : count ≤ length pieces = omega (arith, c.min-count.ensures) in
    IfOk-weaker c.all_made.result _ _ (λ texts are.
    AreNextTexts-made c.args.self.now.cells.now.dictionaries c.args.self.now.shown.now pieces count texts.items
    c.in_ok-made.made.items within are c.in_ok-made.ensures.long
    c.in_ok-made.ensures.each (λ more. omega (arith, more, c.min-count.ensures, c.max.ensures))) c.all_made.ensures
