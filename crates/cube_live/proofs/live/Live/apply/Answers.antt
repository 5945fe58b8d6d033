use Rattle.std.proofs.Common.{◌≡◌, ◌<◌, ◌-◌, ◌∙◌, get_or, length, refl, arith}
use Rattle.std.proofs.lemmas.List.{get_or_default}
use Rattle.cube_live.proofs.LiveLaws.{TakesNext-numbered}
use Rattle.cube_live.proofs.live.Live.apply.Goals as goal

pub returns-in-Ok-clause-takes : goal.returns-in-Ok-clause-takes
returns-in-Ok-clause-takes c =
    let numbers = c.self.inside.numbers.items in
    let inside : c.args.source - 1 < length numbers =
    omega (arith, c.requires.first, c.requires.last, c.self.invariant.numbered) in
    let is : c.index-number.result.now ≡ get_or numbers (c.args.source - 1) 0 =
    c.index-number.ensures ∙ get_or_default numbers (c.args.source - 1) c.index-number.result.now 0 inside in
    rw (← c.self.view_is)
    (TakesNext-numbered _ _ c.args.source c.index-number.result.now c.args.what c.requires.first
    c.self.invariant.numbered c.requires.last is c.in-Ok.ensures.stands refl)
