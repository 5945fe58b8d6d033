use Rattle.std.proofs.Common.{◌∷◌, [], get_or, take}
use Rattle.std.proofs.lemmas.List.{take_more}
use Rattle.cube_console.proofs.MakesLaws.{Makes-more}
use Rattle.cube_console.proofs.views.lines.JsonLines.take_record.Goals as goal

pub returns-then-branch-clause-makes : goal.returns-then-branch-clause-makes
returns-then-branch-clause-makes c whole =
    let first = c.loop-place.invariant whole in
    let bytes = c.args.bytes.now in
    let at = c.loop-place.place in
    rw (take_more bytes at 0 c.loop-place-test.true)
    (Makes-more c.args.self.now c.loop-place.self c.take_byte.new.self (take at bytes) (get_or bytes at 0 ∷ []) first
    (c.in_ok-take_byte.ensures first.whole))

pub loop-place-preserved : goal.loop-place-preserved
loop-place-preserved c whole =
    let first = c.loop-place.invariant whole in
    let bytes = c.args.bytes.now in
    let at = c.loop-place.place in
    rw (take_more bytes at 0 c.loop-place-test.true)
    (Makes-more c.args.self.now c.loop-place.self c.take_byte.new.self (take at bytes) (get_or bytes at 0 ∷ []) first
    (c.in_ok-take_byte.ensures first.whole))
