use Rattle.std.proofs.Common.{◌≡◌, ◌<◌, ◌∙◌, [], arith, get_or, length, sym}
use Rattle.std.proofs.lemmas.List.{append-nil, get_or_default}
use Rattle.cube_text.proofs.BriefLaws.{brief_text-piece}
use Rattle.cube_text.proofs.walked.put_pieces.Goals as goal

pub loop-rows-init : goal.loop-rows-init
loop-rows-init g c = λ are. sym (append-nil c.args.text.now.items)

pub loop-rows-preserved : goal.loop-rows-preserved
loop-rows-preserved g c = λ are.
    let pieces = c.args.pieces.now in
    let i = c.loop-rows.rows-index in
    let inside : i < length pieces = omega (arith, c.loop-rows-test.true) in
    let one : c.rows-item.result ≡ get_or pieces i [] =
    c.rows-item.is ∙ get_or_default pieces i c.rows-item.result [] inside in
    brief_text-piece c.args.cells.now.dictionaries pieces i c.args.text.now.items c.loop-rows.text.items
    c.put_text.new.text.items inside (c.loop-rows.invariant are)
    (rw one at (c.in_ok-put_text.ensures are))
