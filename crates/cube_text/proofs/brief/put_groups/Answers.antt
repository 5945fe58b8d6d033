use Rattle.std.proofs.Common.{◌<◌, [], arith, length, map, sym}
use Rattle.std.proofs.lemmas.List.{append-nil, get_or-map, length-map}
use Rattle.cube_text.specs.Brief.{rows_in}
use Rattle.cube_text.specs.declared.brief.BriefGroup.{BriefGroup}
use Rattle.cube_text.proofs.BriefLaws.{brief_text-piece}
use Rattle.cube_text.proofs.brief.put_groups.Goals as goal

pub loop-group-init : goal.loop-group-init
loop-group-init g c = λ are. sym (append-nil c.args.text.now.items)

pub loop-group-preserved : goal.loop-group-preserved
loop-group-preserved g c = λ are.
    let groups = c.args.groups.now in
    let rows = rows_in c.args.bytes.now in
    let i = c.loop-group.group-index in
    let inside : i < length groups = omega (arith, c.loop-group-test.true) in
    let none : BriefGroup = record { codes = record { codes = [] }; start = 0; middle = 0; end = 0 } in
    brief_text-piece c.args.cells.now.dictionaries (map rows groups) i c.args.text.now.items c.loop-group.text.items
    c.put_rows.new.text.items (omega (arith, inside, length-map groups rows)) (c.loop-group.invariant are)
    (rw (get_or-map rows groups i none [] inside) (c.in_ok-put_rows.ensures are))
