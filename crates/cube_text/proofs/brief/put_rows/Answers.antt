use Rattle.std.proofs.Common.{◌<◌, ℕ, List, arith, get_or, length, map, sym}
use Rattle.std.proofs.lemmas.List.{append-nil, get_or-map, length-map}
use Rattle.cube_cells.specs.Walk.{key_in}
use Rattle.cube_cells.specs.declared.cube.codes.Codes.{Codes}
use Rattle.cube_text.proofs.BriefLaws.{brief_text-row}
use Rattle.cube_text.proofs.brief.put_rows.Goals as goal

pub loop-set-init : goal.loop-set-init
loop-set-init g c = λ are. sym (append-nil c.args.text.now.items)

pub loop-set-preserved : goal.loop-set-preserved
loop-set-preserved g c = λ are.
    let sets = c.args.sets.now in
    let i = c.loop-set.set-index in
    let inside : i < length sets = omega (arith, c.loop-set-test.true) in
    let row : ℕ → Codes × List ℕ = λ set. (key_in c.args.codes.now set, c.args.ending.now) in
    let one = row (get_or sets i 0) in
    brief_text-row c.args.cells.now.dictionaries (map row sets) i one c.args.text.now.items c.loop-set.text.items
    c.put_row.new.text.items (omega (arith, inside, length-map sets row)) (sym (get_or-map row sets i 0 one inside))
    (c.loop-set.invariant are) (rw c.kept.ensures at (c.in_ok-put_row.ensures are))
