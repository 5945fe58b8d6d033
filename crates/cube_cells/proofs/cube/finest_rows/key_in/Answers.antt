use Rattle.std.proofs.Common.{◌≡◌, ◌≤◌, ◌∙◌, arith, length, map, sym}
use Rattle.std.proofs.lemmas.List.{append-nil, drop_all}
use Rattle.std.proofs.lemmas.Result.{IfOk-weaker}
use Rattle.cube_core.specs.Referred.{referred_coord}
use Rattle.cube_core.proofs.CellKeyLaws.{Key-coords}
use Rattle.cube_cells.specs.Codes.{coords_at, key_at}
use Rattle.cube_cells.proofs.cube.finest_rows.key_in.Goals as goal

pub returns : goal.returns
returns c =
    let texts = c.args.texts.now in
    let codes = c.args.codes.now.codes in
    let coords = map referred_coord c.loop-place.coords.items in
    let past : length texts ≤ c.loop-place.place = omega (arith, c.loop-place-test.false) in
    let all : coords ≡ coords_at texts codes =
    sym (append-nil coords) ∙ (rw (drop_all c.loop-place.place texts past) at c.loop-place.invariant) in
    IfOk-weaker c.new.result _ _ (λ key is. Key-coords key (key_at texts codes) (is ∙ all))
    (rw c.deref.ensures.value at c.new.ensures)
