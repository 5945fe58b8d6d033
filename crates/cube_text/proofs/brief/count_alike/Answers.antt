use Rattle.std.proofs.Common.{◌≡◌, ◌<◌, [], arith, get_or, length, rules}
use Rattle.std.proofs.lemmas.List.{take_more}
use Rattle.std.proofs.lemmas.List.Elements.{All-push}
use Rattle.cube_cells.specs.Levels.{mask_of_codes}
use Rattle.cube_cells.specs.Walk.{key_in}
use Rattle.cube_cells.specs.declared.cube.codes.Codes.{Codes}
use Rattle.cube_text.proofs.brief.count_alike.Goals as goal

pub loop-count-preserved : goal.loop-count-preserved
loop-count-preserved c =
    let keys = c.args.keys.now in
    let codes = c.args.codes.now in
    let count = c.loop-count.count in
    let inside : count < length keys = omega (arith, c.loop-count-test.true) in
    let none : Codes = record { codes = [] } in
    let key = get_or keys count none in
    let same : key_in codes (mask_of_codes key.codes) ≡ key = search rules in
    record {
      few = omega (arith, inside);
      alike = rw (take_more keys count none inside) (All-push (λ one. key_in codes (mask_of_codes one.codes) ≡ one) _ _
          c.loop-count.invariant.alike same);
    }
