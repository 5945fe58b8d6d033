use Rattle.std.proofs.Common.{◌≡◌, ◌∙◌, sym, arith, length, map}
use Rattle.cube_cells.proofs.Cells.WalkLaws.{OnOk-both}
use Rattle.cube_build.specs.Parts.{BuiltView}
use Rattle.cube_build.proofs.DraftLaws.{all-made}
use Rattle.cube_build.proofs.building.complete.Goals as goal

pub returns : goal.returns
returns g c =
    let made = c.in_ok-made.made in
    let all = c.args.gatherers in
    let built : BuiltView = record {
      builders = c.keep_all.new.self.builders.items;
      inlets = map (λ links. links.inlets.items) c.keep_all.new.self.links.items;
    } in
    let counted : length made.items ≡ length all.items = sym made.ok.0 ∙ c.in_ok-made.ensures.count ∙ all.ok.0 in
    OnOk-both c.keep_all.result
    (λ builders links. all-made all.items made.items built counted
    (λ part one d below. c.in_ok-made.ensures.each part one d (omega (arith, all.ok.0, below))) builders links)
    c.keep_all.ensures.builders c.keep_all.ensures.links
