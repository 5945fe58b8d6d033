use Rattle.std.specs.Prelude.{OnOk}
use Rattle.std.proofs.lemmas.Result.{on_err_weaker}
use Rattle.cube_cells.proofs.Cells.WalkLaws.{OnOk-both}
use Rattle.cube_build.proofs.TakingLaws.{TakesOne, builder-further, builder-same}
use Rattle.cube_build.proofs.taking.BuilderTakesItems.take_item.Goals as goal

pub returns-clause-stands : goal.returns-clause-stands
returns-clause-stands c =
    let old = c.args.self.now in
    let new = c.apply.new.self in
    let sets : OnOk c.apply.result (TakesOne old new) = OnOk-both c.apply.result
    (λ all same. record { all = all; same = same }) c.apply.ensures.sources c.apply.ensures.same in
    OnOk-both c.apply.result
    (λ one stands. builder-further old new c.args.source c.args.item one stands) sets
    (rw c.into_item.ensures.item at c.apply.ensures.stands)

pub returns-clause-unchanged : goal.returns-clause-unchanged
returns-clause-unchanged c =
    on_err_weaker c.apply.result (λ is. builder-same c.args.self.now c.apply.new.self is) c.apply.ensures.err
