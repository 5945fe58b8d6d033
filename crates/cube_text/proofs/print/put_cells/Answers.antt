use Rattle.std.proofs.Common.{◌≡◌, ℕ, arith, subst}
use Rattle.cube_text.specs.Rows.{GoesOn}
use Rattle.cube_text.proofs.PartLaws.{GoesOn-none, GoesOn-both}
use Rattle.cube_text.proofs.print.put_cells.Goals as goal

pub loop-done-init : goal.loop-done-init
loop-done-init c = (c.requires.order, GoesOn-none c.args.digits.now c.args.cells.now c.args.from c.args.text.now.items)

pub loop-done-preserved : goal.loop-done-preserved
loop-done-preserved c = (
  omega arith,
  GoesOn-both c.args.digits.now c.args.cells.now c.args.from c.loop-done.done _ _ _ _ c.loop-done.invariant.1
      c.in_ok-put_block.ensures,
)

pub returns : goal.returns
returns c =
    let end : c.loop-done.done ≡ c.args.to = omega arith in
    subst (λ (n : ℕ). GoesOn c.args.digits.now c.args.cells.now c.args.from n c.args.text.now.items c.loop-done.text.items)
    end c.loop-done.invariant.1
