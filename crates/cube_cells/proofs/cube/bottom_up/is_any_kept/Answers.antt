use Rattle.std.proofs.Common.{arith, ◌≡◌, ◌%◌, ◌^◌, ◌+◌, ap, ℕ}
use Rattle.std.proofs.lemmas.Nat.{and_mask}
use Rattle.cube_cells.specs.Levels.{mask_of_codes}
use Rattle.cube_cells.proofs.Filling.PruneLaws.{IsLooking-next, IsLooking-start, IsNoneKept-IsLooking}
use Rattle.cube_cells.proofs.cube.bottom_up.is_any_kept.Goals as goal

pub loop-mask-init : goal.loop-mask-init
loop-mask-init c =
    let codes = c.args.codes.now in
    let low : c.from-mask.result ≡ mask_of_codes codes.codes % 2 ^ c.args.from =
    rw (c.from-mask.ensures, c.mask.ensures, c.finest_of.ensures) (and_mask (mask_of_codes codes.codes) c.args.from) in
    record {
      step = c.masks_of-step.ensures;
      looking = rw low (IsLooking-start c.args.kept.now c.args.from codes);
    }

pub loop-mask-preserved : goal.loop-mask-preserved
loop-mask-preserved c = record {
  step = c.loop-mask.invariant.step;
  looking = IsLooking-next c.args.kept.now c.args.from c.args.codes.now c.loop-mask.mask _
      c.loop-mask.invariant.looking c.if-kept-mask.false
      (ap (λ (n : ℕ). c.loop-mask.mask + n) c.masks_of-step.ensures);
}

pub returns : goal.returns
returns c = λ none. IsNoneKept-IsLooking c.args.kept.now c.args.from c.args.codes.now c.loop-mask.mask
    c.loop-mask.invariant.looking (omega arith)
