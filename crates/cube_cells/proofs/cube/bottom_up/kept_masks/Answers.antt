use Rattle.std.proofs.Common.{rules, ◌≡◌, ◌<◌, ◌^◌, ◌∙◌, false, true, arith, length, get_or, replicate, ℕ}
use Rattle.std.proofs.lemmas.List.{get_or_default, length-replicate, length-set}
use Rattle.cube_cells.proofs.Filling.BottomUpCubeLaws.{kept-more, kept-none}
use Rattle.cube_cells.proofs.cube.bottom_up.kept_masks.Goals as goal

pub loop-set-init : goal.loop-set-init
loop-set-init c =
    let n : ℕ = 2 ^ c.args.dimensions in
    let is : c.in_ok-kept.kept.items ≡ replicate n false =
    rw c.masks_of.ensures at (c.in_ok-kept.ensures.items_if_clones_equal (λ y same. search rules)) in
    record { long = rw is (length-replicate n false); each = λ mask. rw is (kept-none n mask) }

pub loop-set-preserved : goal.loop-set-preserved
loop-set-preserved c =
    let sets = c.args.sets.now in
    let i = c.loop-set.set-index in
    let inside : i < length sets = omega (arith, c.loop-set-test.true) in
    let here : c.from.result ≡ get_or sets i 0 = search rules in
    let small : get_or sets i 0 < 2 ^ c.args.dimensions = c.requires.within i 0 inside in
    let room : c.from.result < length c.loop-set.kept.items = omega (arith, here, small, c.loop-set.invariant.long) in
    record {
      long = length-set c.loop-set.kept.items c.from.result true ∙ c.loop-set.invariant.long;
      each = kept-more c.loop-set.kept.items sets i c.from.result inside
          (here ∙ get_or_default sets i 0 c.from.result inside) room c.loop-set.invariant.each;
    }
