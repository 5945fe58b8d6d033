use Rattle.std.proofs.Common.{◌≤◌, arith, inl, inr, ◌∙◌}
use Rattle.cube_cells.specs.Codes.{all_code}
use Rattle.cube_cells.proofs.Codes.TextLaws.{compared_high}
use Rattle.cube_cells.proofs.cube.dictionary.Dictionary.compare.Goals as goal
use Rattle.cube_cells.proofs.cube.dictionary.Dictionary.compare.Goals.{
  then-left-ge-NULL-via-then-left-ge-NULL,
  then-left-ge-NULL-via-else-left-ge-NULL+then-right-ge-NULL,
}

pub returns-then-left-ge-NULL : goal.returns-then-left-ge-NULL
returns-then-left-ge-NULL c =
    let texts = c.args.self.now in
    let others = c.args.other.now in
    let a = c.args.left in
    let b = c.args.right in
    let small_a : a ≤ all_code = omega (arith, c.ranges.left.fits) in
    let small_b : b ≤ all_code = omega (arith, c.ranges.right.fits) in
    c.cmp.ensures ∙ elim c.then-left-ge-NULL.branch [
      | then-left-ge-NULL-via-then-left-ge-NULL w ↦
          compared_high texts others a b small_a small_b (inl w.if-left-ge-NULL.true)
      | then-left-ge-NULL-via-else-left-ge-NULL+then-right-ge-NULL w ↦
          compared_high texts others a b small_a small_b (inr w.if-right-ge-NULL.true)
    ]
