use Rattle.std.proofs.Common.{◌≡◌, arith, length}
use Rattle.cube_text.proofs.BriefLaws.{rows_with-more}
use Rattle.cube_text.proofs.brief.BriefRows.add_group.Goals as goal

pub returns : goal.returns
returns c =
    let text = c.self.inside.bytes.items in
    let sets = c.put_sets.new.text.items in
    let after = c.extend_from_slice.new.self.items in
    let start : c.in_ok-start.start ≡ length text = omega (arith, c.in_ok-start.ensures, c.len.ensures) in
    let middle : c.in_ok-middle.middle ≡ length sets = omega (arith, c.in_ok-middle.ensures, c.len-2.ensures) in
    let end : c.in_ok-end.end ≡ length after = omega (arith, c.in_ok-end.ensures, c.len-3.ensures) in
    rw (← c.self.view_is, c.in_ok-push-2.ensures.items) (rows_with-more text sets c.args.ending.now after
    c.in_ok-start.start c.in_ok-middle.middle c.in_ok-end.end c.args.codes.now c.args.alike.now
    c.self.inside.groups.items c.self.invariant start
    (rw (c.in_ok-push.ensures.items, c.mask.ensures) at c.in_ok-put_sets.ensures.sets) middle
    c.in_ok-extend_from_slice.ensures.items end c.requires)
