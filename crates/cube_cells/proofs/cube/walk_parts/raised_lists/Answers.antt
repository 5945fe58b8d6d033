use Rattle.std.proofs.Common.{◌≡◌, ◌∷◌, ◌∙◌, [], All, ap, arith, get_or, length, length-append, subst, sym}
use Rattle.cube_cells.specs.BottomUp.{AreRaised, IsItem, cells_of_items}
use Rattle.cube_cells.specs.Coded.{CodedCells}
use Rattle.cube_cells.specs.WalkParts.{AreRaisedOver, cells_of_lists}
use Rattle.cube_cells.proofs.Filling.PartLaws.{AreRaisedOver-more, CanWalk-at, cells_of_lists-push}
use Rattle.cube_cells.proofs.Filling.PartLaws.{length-cells_of_lists}
use Rattle.cube_cells.proofs.cube.walk_parts.raised_lists.Goals as goal

pub raised_by-requires-clause-items : goal.raised_by-requires-clause-items
raised_by-requires-clause-items g c = λ lifetimes live.
    let lists = c.loop-from.lists.items in
    let can = CanWalk-at c.args.dimensions (cells_of_items c.args.items.now) (cells_of_lists lists) c.loop-from.from
    c.loop-from.invariant.raised (omega (arith, c.loop-from.invariant.long, length-cells_of_lists lists)) in
    let at = rw c.deref-in-loop-from.ensures.value at c.items_at-in-loop-from.ensures in
    (can.0, subst (All (IsItem can.0)) (sym at) can.1.each)

pub loop-from-preserved : goal.loop-from-preserved
loop-from-preserved g c =
    let items : CodedCells = cells_of_items c.args.items.now in
    let lists = c.loop-from.lists.items in
    let next = c.in_ok-next.next in
    let at = rw c.deref-in-loop-from.ensures.value at c.items_at-in-loop-from.ensures in
    let last : c.loop-from.from ≡ length (cells_of_lists lists) =
    sym c.loop-from.invariant.long ∙ sym (length-cells_of_lists lists) in
    let is : AreRaised (length (cells_of_lists lists))
    (get_or (items ∷ cells_of_lists lists) (length (cells_of_lists lists)) []) (cells_of_items next.items) =
    subst (λ n. AreRaised n (get_or (items ∷ cells_of_lists lists) n []) (cells_of_items next.items)) last
    (subst (λ (l : CodedCells). AreRaised c.loop-from.from l (cells_of_items next.items)) at c.in_ok-next.ensures) in
    record {
      long = omega (
        arith,
        ap (λ l. length l) c.in_ok-push.ensures.items,
        length-append lists (next ∷ []),
        c.loop-from.invariant.long,
      );
      raised = subst (AreRaisedOver c.args.dimensions items)
          (sym (ap cells_of_lists c.in_ok-push.ensures.items ∙ cells_of_lists-push lists next))
          (AreRaisedOver-more c.args.dimensions items (cells_of_items next.items) (cells_of_lists lists)
          c.loop-from.invariant.raised (omega (arith, last, c.loop-from-test.true)) is);
    }
