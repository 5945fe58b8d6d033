use Rattle.std.proofs.Common.{rules, ◌≡◌}
use Rattle.std.proofs.lemmas.List.Elements.{All-push}
use Rattle.cube_rings.proofs.copies.fill_copies.Goals as goal

pub loop-preserved : goal.loop-preserved
loop-preserved c = (
  search rules,
  rw c.in_ok-push.ensures.items (All-push (λ copy. copy ≡ c.args.item.now)
      c.loop.copies.items c.in_ok-copy.copy c.loop.invariant.1 c.in_ok-copy.ensures),
)
