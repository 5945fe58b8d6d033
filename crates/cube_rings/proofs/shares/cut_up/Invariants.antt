use Rattle.std.proofs.Common.{◌≡◌, ◌≤◌, ◌++◌, false, map, sum_by, vec_len}
use Rattle.std.specs.List.{All}
use Rattle.cube_rings.specs.Wholes.{inlets_of}
use Rattle.cube_rings.proofs.shares.cut_up.Given as goal

abbrev pub invariant-loop-builder : goal.invariant-loop-builder
invariant-loop-builder g l =
    (map (λ share. share.builder) l.shares.items ≡ l.yielded)
    × (inlets_of l.shares.items ++ l.inlets.items ≡ l.fn.whole.inlets.items)
    × All (λ share. vec_len share.inlets ≡ g.B.TakesItems.sources share.builder) l.shares.items
    × (sum_by g.B.TakesItems.sources l.builder-iterator.rest.items ≡ vec_len l.inlets)
    × (vec_len l.inlets ≤ l.all)
    × (l.all ≤ 64)
    × (l.yielded ++ l.builder-iterator.rest.items ≡ l.fn.whole.builder.items)
    × All (λ share. share.wanting ≡ false) l.shares.items
