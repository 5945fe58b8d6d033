use Rattle.std.proofs.Common.{◌≡◌, false, map}
use Rattle.std.specs.List.{All}
use Rattle.cube_rings.specs.Wholes.{inlets_of}
use Rattle.cube_rings.proofs.shares.put_together.Given as goal

abbrev pub invariant-loop-share : goal.invariant-loop-share
invariant-loop-share g l =
    (map (λ share. share.builder) l.yielded ≡ l.builders.items)
    × (inlets_of l.yielded ≡ l.inlets.items)
    × (l.wanting ≡ false → All (λ share. share.wanting ≡ false) l.yielded)
