use Rattle.std.proofs.Common.{◌≡◌, drop}
use Rattle.std.specs.List.{list_all}
use Rattle.cube_merge.specs.Source.{can_be_made}
use Rattle.cube_merge.proofs.source.can_all_be_made.Given as goal

-- all can be made where those to come can
abbrev pub invariant-loop-aggregate : goal.invariant-loop-aggregate
invariant-loop-aggregate l =
    list_all (can_be_made l.given) (drop l.aggregate-index l.wanted) ≡ list_all (can_be_made l.given) l.wanted
