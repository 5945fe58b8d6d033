use Rattle.std.proofs.Common.{◌≡◌, ◌++◌, drop}
use Rattle.std.specs.Option.{is_some}
use Rattle.std.specs.List.{list_all, filter_map}
use Rattle.cube_core.proofs.pattern.Pattern.cell.Given as goal

-- the coordinates so far and those to come are those of the whole pattern,
-- which leaves nothing open where what is to come doesn't
abbrev pub invariant-loop-wanted : goal.invariant-loop-wanted
invariant-loop-wanted l = record {
  found : l.coords.items ++ filter_map (λ wanted. wanted) (drop l.wanted-index l.self)
      ≡ filter_map (λ wanted. wanted) l.self;
  closed : list_all is_some (drop l.wanted-index l.self) ≡ list_all is_some l.self;
}
