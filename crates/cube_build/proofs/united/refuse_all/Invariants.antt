use Rattle.std.proofs.Common.{◌≡◌, take}
use Rattle.cube_build.specs.Sharded.{HasRefusals, Rise, last_of, refused_numbers}
use Rattle.cube_build.proofs.united.refuse_all.Given as goal

abbrev pub invariant-loop-refusal : goal.invariant-loop-refusal
invariant-loop-refusal l =
    Rise 0 (refused_numbers (take l.refusal-index l.refusals))
    × (l.last ≡ last_of 0 (refused_numbers (take l.refusal-index l.refusals)))
    × HasRefusals l.fn.fresh.schema (take l.refusal-index l.refusals) l.refused
