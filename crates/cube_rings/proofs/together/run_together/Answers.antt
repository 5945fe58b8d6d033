use Rattle.std.proofs.Common.{rules}
use denote.Param.Send.{sendable}
use Rattle.cube_rings.proofs.together.run_together.Goals as goal

-- what the closure asks: the same as this function, and that handles, readers and builders may go to other threads
pub scoped-requires : goal.scoped-requires
scoped-requires g c =
    let r = c.requires in
    record {
      at = λ s. (
        r.outlets,
        (r.start, (r.ready, (search sendable depth 20, search sendable depth 20, search rules, search rules))),
      );
    }
