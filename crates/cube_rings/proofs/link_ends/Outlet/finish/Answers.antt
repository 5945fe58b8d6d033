use Rattle.std.proofs.Common.{rules}
use Rattle.cube_rings.proofs.link_ends.Outlet.finish.Goals as goal

pub returns-clause-link : goal.returns-clause-link
returns-clause-link g c = search rules

pub returns-clause-sent : goal.returns-clause-sent
returns-clause-sent g c = search rules
