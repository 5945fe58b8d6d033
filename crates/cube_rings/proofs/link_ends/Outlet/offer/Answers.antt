use Rattle.cube_rings.proofs.link_ends.Outlet.offer.Goals as goal

pub returns-then-is_full-clause-sent : goal.returns-then-is_full-clause-sent
returns-then-is_full-clause-sent g c = tt
