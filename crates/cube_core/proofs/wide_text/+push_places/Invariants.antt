use Rattle.cube_core.proofs.wide_text.+push_places.Given as goal

abbrev pub decreases-push_places : goal.decreases-push_places
decreases-push_places l = l.places
