use Rattle.cube_core.proofs.partial_form.+push_level.Given as goal

abbrev pub decreases-push_level : goal.decreases-push_level
decreases-push_level l = l.places
