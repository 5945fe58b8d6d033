use Rattle.cube_build.proofs.parted.Parted.fill_anew.Goals as goal

pub invariant_of-self-2 : goal.invariant_of-self-2
invariant_of-self-2 g c = λ fresh. rw (c.clear.ensures.items, c.clear-2.ensures.items) c.in_ok-self-inside.ensures
