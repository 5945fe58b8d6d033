use Rattle.cube_feed.proofs.ContiguousLaws.{parts_of-sound}
use Rattle.cube_feed.proofs.spelled_list.DimensionValuesSpelledListOptionText.add_at_once.Goals as goal

pub returns-in-Some-clause-sound : goal.returns-in-Some-clause-sound
returns-in-Some-clause-sound c = λ _. rw (← c.in-Some.ensures.parts)
    (parts_of-sound c.bytes_between.new.lens.items c.in-Some.text.now c.in-Some.ensures.ascii)
