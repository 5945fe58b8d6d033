use Rattle.cube_laws.proofs.SameCubeLaws.{AreRows-same, AreRows-arrivals}
use Rattle.cube_laws.proofs.rows.cubes_of_the_same_facts_are_the_same.Goals as goal

pub returns : goal.returns
returns c = record { facts = AreRows-same; arrivals = AreRows-arrivals }
