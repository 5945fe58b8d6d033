use Rattle.std.proofs.Common.{◌≡◌, subst, arith, rules}
use Rattle.std.proofs.lemmas.Int.{to_z-of_z}
use Rattle.cube_values.specs.Bag.{AddsTimes}
use Rattle.cube_values.specs.Values.{bag_of}
use Rattle.cube_values.proofs.BagLaws.{weight_of-times, AddsTimes-more}
use Rattle.cube_values.proofs.counted.merge_times.Goals as goal

pub add_value-requires-clause-fits : goal.add_value-requires-clause-fits
add_value-requires-clause-fits c = omega (
  arith,
  c.requires,
  weight_of-times (λ _. 1) (bag_of c.args.values.now)
      (bag_of c.loop-time.values) c.args.pair.0 c.loop-time._time c.loop-time.invariant,
)

pub loop-time-preserved : goal.loop-time-preserved
loop-time-preserved c =
    let added : AddsTimes (bag_of c.loop-time.values) (bag_of c.add_value.new.values) c.args.pair.0 1 =
    search (rules, to_z-of_z) in
    AddsTimes-more (bag_of c.args.values.now) (bag_of c.loop-time.values)
    (bag_of c.add_value.new.values) c.args.pair.0 c.loop-time._time c.loop-time.invariant added

pub returns : goal.returns
returns c =
    let all : c.loop-time._time ≡ c.args.pair.1 = omega arith in
    subst (λ n. AddsTimes (bag_of c.args.values.now) (bag_of c.loop-time.values) c.args.pair.0 n)
    all c.loop-time.invariant
