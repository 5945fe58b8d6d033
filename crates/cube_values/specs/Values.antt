-- The bag that the values of a `Counted` hold.
use Rattle.std.specs.Prelude.{Option, Some, None}
use Rattle.cube_values.specs.Bag.{Bag}
use Rattle.cube_values.specs.declared.counted.Values.{Values}
use Rattle.cube_values.specs.declared.counted.Values.TheVariants.{One, Few, Narrow, Ordered, Logged, Many}

-- the bag of each representation
abbrev pub bag_of : Values → Bag
bag_of (One single) = single
bag_of (Few short) = short
bag_of (Narrow narrow) = narrow.value
bag_of (Ordered ordered) = ordered.value
bag_of (Logged log) = log.value
bag_of (Many table) = table.value

-- what is held after numbers were added to a form: by the form that takes its place, if one does, and else by itself
abbrev pub bag_left : Bag → Option Values → Bag
bag_left own None = own
bag_left own (Some values) = bag_of values
