use Rattle.std.proofs.Common.{◌≡◌, ◌++◌, ◌<◌, rules}
use Rattle.std.proofs.lemmas.List.Elements.{All-append}
use Rattle.cube_values.specs.Narrow.{once_each}
use Rattle.cube_values.proofs.NarrowLaws.{some_once_each}
use Rattle.cube_values.proofs.log.Log.of_numbers.Goals as goal

pub of_pairs-requires : goal.of_pairs-requires
of_pairs-requires c =
    let items : c.extend_from_slice.new.self.items ≡ once_each c.args.numbers.now ++ c.args.few.now = search rules in
    rw items (All-append (λ e. 0 < e.1) (once_each c.args.numbers.now) c.args.few.now
    (some_once_each c.args.numbers.now) c.requires)
