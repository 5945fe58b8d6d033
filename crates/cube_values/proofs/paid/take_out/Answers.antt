use Rattle.std.proofs.Common.{ℤ, List, ◌≡◌, ◌∙◌, ap, take}
use Rattle.cube_values.specs.Ordered.{left_of}
use Rattle.cube_values.proofs.OwedLaws.{written_back}
use Rattle.cube_values.proofs.OrderedLaws.{AddsBag-left_of, IsSorted-left_of}
use Rattle.cube_values.proofs.paid.take_out.Goals as goal

pub returns-clause-same : goal.returns-clause-same
returns-clause-same c =
    let numbers : List ℤ = c.args.numbers.now.items in
    let owed : List ℤ = c.args.owed.now in
    let moved : List ℤ = c.keep_others-kept.new.numbers in
    let back = written_back moved numbers c.args.numbers.now.len c.args.numbers.now.ok.0
    (c.keep_others-kept.auto.numbers ∙ c.deref_mut.ensures.len) in
    let items : c.truncate.new.self.items ≡ left_of numbers owed =
    c.truncate.ensures.items ∙ ap (take c.keep_others-kept.result) back ∙ c.keep_others-kept.ensures.kept
    ∙ ap (λ l. left_of l owed) c.deref_mut.ensures.value in
    rw items (AddsBag-left_of numbers owed c.requires.sorted c.requires.owed c.requires.covered)

pub returns-clause-sorted : goal.returns-clause-sorted
returns-clause-sorted c =
    let numbers : List ℤ = c.args.numbers.now.items in
    let owed : List ℤ = c.args.owed.now in
    let moved : List ℤ = c.keep_others-kept.new.numbers in
    let back = written_back moved numbers c.args.numbers.now.len c.args.numbers.now.ok.0
    (c.keep_others-kept.auto.numbers ∙ c.deref_mut.ensures.len) in
    let items : c.truncate.new.self.items ≡ left_of numbers owed =
    c.truncate.ensures.items ∙ ap (take c.keep_others-kept.result) back ∙ c.keep_others-kept.ensures.kept
    ∙ ap (λ l. left_of l owed) c.deref_mut.ensures.value in
    rw items (IsSorted-left_of numbers owed c.requires.sorted)
