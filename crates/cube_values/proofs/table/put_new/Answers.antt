use Rattle.std.proofs.Common.{sym, subst, FitsSigned, w64, ◌∷◌}
use Rattle.std.proofs.lemmas.Int.{to_z-of_z}
use Rattle.std.specs.List.Sorted.{IsPermutation}
use Rattle.cube_values.specs.Bag.{Bag}
use Rattle.cube_values.proofs.TableLaws.{one_more_entry}
use Rattle.cube_values.proofs.table.put_new.Goals as goal

pub returns-clause-put : goal.returns-clause-put
returns-clause-put c =
    let fits : FitsSigned w64 c.args.value = c.ranges.value in
    let put = simp to_z-of_z at c.in_ok-insert.ensures.entries in
    let old = c.args.counts.now.entries in
    subst (λ (bag : Bag). IsPermutation ((c.args.value, c.args.count) ∷ old) bag) (sym put)
    (one_more_entry old c.args.value c.args.count c.requires)
