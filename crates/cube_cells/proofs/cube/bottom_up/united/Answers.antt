use Rattle.std.proofs.Common.{rules}
use Rattle.std.proofs.lemmas.Cmp.{nat_list_cmp_total}
use Rattle.std.proofs.lemmas.List.Sorted.{All-permutation}
use Rattle.std.proofs.lemmas.Result.{IfOk-weaker}
use Rattle.cube_cells.specs.BottomUp.{AreUnited, IsItem, cells_of_items, cells_of_lent}
use Rattle.cube_cells.proofs.Codes.RankLaws.{IsSortedBy-key}
use Rattle.cube_cells.proofs.Filling.BottomUpLaws.{AreUnited-permutation, lent-IsPermutation}
use Rattle.cube_cells.proofs.cube.bottom_up.united.Goals as goal

pub joined-requires-clause-order : goal.joined-requires-clause-order
joined-requires-clause-order g c = rw c.deref.ensures.value
    (IsSortedBy-key nat_list_cmp_total (λ one. one.codes.codes) c.sort_unstable_by.new.self.items
    c.sort_unstable_by.ensures.sorted (λ a r q k. search rules))

pub joined-requires-clause-items : goal.joined-requires-clause-items
joined-requires-clause-items g c = rw c.deref.ensures.value (
  c.requires.0,
  All-permutation (IsItem c.requires.0) (cells_of_lent c.args.lent.items)
      (cells_of_lent c.sort_unstable_by.new.self.items)
      (lent-IsPermutation c.args.lent.items c.sort_unstable_by.new.self.items c.sort_unstable_by.ensures.permutation)
      c.requires.1,
)

pub returns : goal.returns
returns g c =
    let lent = c.args.lent.items in
    let sorted = c.sort_unstable_by.new.self.items in
    IfOk-weaker c.joined.result (λ united. AreUnited (cells_of_lent sorted) (cells_of_items united.items))
    (λ united. AreUnited (cells_of_lent lent) (cells_of_items united.items))
    (λ united are. AreUnited-permutation (cells_of_lent lent) (cells_of_lent sorted) (cells_of_items united.items)
    (lent-IsPermutation lent sorted c.sort_unstable_by.ensures.permutation) are)
    (rw c.deref.ensures.value at c.joined.ensures)
