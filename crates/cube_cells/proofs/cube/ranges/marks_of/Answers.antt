use Rattle.std.proofs.Common.{rules}
use Rattle.std.proofs.lemmas.Cmp.{nat_list_cmp_total}
use Rattle.cube_cells.proofs.Codes.RankLaws.{IsSortedBy-key}
use Rattle.cube_cells.proofs.cube.ranges.marks_of.Goals as goal

pub returns : goal.returns
returns g c = IsSortedBy-key nat_list_cmp_total (λ codes. codes.codes) c.sort_unstable_by.new.self.items
    c.sort_unstable_by.ensures.sorted (λ a r q k. search rules)
