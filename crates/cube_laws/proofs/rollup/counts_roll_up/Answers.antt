use Rattle.cube_laws.proofs.RollupLaws.{CountAll-under, Count-under}
use Rattle.cube_laws.proofs.rollup.counts_roll_up.Goals as goal

pub returns : goal.returns
returns c = record {
  of_facts =
      λ s facts rows row dimension place is at_place. CountAll-under s facts rows row dimension place is at_place;
  of_values =
      λ s facts rows row dimension place m is at_place. Count-under s facts rows row dimension place is m at_place;
}
