use Rattle.std.proofs.Common.{◌≡◌, rules, w64}
use Rattle.std.proofs.lemmas.Int.{to_z-of_z}
use Rattle.cube_values.proofs.BagLaws.{adds_alone, adds_first}
use Rattle.cube_values.proofs.single.Single.add.Goals.{else-self-gt0-via-then-self-gt0+else-self-value}
use Rattle.cube_values.proofs.single.Single.add.Goals.{else-self-gt0-via-else-self-gt0}
use Rattle.cube_values.proofs.single.Single.add.Goals as goal

pub returns-clause-added : goal.returns-clause-added
returns-clause-added c = rw (to_z-of_z w64 c.args.value c.ranges.value, ← c.self.view_is) (
    elim c.else-self-gt0.branch [
      | else-self-gt0-via-then-self-gt0+else-self-value w ↦
          let same : c.self.inside.value ≡ c.args.value = search rules in
          adds_alone c.self.inside.value c.args.value c.self.inside.count c.args.times same
      | else-self-gt0-via-else-self-gt0 w ↦
          adds_first c.self.inside.value c.args.value c.self.inside.count c.args.times w.if-self-gt0.false
    ]
    )
