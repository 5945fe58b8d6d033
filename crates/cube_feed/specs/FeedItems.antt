-- What is true of each item that a feed gives (this project's choice).
use Rattle.std.specs.Prelude.{◌≡◌, true, Result, IfOk}
use Rattle.cube_core.specs.Layout.{Layout}
use Rattle.cube_core.specs.Takes.{takes}
use Rattle.cube_core.specs.declared.change.Change.{Change}
use Rattle.cube_core.specs.declared.change.LineFault.{LineFault}

-- some schema takes the change that an item says, so its texts are lawful; a line fault says none
abbrev pub SomeSchemaTakes : Result Change LineFault → Type 0
SomeSchemaTakes what = IfOk what (λ change. (schema : Layout) × (takes schema change ≡ true))
