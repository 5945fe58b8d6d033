use Rattle.std.proofs.Common.{◌≤◌, length, None, sym}
use Rattle.std.proofs.lemmas.List.{append-nil}
use Rattle.cube_ledger.specs.Ledger.{AtSource, Exchanges}
use Rattle.cube_build.proofs.PartedLaws.{AreBehind-exchange, neither}
use Rattle.cube_build.proofs.parted.Parted.take.Goals as goal

pub invariant_of-self : goal.invariant_of-self
invariant_of-self c = λ fresh.
    let old = c.self.inside.ledger in
    let last : c.args.source ≤ length old.accounts = rw (← c.self.view_is) at c.requires.last in
    let at : AtSource (Exchanges c.args.id.now c.take-gone.result None) c.args.source old c.take-gone.new.self =
    c.take-gone.ensures in
    let p = neither c.self.inside.is_out_of_date c.note-noted.result fresh in
    AreBehind-exchange old c.take-gone.new.self c.self.inside.parts.items c.self.inside.come.items
    c.self.inside.gone.items c.self.inside.come.items c.note-noted.new.facts.items
    c.args.source c.args.id.now c.take-gone.result None c.requires.first last at tt
    (sym (append-nil c.self.inside.come.items)) (rw p.1 at c.note-noted.ensures) (c.self.invariant p.0)
