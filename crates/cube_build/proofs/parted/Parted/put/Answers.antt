use Rattle.std.proofs.Common.{◌≡◌, ◌≤◌, ◌++◌, ◌∷◌, [], true, length, Some}
use Rattle.cube_core.specs.Takes.{fits}
use Rattle.cube_ledger.specs.Ledger.{AtSource, Exchanges}
use Rattle.cube_build.proofs.PartedLaws.{AreBehind-exchange, is_copy, neither}
use Rattle.cube_build.proofs.parted.Parted.put.Goals as goal

pub invariant_of-self : goal.invariant_of-self
invariant_of-self c = λ fresh.
    let old = c.self.inside.ledger in
    let last : c.args.source ≤ length old.accounts = rw (← c.self.view_is) at c.requires.last in
    let fit : fits old.schema c.args.fact ≡ true = rw (← c.self.view_is) at c.requires.fits in
    let at : AtSource (Exchanges c.args.id c.in-Ok.gone (Some c.args.fact)) c.args.source old c.put.new.self =
    c.in-Ok.ensures.put in
    let p = neither c.self.inside.is_out_of_date c.note_both-noted.result fresh in
    let came : c.note_both-noted.new.come.items ≡ c.self.inside.come.items ++ c.args.fact ∷ [] = rw (
      p.1,
      is_copy c.copy_unless-come.result c.args.fact
          (rw p.1 at c.note_both-noted.ensures.some) c.copy_unless-come.ensures,
    ) at c.note_both-noted.ensures.came in
    AreBehind-exchange old c.put.new.self c.self.inside.parts.items c.self.inside.come.items c.self.inside.gone.items
    c.note_both-noted.new.come.items c.note_both-noted.new.gone.items
    c.args.source c.args.id c.in-Ok.gone (Some c.args.fact) c.requires.first last at fit came
    (rw p.1 at c.note_both-noted.ensures.went) (c.self.invariant p.0)
