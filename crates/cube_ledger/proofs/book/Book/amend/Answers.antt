use Rattle.std.proofs.Common.{◌≡◌, ◌∙◌, Some, rules}
use Rattle.std.proofs.lemmas.Map.Steps.{set_value_same}
use Rattle.cube_ledger.specs.Book.{fact_at}
use Rattle.cube_ledger.proofs.BookLaws.{Makes-amend}
use Rattle.cube_ledger.proofs.book.Book.amend.Goals as goal
use Rattle.cube_ledger.proofs.book.Book.amend.Goals.{in-Ok, in-Err}

pub returns-clause-made : goal.returns-clause-made
returns-clause-made c =
    let old = c.self.inside.facts.entries in
    let found : fact_at old c.args.id.now ≡ Some c.in-Some.place.now = search rules in
    elim c.match-over.branch [
      | in-Ok w ↦
          let put = w.replace.new.dest in
          let fact = w.in-Ok.ensures in
          rw (w.result-is, w.self-inside-is, ← c.self.view_is)
          (Makes-amend old (c.get_mut.follows.lender put).entries c.args.id.now c.args.part.now put c.in-Some.place.now
          w.replace.result found
          w.replace.ensures.value (w.replace.ensures.after ∙ fact) (((c.get_mut.follows.holds put).3 (search rules)).0)
          (c.get_mut.follows.holds put).0 (c.get_mut.follows.holds put).4)
      | in-Err w ↦ rw w.result-is tt
    ]

pub returns-clause-unchanged : goal.returns-clause-unchanged
returns-clause-unchanged c =
    let old = c.self.inside.facts.entries in
    let found : fact_at old c.args.id.now ≡ Some c.in-Some.place.now = search rules in
    elim c.match-over.branch [
      | in-Ok w ↦ rw w.result-is tt
      | in-Err w ↦ rw (w.result-is, w.self-inside-is, ← c.self.view_is)
          ((c.get_mut.follows.holds c.in-Some.place.now).0 ∙ set_value_same _ old c.in-Some.place.now found)
    ]
