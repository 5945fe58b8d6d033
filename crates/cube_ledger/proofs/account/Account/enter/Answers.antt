use Rattle.std.proofs.Common.{◌≡◌, true, refl}
use Rattle.std.proofs.lemmas.Result.{on_ok_weaker}
use Rattle.cube_core.specs.Takes.{takes}
use Rattle.cube_ledger.specs.declared.book.BookFault.TheVariants.{Present, Absent}
use Rattle.cube_ledger.proofs.FitLaws.{AmendsAlike-takes}
use Rattle.cube_ledger.proofs.RulingLaws.{Enters-Makes, Enters-refused}
use Rattle.cube_ledger.proofs.account.Account.enter.Goals as goal
use Rattle.cube_ledger.proofs.account.Account.enter.Goals.{in-Ok-enter, in-Err-Present, in-Err-Absent, in-Err-Memory}

pub enter-requires : goal.enter-requires
enter-requires c = AmendsAlike-takes c.args.schema.now _ _ (rw c.in-Ok.is at c.requires.taken)
    (rw (← c.self.view_is) at c.requires.all_fit)

pub returns-clause-enters : goal.returns-clause-enters
returns-clause-enters c =
    let taken : takes c.args.schema.now c.in-Ok.change ≡ true = rw c.in-Ok.is at c.requires.taken in
    elim c.match-enter.branch [
      | in-Ok-enter w ↦
          rw (w.result-is, w.self-is, ← c.self.view_is)
          (Enters-Makes c.args.schema.now c.args.item _ _ c.in-Ok.change _ c.in-Ok.is taken
          w.in-Ok-enter.ensures.made refl)
      | in-Err-Present w ↦
          rw (w.result-is, w.self-is, ← c.self.view_is)
          (on_ok_weaker w.refuse-in-Err-Present.result
          (Enters-refused c.args.schema.now c.args.item _ _ _ c.in-Ok.change Present _ c.in-Ok.is taken
          (rw w.in-Err-Present.field-0-is at w.in-Err-Present.ensures.refused)
          w.in-Err-Present.ensures.unchanged refl w.present_code.ensures)
          w.refuse-in-Err-Present.ensures.ok)
      | in-Err-Absent w ↦
          rw (w.result-is, w.self-is, ← c.self.view_is)
          (on_ok_weaker w.refuse-in-Err-Absent.result
          (Enters-refused c.args.schema.now c.args.item _ _ _ c.in-Ok.change Absent _ c.in-Ok.is taken
          (rw w.in-Err-Absent.field-0-is at w.in-Err-Absent.ensures.refused)
          w.in-Err-Absent.ensures.unchanged refl w.absent_code.ensures)
          w.refuse-in-Err-Absent.ensures.ok)
      | in-Err-Memory w ↦ rw w.result-is tt
    ]
