use Rattle.std.proofs.Common.{◌≡◌, take}
use Rattle.cube_live.proofs.RefusalLaws.{refusals_of_accounts}
use Rattle.cube_tool.specs.Command.{status_after}
use Rattle.cube_tool.specs.declared.command.status.Status.TheVariants.{Done}
use Rattle.cube_tool.proofs.command.status.status_after.Given as goal

abbrev pub invariant-loop-place : goal.invariant-loop-place
invariant-loop-place l = status_after (refusals_of_accounts (take l.place l.ledger.accounts)) ≡ Done
