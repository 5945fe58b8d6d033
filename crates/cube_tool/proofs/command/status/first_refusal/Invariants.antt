use Rattle.std.proofs.Common.{◌≡◌, take}
use Rattle.std.specs.Prelude.{None}
use Rattle.cube_live.proofs.RefusalLaws.{refusals_of_accounts}
use Rattle.cube_tool.specs.Answering.{first_refusal}
use Rattle.cube_tool.proofs.command.status.first_refusal.Given as goal

abbrev pub invariant-loop-place : goal.invariant-loop-place
invariant-loop-place l = first_refusal 1 (refusals_of_accounts (take l.place l.ledger.accounts)) ≡ None
