use Rattle.std.proofs.Common.{rules}
use Rattle.cube_ledger.proofs.code.code_by_presence.Goals as goal

pub returns-in_default-false : goal.returns-in_default-false
returns-in_default-false c = search rules
