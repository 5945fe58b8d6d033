use Rattle.std.proofs.Common.{length, inl, inr, rules}
use Rattle.std.proofs.lemmas.Bool.{cases_lt}
use Rattle.cube_tool.proofs.CommandLaws.{IfSome-take_short}
use Rattle.cube_tool.proofs.command.schema_file.read_limited.Goals as goal

pub returns-in-Ok-clause-all : goal.returns-in-Ok-clause-all
returns-in-Ok-clause-all g c =
    let bytes = c.read_to_end.new.buf in
    elim (cases_lt c.args.limit (length bytes.items)) [
      | inl long ↦ rw (c.unless_longer.ensures.longer long) tt
      | inr short ↦ rw (c.unless_longer.ensures.kept short)
          (IfSome-take_short c.args.limit (g.R.Read.remaining c.args.file) bytes.items (search rules) short)
    ]
