use Rattle.std.proofs.Common.{◌∙◌, rules, sym}
use Rattle.cube_store_commands.proofs.ReplayLaws.{behind-none}
use Rattle.cube_store_commands.specs.Replay.{TakesStored}
use Rattle.cube_store_commands.proofs.replay.ReplayChangeSink.take.Goals as goal

pub returns-in-Ok : goal.returns-in-Ok
returns-in-Ok c =
    let taken : TakesStored c.self.inside.live (c.args.source, c.args.content.now) c.apply.new.self = search rules in
    rw (← c.self.view_is) (behind-none c.self.inside.over (sym c.is_some.ensures ∙ c.if-is_some.false)
    c.self.inside.live c.apply.new.self (c.args.source, c.args.content.now) taken)
