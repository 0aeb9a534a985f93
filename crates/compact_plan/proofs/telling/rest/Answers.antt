use Rattle.std.proofs.Common.{◌∙◌, sym}
use Rattle.compact_plan.specs.Told.{channels}
use Rattle.compact_plan.proofs.TellLaws.{rest_floor, rest_on, rest_over}
use Rattle.compact_plan.proofs.telling.rest.Goals as goal

pub returns-then-is_floor : goal.returns-then-is_floor
returns-then-is_floor c =
    rest_floor c.args.band.now (channels c.args.services.now.list c.args.lows.now) c.args.low c.args.path.now
    (sym c.is_floor.ensures ∙ c.if-is_floor.true)

pub returns-in-Some : goal.returns-in-Some
returns-in-Some c =
    rest_on c.args.band.now (channels c.args.services.now.list c.args.lows.now) c.args.low c.args.path.now c.in-Some.name
    (sym c.is_floor.ensures ∙ c.if-is_floor.false) (sym c.first_channel.ensures ∙ c.in-Some.is)

pub returns-in-None : goal.returns-in-None
returns-in-None c =
    rest_over c.args.band.now (channels c.args.services.now.list c.args.lows.now) c.args.low c.args.path.now _
    (sym c.is_floor.ensures ∙ c.if-is_floor.false) (sym c.first_channel.ensures ∙ c.in-None.is) c.rest_on_backup.ensures
