use Rattle.std.proofs.Common.{◌∙◌, Some, w16}
use Rattle.std.proofs.lemmas.Int.{to_z-of_z}
use Rattle.eon_model.specs.Events.{Event}
use Rattle.eon_model.specs.Services.{drift_units}
use Rattle.row_events.proofs.RowEventLaws.{turn-push, may-change, has-changed}
use Rattle.row_events.proofs.moves.push.Goals as goal

pub move_channel-requires : goal.move_channel-requires
move_channel-requires c =
    may-change (λ name. Event.Push name c.args.to) c.args.service.now _
    (turn-push _ c.args.service.now c.service.view_is c.args.to _
    (c.way_to.ensures
    ∙ (λ i. drift_units (c.leg.view_is i).work.slot (Some (to_z-of_z w16 c.args.to c.ranges.to i))))) c.args.rows.now c.requires

pub returns : goal.returns
returns c =
    has-changed (λ name. Event.Push name c.args.to) c.args.service.now _
    (turn-push _ c.args.service.now c.service.view_is c.args.to _
    (c.way_to.ensures
    ∙ (λ i. drift_units (c.leg.view_is i).work.slot (Some (to_z-of_z w16 c.args.to c.ranges.to i))))) c.args.rows.now c.move_channel.new.self
    c.move_channel.ensures
