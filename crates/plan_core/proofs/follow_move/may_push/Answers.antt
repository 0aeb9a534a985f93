use Rattle.std.proofs.Common.{◌∙◌, sym, ap, w16}
use Rattle.std.proofs.lemmas.Int.{to_z-of_z}
use Rattle.eon_model.specs.Legal.{Setup}
use Rattle.eon_model.specs.Events.{Event}
use Rattle.eon_model.specs.Replay.{can_follow}
use Rattle.plan_core.specs.Following.{is_change}
use Rattle.plan_core.proofs.FollowLaws.{push-follows}
use Rattle.plan_core.proofs.follow_move.may_push.Goals as goal

pub returns : goal.returns
returns c =
    c.is_done.ensures
    ∙ ap is_change (c.push.ensures c.args.setup.now (sym (ap (λ (s : Setup). s.band) c.setup.view_is)))
    ∙ sym (push-follows c.args.setup.now c.args.services.now.list c.args.name.now _ c.requires)
    ∙ ap (λ n. can_follow c.args.setup.now c.args.services.now.list (Event.Push c.args.name.now n))
    (to_z-of_z w16 c.args.to c.ranges.to)
