use Rattle.std.proofs.Common.{◌≡◌, ◌∙◌, sym, ap, subst, true}
use Rattle.std.proofs.lemmas.Bool.{false≢true}
use Rattle.eon_model.specs.Events.{apply}
use Rattle.eon_model.specs.Replay.{can_follow}
use Rattle.journal_record.specs.Told.{event_told}
use Rattle.plan_core.specs.Seen.{CoreSeen}
use Rattle.plan_core.specs.Waiting.{needed}
use Rattle.plan_core.specs.declared.proposal.Prepared.TheVariants as prepared
use Rattle.plan_core.proofs.ToldLegLaws.{from_some}
use Rattle.plan_core.proofs.WaitingLaws.{followed-IsKept, needs-nothing, still-IsKept, made-applied, applied-IsKept}
use Rattle.plan_core.proofs.machine.Core.follow.Goals as goal

pub invariant_of-self : goal.invariant_of-self
invariant_of-self c = (
  c.self.invariant.0,
  still-IsKept c.self.inside.setup c.self.inside.live.services.list
      c.make_room.new.self.services.list c.self.inside.live.services.spare c.make_room.new.self.services.spare
      c.self.inside.prepared c.self.inside.awaited.event c.self.invariant.1 c.make_room.ensures.list
      c.make_room.ensures.kept,
)

pub returns-in_err-make_room-clause-no_memory : goal.returns-in_err-make_room-clause-no_memory
returns-in_err-make_room-clause-no_memory c = λ brings _.
    let is = from_some (can_follow c.self.inside.setup c.self.inside.live.services.list (event_told c.args.e.now))
    (needed c.self.inside.setup.network (event_told c.args.e.now)) c.in-Some.prepared
    (sym c.in-Some.is ∙ c.in_ok-needed.ensures.is) in
    absurd (false≢true (c.in_err-make_room.ensures.no_memory
    (is.1 ∙ needs-nothing c.self.inside.setup.network (event_told c.args.e.now) brings)))

pub change-requires : goal.change-requires
change-requires c = (
  c.self.inside.setup,
  followed-IsKept c.self.inside.setup c.self.inside.live.services.list c.make_room.new.self.services.list
      c.self.inside.live.services.spare c.make_room.new.self.services.spare c.self.inside.prepared
      c.in-Some.prepared c.self.inside.awaited.event c.args.e.now c.self.invariant.1 c.make_room.ensures.list c.requires
      (sym c.in-Some.is ∙ c.in_ok-needed.ensures.is) c.in_ok-make_room.ensures.room,
)

pub invariant_of-self-2 : goal.invariant_of-self-2
invariant_of-self-2 c =
    let kept = followed-IsKept c.self.inside.setup c.self.inside.live.services.list c.make_room.new.self.services.list
    c.self.inside.live.services.spare c.make_room.new.self.services.spare c.self.inside.prepared
    c.in-Some.prepared c.self.inside.awaited.event c.args.e.now c.self.invariant.1 c.make_room.ensures.list c.requires
    (sym c.in-Some.is ∙ c.in_ok-needed.ensures.is) c.in_ok-make_room.ensures.room in (
      c.self.invariant.0,
      applied-IsKept c.self.inside.setup c.make_room.new.self.services.list c.change.new.self.services.list
          c.make_room.new.self.services.spare c.change.new.self.services.spare c.in-Some.prepared prepared.Nothing
          c.none-self-inside.result.event c.args.e.now kept c.change.ensures c.none-self-inside.ensures,
    )

pub returns-clause-state : goal.returns-clause-state
returns-clause-state c =
    let kept = followed-IsKept c.self.inside.setup c.self.inside.live.services.list c.make_room.new.self.services.list
    c.self.inside.live.services.spare c.make_room.new.self.services.spare c.self.inside.prepared
    c.in-Some.prepared c.self.inside.awaited.event c.args.e.now c.self.invariant.1 c.make_room.ensures.list c.requires
    (sym c.in-Some.is ∙ c.in_ok-needed.ensures.is) c.in_ok-make_room.ensures.room in
    made-applied c.self.inside.setup c.make_room.new.self.services.list c.change.new.self.services.list
    c.make_room.new.self.services.spare c.in-Some.prepared c.args.e.now kept c.change.ensures
    ∙ (λ i. apply c.self.inside.setup.network (c.make_room.ensures.list i) (event_told c.args.e.now))
    ∙ ap (λ (v : CoreSeen). apply v.setup.network v.state (event_told c.args.e.now)) c.self.view_is

pub returns-clause-follows : goal.returns-clause-follows
returns-clause-follows c =
    subst (λ (v : CoreSeen). can_follow v.setup v.state (event_told c.args.e.now) ≡ true) c.self.view_is
    (from_some (can_follow c.self.inside.setup c.self.inside.live.services.list (event_told c.args.e.now))
    (needed c.self.inside.setup.network (event_told c.args.e.now)) c.in-Some.prepared
    (sym c.in-Some.is ∙ c.in_ok-needed.ensures.is)).0
