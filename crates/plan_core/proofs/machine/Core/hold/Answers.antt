use Rattle.std.proofs.Common.{sym, subst}
use Rattle.plan_core.specs.Seen.{CoreSeen}
use Rattle.plan_core.specs.Waiting.{CanBeHeld}
use Rattle.plan_core.proofs.WaitingLaws.{still-IsKept, held-IsKept}
use Rattle.plan_core.proofs.machine.Core.hold.Goals as goal

pub invariant_of-self : goal.invariant_of-self
invariant_of-self c = (
  c.self.invariant.0,
  still-IsKept c.self.inside.setup c.self.inside.live.services.list
      c.make_room.new.self.services.list c.self.inside.live.services.spare c.make_room.new.self.services.spare
      c.self.inside.prepared c.self.inside.awaited.event c.self.invariant.1 c.make_room.ensures.list
      c.make_room.ensures.kept,
)

pub invariant_of-self-2 : goal.invariant_of-self-2
invariant_of-self-2 c = (
  c.self.invariant.0,
  held-IsKept c.self.inside.setup c.self.inside.live.services.list
      c.make_room.new.self.services.list c.self.inside.live.services.spare c.make_room.new.self.services.spare
      c.self.inside.prepared c.self.inside.awaited.event c.note.new.self.event c.args.proposal c.self.invariant.1
      c.make_room.ensures.list
      (subst (λ (v : CoreSeen). CanBeHeld v.setup v.state c.args.proposal) (sym c.self.view_is) c.requires)
      c.in_ok-make_room.ensures.room c.note.ensures,
)
