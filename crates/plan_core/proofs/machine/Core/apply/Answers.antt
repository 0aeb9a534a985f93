use Rattle.std.proofs.Common.{◌∙◌, ap}
use Rattle.eon_model.specs.Events.{apply}
use Rattle.journal_record.specs.Told.{event_told}
use Rattle.plan_core.specs.Seen.{CoreSeen}
use Rattle.plan_core.proofs.WaitingLaws.{waiting-IsKept, made-applied, applied-IsKept}
use Rattle.plan_core.proofs.machine.Core.apply.Goals as goal

pub change-requires : goal.change-requires
change-requires c = (
  c.self.inside.setup,
  waiting-IsKept c.self.inside.setup c.self.inside.live.services.list c.self.inside.live.services.spare
      c.self.inside.prepared c.replace-prepared.result c.self.inside.awaited.event c.args.e c.self.invariant.1
      (ap (λ (v : CoreSeen). v.waiting) c.self.view_is ∙ c.requires) c.replace-prepared.ensures.value,
)

pub invariant_of-self : goal.invariant_of-self
invariant_of-self c =
    let kept = waiting-IsKept c.self.inside.setup c.self.inside.live.services.list c.self.inside.live.services.spare
    c.self.inside.prepared c.replace-prepared.result c.self.inside.awaited.event c.args.e c.self.invariant.1
    (ap (λ (v : CoreSeen). v.waiting) c.self.view_is ∙ c.requires) c.replace-prepared.ensures.value in (
      c.self.invariant.0,
      applied-IsKept c.self.inside.setup c.self.inside.live.services.list c.change.new.self.services.list
          c.self.inside.live.services.spare c.change.new.self.services.spare c.replace-prepared.result
          c.replace-prepared.new.dest c.none-self-inside.result.event c.args.e kept c.change.ensures
          c.none-self-inside.ensures,
    )

pub returns-clause-state : goal.returns-clause-state
returns-clause-state c =
    let kept = waiting-IsKept c.self.inside.setup c.self.inside.live.services.list c.self.inside.live.services.spare
    c.self.inside.prepared c.replace-prepared.result c.self.inside.awaited.event c.args.e c.self.invariant.1
    (ap (λ (v : CoreSeen). v.waiting) c.self.view_is ∙ c.requires) c.replace-prepared.ensures.value in
    made-applied c.self.inside.setup c.self.inside.live.services.list c.change.new.self.services.list
    c.self.inside.live.services.spare c.replace-prepared.result c.args.e kept c.change.ensures
    ∙ ap (λ (v : CoreSeen). apply v.setup.network v.state (event_told c.args.e)) c.self.view_is
