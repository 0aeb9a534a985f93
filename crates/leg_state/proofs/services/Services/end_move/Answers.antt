use Rattle.std.proofs.Common.{◌∙◌, ap, None}
use Rattle.leg_state.specs.Listed.{ServicesSeen}
use Rattle.eon_model.specs.Services.{Service}
use Rattle.eon_model.specs.Changes.{finished}
use Rattle.leg_state.specs.Asks.{may_finish}
use Rattle.leg_state.proofs.EntryLemmas.{service_found, no_service, service_passes, named_changed, list_changed, finished-name}
use Rattle.leg_state.proofs.services.Services.end_move.Goals as goal

pub unreachable-requires : goal.unreachable-requires
unreachable-requires c =
    no_service may_finish c.args.self.now.list c.args.name.now c.requires
    (service_found c.args.name.now c.self.inside.map.entries c.args.self.now.list None c.self.invariant
    (ap (λ (s : ServicesSeen). s.list) c.self.view_is) c.in-None.ensures.value)

pub end_move-requires : goal.end_move-requires
end_move-requires c =
    service_passes may_finish c.args.self.now.list c.args.name.now c.in-Some.service.now c.requires
    (service_found c.args.name.now c.self.inside.map.entries c.args.self.now.list _ c.self.invariant
    (ap (λ (s : ServicesSeen). s.list) c.self.view_is) c.in-Some.ensures.value)

pub invariant_of-self : goal.invariant_of-self
invariant_of-self c =
    named_changed c.args.name.now c.in-Some.service.now c.end_move.new.self c.self.inside.map.entries _
    c.self.invariant c.in-Some.ensures.value
    (ap (λ (s : Service). s.name) c.end_move.ensures ∙ finished-name c.in-Some.service.now)
    (c.get_mut.follows.holds c.end_move.new.self).0

pub returns-clause-list : goal.returns-clause-list
returns-clause-list c =
    list_changed c.args.name.now finished c.in-Some.service.now c.end_move.new.self
    c.self.inside.map.entries _ c.args.self.now.list c.self.invariant c.get_mut.ensures.unique
    (ap (λ (s : ServicesSeen). s.list) c.self.view_is) c.in-Some.ensures.value
    c.end_move.ensures
    (c.get_mut.follows.holds c.end_move.new.self).0
