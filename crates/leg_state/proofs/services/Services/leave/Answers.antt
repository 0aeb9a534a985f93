use Rattle.std.proofs.Common.{◌∙◌, ap}
use Rattle.leg_state.specs.Listed.{ServicesSeen}
use Rattle.leg_state.proofs.EntryLemmas.{service_found, named_left, list_left, no_some}
use Rattle.leg_state.proofs.services.Services.leave.Goals as goal

pub unreachable-requires : goal.unreachable-requires
unreachable-requires c =
    let e = service_found c.args.name.now c.self.inside.map.entries c.args.self.now.list _ c.self.invariant
    (ap (λ (s : ServicesSeen). s.list) c.self.view_is) c.shift_remove.ensures.value in
    no_some _ (e ∙ c.in-None.is) c.requires

pub invariant_of-self : goal.invariant_of-self
invariant_of-self c =
    named_left c.args.name.now c.self.inside.map.entries _ c.self.invariant c.shift_remove.ensures.entries

pub returns-clause-service : goal.returns-clause-service
returns-clause-service c =
    service_found c.args.name.now c.self.inside.map.entries c.args.self.now.list _ c.self.invariant
    (ap (λ (s : ServicesSeen). s.list) c.self.view_is) c.shift_remove.ensures.value
    ∙ c.in-Some.is

pub returns-clause-list : goal.returns-clause-list
returns-clause-list c =
    list_left c.args.name.now c.self.inside.map.entries _ c.args.self.now.list c.self.invariant
    c.len.ensures.unique (ap (λ (s : ServicesSeen). s.list) c.self.view_is) c.shift_remove.ensures.entries
