use Rattle.std.proofs.Common.{ℤ, sym, ◌∙◌, ap, subst, IsTrue, None}
use Rattle.leg_state.specs.Listed.{ServicesSeen}
use Rattle.eon_model.specs.Services.{Service}
use Rattle.std.proofs.Common.{w16}
use Rattle.std.proofs.lemmas.Int.{to_z-of_z}
use Rattle.eon_model.specs.Changes.{with_leg, backup_at}
use Rattle.leg_state.specs.Asks.{may_refit}
use Rattle.leg_state.proofs.EntryLemmas.{service_found, no_service, service_passes, named_changed, list_changed}
use Rattle.leg_state.proofs.services.Services.set_back.Goals as goal

pub unreachable-requires : goal.unreachable-requires
unreachable-requires c =
    no_service (may_refit c.args.n) c.args.self.now.list c.args.name.now c.requires
    (service_found c.args.name.now c.self.inside.map.entries c.args.self.now.list None c.self.invariant
    (ap (λ (s : ServicesSeen). s.list) c.self.view_is) c.in-None.ensures.value)

pub set_back-requires : goal.set_back-requires
set_back-requires c =
    subst (λ (n : ℤ). IsTrue (may_refit n c.in-Some.service.now)) (sym (to_z-of_z w16 c.args.n c.ranges.n))
    (service_passes (may_refit c.args.n) c.args.self.now.list c.args.name.now c.in-Some.service.now c.requires
    (service_found c.args.name.now c.self.inside.map.entries c.args.self.now.list _ c.self.invariant
    (ap (λ (s : ServicesSeen). s.list) c.self.view_is) c.in-Some.ensures.value))

pub invariant_of-self : goal.invariant_of-self
invariant_of-self c =
    named_changed c.args.name.now c.in-Some.service.now c.set_back.new.self c.self.inside.map.entries _
    c.self.invariant c.in-Some.ensures.value
    (ap (λ (s : Service). s.name) c.set_back.ensures)
    (c.get_mut.follows.holds c.set_back.new.self).0

pub returns-clause-list : goal.returns-clause-list
returns-clause-list c =
    list_changed c.args.name.now (with_leg (backup_at c.args.n)) c.in-Some.service.now c.set_back.new.self
    c.self.inside.map.entries _ c.args.self.now.list c.self.invariant c.get_mut.ensures.unique
    (ap (λ (s : ServicesSeen). s.list) c.self.view_is) c.in-Some.ensures.value
    (c.set_back.ensures ∙ ap (λ (n : ℤ). with_leg (backup_at n) c.in-Some.service.now) (to_z-of_z w16 c.args.n c.ranges.n))
    (c.get_mut.follows.holds c.set_back.new.self).0
