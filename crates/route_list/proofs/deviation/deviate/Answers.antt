use Rattle.std.proofs.Common.{refl, sym, ◌∙◌, ap, ◌++◌, arith}
use Rattle.eon_model.specs.Sets.{has_member}
use Rattle.route_list.proofs.DeviateLaws.{open-numbers, may-run, no-deviation, is-made, is-deviation}
use Rattle.route_list.proofs.deviation.deviate.Goals as goal

pub with_used-used-requires : goal.with_used-used-requires
with_used-used-requires g c =
    open-numbers c.args.net.now c.nodes.ensures.graph c.args.ask.s c.args.ask.t (has_member c.args.banned.now)
    c.args.ask.max_km c.args.found.now c.requires.open_routes

pub least_walk-requires-clause-source : goal.least_walk-requires-clause-source
least_walk-requires-clause-source g c =
    let run = may-run c.args.net.now c.nodes.ensures.graph c.args.ask.s c.args.ask.t (has_member c.args.banned.now)
    c.args.ask.max_km c.args.found.now c.requires.open_routes c.args.shared.now c.requires.shares c.requires.source in
    omega (arith, run.node, c.requires.stands.node)

pub returns-in_default-clause-deviation : goal.returns-in_default-clause-deviation
returns-in_default-clause-deviation g c =
    no-deviation c.args.net.now c.nodes.ensures.graph c.args.ask.s c.args.ask.t (has_member c.args.banned.now)
    c.args.ask.max_km c.args.found.now c.requires.open_routes c.args.shared.now c.requires.shares c.args.front.now
    c.requires.stands c.with_used-used.result c.with_used-used.ensures (sym c.in_default.is ∙ c.in_ok-rest.ensures.route)

pub unreachable-requires : goal.unreachable-requires
unreachable-requires g c =
    is-made c.args.net.now c.nodes.ensures.graph c.args.ask.s c.args.ask.t (has_member c.args.banned.now)
    c.args.ask.max_km c.args.found.now c.requires.open_routes c.args.shared.now c.requires.shares c.args.front.now
    c.requires.stands c.with_used-used.result c.with_used-used.ensures c.in-Some.rest
    (sym c.in-Some.is ∙ c.in_ok-rest.ensures.route) c.deref.result.now
    (c.deref.ensures.value ∙ c.in_ok-fibres.ensures ∙ ap (λ fs. c.args.shared.now ++ fs) c.fibres.ensures)
    (sym c.in_default-2.is ∙ c.in_ok-route.ensures.route)

pub returns-clause-deviation : goal.returns-clause-deviation
returns-clause-deviation g c =
    is-deviation c.args.net.now c.nodes.ensures.graph c.args.ask.s c.args.ask.t (has_member c.args.banned.now)
    c.args.ask.max_km c.args.found.now c.requires.open_routes c.args.shared.now c.requires.shares c.args.front.now
    c.requires.stands c.with_used-used.result c.with_used-used.ensures c.in-Some.rest
    (sym c.in-Some.is ∙ c.in_ok-rest.ensures.route) c.deref.result.now
    (c.deref.ensures.value ∙ c.in_ok-fibres.ensures ∙ ap (λ fs. c.args.shared.now ++ fs) c.fibres.ensures)
    c.in-Some-2.route (sym c.in-Some-2.is ∙ c.in_ok-route.ensures.route) _ refl
