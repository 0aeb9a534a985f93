use Rattle.std.proofs.Common.{sym, ◌∙◌, ap, subst, ◌++◌, List, ℕ, map, take, append_assoc, append-nil, arith}
use Rattle.std.specs.Option.{option_to_list}
use Rattle.std.proofs.lemmas.List.{take_all, take_more}
use Rattle.eon_model.specs.Deviations.{deviations_at, fronts_of}
use Rattle.eon_model.specs.Sets.{has_member}
use Rattle.eon_model.proofs.DeviationSearch.{length_fronts}
use Rattle.net_graph.proofs.GraphParts.{parts_of}
use Rattle.route_list.specs.Fronts.{seen, StandsAt}
use Rattle.route_list.proofs.DeviateLaws.{may-run, front-taken, devs-more}
use Rattle.route_list.proofs.deviation.renew.Goals as goal

pub loop-i-init : goal.loop-i-init
loop-i-init g c = record {
  pool = sym (append-nil (map seen c.args.pool.now.items));
  stands = c.start-front.ensures c.args.net.now;
  counted = omega arith;
}

pub deviate-requires-clause-shares : goal.deviate-requires-clause-shares
deviate-requires-clause-shares g c =
    c.requires.shares (take c.loop-i.i c.args.fibres.now)
    (front-taken c.args.fibres.now c.loop-i.i c.loop-i-test.true)

pub past-front-requires-clause-node : goal.past-front-requires-clause-node
past-front-requires-clause-node g c =
    let net = c.args.net.now in
    let front = take c.loop-i.i c.args.fibres.now in
    let run = may-run net c.nodes.ensures.graph c.args.ask.s c.args.ask.t (has_member c.args.banned.now)
    c.args.ask.max_km c.args.found.now c.requires.open_routes front
    (c.requires.shares front (front-taken c.args.fibres.now c.loop-i.i c.loop-i-test.true)) c.requires.source in
    let few = (parts_of net c.nodes.ensures.graph).nodes_few in
    omega (arith, run.node, few, c.loop-i.invariant.stands.node)

pub loop-i-preserved : goal.loop-i-preserved
loop-i-preserved g c =
    let fibres = c.args.fibres.now in
    let i = c.loop-i.i in
    let old = map seen c.args.pool.now.items in
    record {
      pool = c.in_ok-put.ensures
          ∙ (λ k. c.loop-i.invariant.pool k ++ option_to_list (c.in_ok-deviation.ensures.deviation k))
          ∙ append_assoc old _ _
          ∙ ap (λ ds. old ++ ds) (devs-more c.args.net.now c.args.ask.s c.args.ask.t (has_member c.args.banned.now)
          c.args.ask.max_km c.args.found.now fibres i c.loop-i-test.true);
      stands = subst (λ (fs : List ℕ). StandsAt c.args.net.now c.args.ask.s c.args.ask.max_km fs c.past-front.result)
          (sym (take_more fibres i 0 c.loop-i-test.true))
          (c.past-front.ensures c.args.ask.s c.args.ask.max_km (take i fibres) c.loop-i.invariant.stands);
      counted = omega (arith, c.loop-i.invariant.counted, c.in_ok-deviation.ensures.counted);
    }

pub returns-clause-pool : goal.returns-clause-pool
returns-clause-pool g c =
    c.loop-i.invariant.pool
    ∙ ap (λ fronts. map seen c.args.pool.now.items ++ deviations_at c.args.net.now c.args.ask.s c.args.ask.t
    (has_member c.args.banned.now) c.args.ask.max_km c.args.found.now fronts)
    (take_all c.loop-i.i (fronts_of c.args.fibres.now) (omega (arith, c.loop-i-test.false, length_fronts c.args.fibres.now)))
